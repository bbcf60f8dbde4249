-- The rows of a range by falling key, and where their page stopped.
use Rattle.std.specs.Prelude.{◌≡◌, ℕ, ◌+◌, ◌≤◌, ◌++◌, ◌∷◌, List, length, reverse, Option, Some, None}
use Rattle.clsm_model.specs.Map.{Pair}
use Rattle.clsm_scan.specs.Collected.{AreAll}

-- a page downwards that was stopped: as many rows as it may have, which are all keys above that of
-- the next one, by falling key
pub record IsStoppedDown (value : ℕ → Option (List ℕ)) (lo hi max : ℕ) (rows : List Pair) (more : ℕ) : Type 0 where
  pub gives : AreAll value (more + 1) hi (reverse rows)
  pub from : lo ≤ more
  pub until : more ≤ hi
  pub there : (words : List ℕ) × (value more ≡ Some words)
  pub full : max ≡ length rows

-- the rows by falling key are all from `lo` to `hi`, or as many of the greatest as may be, and the
-- key of the next one
abbrev pub IsCollectedDown : (ℕ → Option (List ℕ)) → ℕ → ℕ → ℕ → List Pair → Option ℕ → Type 0
IsCollectedDown value lo hi max rows None = AreAll value lo hi (reverse rows) × (length rows ≤ max)
IsCollectedDown value lo hi max rows (Some more) = IsStoppedDown value lo hi max rows more

-- ---- a window's rows, handed on from the last to the first

-- there was room for those above this key alone, and there is no more
pub record IsCutDown (window before after : List Pair) (room key : ℕ) : Type 0 where
  pub lower : List Pair
  pub upper : List Pair
  pub words : List ℕ
  pub split : window ≡ lower ++ (key, words) ∷ upper
  pub put : after ≡ before ++ reverse upper
  pub full : room ≡ length after

-- all were put behind those before; or as many as there was room for
abbrev pub IsHandedDown : List Pair → List Pair → List Pair → ℕ → Option ℕ → Type 0
IsHandedDown window before after room None = after ≡ before ++ reverse window
IsHandedDown window before after room (Some key) = IsCutDown window before after room key
