-- What rows have to give so that they are a range of a history, in the words of its slots.
use Rattle.std.specs.Prelude.{◌≡◌, ◌≢◌, ℕ, ◌<◌, ◌≤◌, List, Option, Some, None}
use Rattle.clsm_model.specs.declared.slot.Slot.{Slot}
use Rattle.clsm_model.specs.declared.slot.Slot.TheVariants.{Wrote}
use Rattle.clsm_model.specs.History.{History, value}
use Rattle.clsm_model.specs.Map.{Pair, IsRange, KeysRise, value_at}
use Rattle.clsm_model.specs.Right.{IsPage}

-- the rows give the key the value that it has below the time
abbrev pub Gives : History → ℕ → List Pair → ℕ → Type 0
Gives h s rows k = value_at rows k ≡ value h k s

-- the row's key is within lo and hi, and has that value
abbrev pub IsGivenRow : History → ℕ → ℕ → ℕ → List Pair → Pair → Type 0
IsGivenRow h s lo hi rows row = (lo ≤ row.0) × (row.0 ≤ hi) × Gives h s rows row.0

-- so has the key of the write, where it is within them
abbrev pub IsGivenWrite : History → ℕ → ℕ → ℕ → List Pair → Option Slot → Type 0
IsGivenWrite h s lo hi rows (Some (Wrote seat k written)) = lo ≤ k → k ≤ hi → Gives h s rows k
IsGivenWrite h s lo hi rows slot = Unit {0}

-- the rows are all keys from lo on, below hi, that have a value below the time s, by rising key
pub record IsRangeBelow (h : History) (s lo hi : ℕ) (rows : List Pair) : Type 0 where
  pub rise : KeysRise rows
  pub inside : (k : ℕ) → lo ≤ k → k < hi → Gives h s rows k
  pub below : (k : ℕ) → k < lo → value_at rows k ≡ None
  pub above : (k : ℕ) → hi ≤ k → value_at rows k ≡ None

-- the rows are the first so many of all pairs with keys from lo to hi, and the key of the next one
-- is this
abbrev pub IsPageOf : History → ℕ → ℕ → ℕ → ℕ → List Pair → Option ℕ → Type 0
IsPageOf h s lo hi max rows more = (all : List Pair) × IsRange h s lo hi all × IsPage all max rows more

-- the key is one from lo to hi that has a value below the time s
abbrev pub IsNextKey : History → ℕ → ℕ → ℕ → ℕ → Type 0
IsNextKey h s lo hi k = (lo ≤ k) × (k ≤ hi) × (value h k s ≢ None)
