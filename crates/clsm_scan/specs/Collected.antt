-- The rows that a scan or a page collects, and where it stopped.
use Rattle.std.specs.Prelude.{◌≡◌, ℕ, ◌<◌, ◌≤◌, Bool, true, false, nat_le, min, List, [], ◌∷◌, length, Option, Some, None}
use Rattle.std.specs.Borrow.{MutBor}
use Rattle.std.specs.List.{AllByRecursion, FoldsTo}
use Rattle.clsm_model.specs.Map.{KeysRise, Pair, value_at}
use Rattle.clsm_model.specs.Right.{first_key}
use Rattle.clsm_levels.specs.declared.entry.Entry.{Entry}
use Rattle.clsm_levels.specs.Entry.{value_of}
use Rattle.clsm_scan.specs.Heads.{has_value, rows_of}

-- the value that the newest write of each key left, where `found` gives that write
abbrev pub left_at : (ℕ → Option Entry) → ℕ → Option (List ℕ)
left_at found key = value_of (found key)

-- the next key from `from` to `hi` that has a value, with it; or none of them has one
abbrev pub IsNextRow : (ℕ → Option (List ℕ)) → ℕ → ℕ → Option Pair → Type 0
IsNextRow value from hi None = (k : ℕ) → from ≤ k → k ≤ hi → value k ≡ None
IsNextRow value from hi (Some row) = (from ≤ row.0) × (row.0 ≤ hi) × (value row.0 ≡ Some row.1) × ((k : ℕ) → from ≤ k → k < row.0 → value k ≡ None)

-- the head of a cursor is that row, and this is its key
pub record IsHeadRow (value : ℕ → Option (List ℕ)) (from hi : ℕ) (head : Option Entry) (key : ℕ) : Type 0 where
  pub words : List ℕ
  pub is : rows_of head ≡ (key, words) ∷ []
  pub has : has_value head ≡ true
  pub next : IsNextRow value from hi (Some (key, words))

-- so it is, or there is no next row
abbrev pub IsNextKey : (ℕ → Option (List ℕ)) → ℕ → ℕ → Option Entry → Option ℕ → Type 0
IsNextKey value from hi head None = IsNextRow value from hi None
IsNextKey value from hi head (Some key) = IsHeadRow value from hi head key

-- so many are as many as may be
abbrev pub is_full : Option ℕ → ℕ → Bool
is_full None n = false
is_full (Some max) n = nat_le max n

-- the rows are all keys from `lo` on and below `end` that have a value, by rising key
pub record AreRowsTo (value : ℕ → Option (List ℕ)) (lo end : ℕ) (rows : List Pair) : Type 0 where
  pub rise : KeysRise rows
  pub ends : AllByRecursion (λ pair. pair.0 < end) rows
  pub inside : (k : ℕ) → lo ≤ k → k < end → value_at rows k ≡ value k
  pub below : (k : ℕ) → k < lo → value_at rows k ≡ None
  pub above : (k : ℕ) → end ≤ k → value_at rows k ≡ None

-- the rows are all keys from `lo` to `hi` that have a value, by rising key
pub record AreAll (value : ℕ → Option (List ℕ)) (lo hi : ℕ) (rows : List Pair) : Type 0 where
  pub rise : KeysRise rows
  pub inside : (k : ℕ) → lo ≤ k → k ≤ hi → value_at rows k ≡ value k
  pub below : (k : ℕ) → k < lo → value_at rows k ≡ None
  pub above : (k : ℕ) → hi < k → value_at rows k ≡ None

-- at most so many, where a number is given
abbrev pub IsAtMost : ℕ → Option ℕ → Type 0
IsAtMost n None = Unit {0}
IsAtMost n (Some max) = n ≤ max

-- a page that was stopped: as many rows as it may have, and this is the key of the next one
pub record IsStopped (value : ℕ → Option (List ℕ)) (lo hi : ℕ) (max : Option ℕ) (rows : List Pair) (more : ℕ) : Type 0 where
  pub gives : AreRowsTo value lo more rows
  pub from : lo ≤ more
  pub until : more ≤ hi
  pub there : (words : List ℕ) × (value more ≡ Some words)
  pub full : max ≡ Some (length rows)

-- the rows are all from `lo` to `hi`, or as many of the first as may be, and the key of the next
-- one
abbrev pub IsCollected : (ℕ → Option (List ℕ)) → ℕ → ℕ → Option ℕ → List Pair → Option ℕ → Type 0
IsCollected value lo hi max rows None = AreAll value lo hi rows × IsAtMost (length rows) max
IsCollected value lo hi max rows (Some more) = IsStopped value lo hi max rows more

-- So many keys from `lo` to `hi` have a value, as far as a word can hold their number: it is that
-- of the rows of all of them, and this is the first of the keys
pub record IsCount (value : ℕ → Option (List ℕ)) (lo hi n : ℕ) (first : Option ℕ) : Type 0 where
  pub rows : List Pair
  pub all : IsCollected value lo hi None rows None
  pub counted : n ≡ min (length rows) 18446744073709551615
  pub begins : first ≡ first_key rows

-- A visitor took the rows of all keys from `lo` to `hi` that have a value, by rising key: so many,
-- as far as a word can hold their number, of which this is the first key
pub record IsVisit {V : Type 0} (Takes : V → Pair → V → Type 0) (value : ℕ → Option (List ℕ)) (lo hi n : ℕ) (first : Option ℕ) (before after : V) : Type 0 where
  pub count : IsCount value lo hi n first
  pub taken : FoldsTo Takes before count.rows after

-- what is behind the reference makes a step, and the reference stays
abbrev pub StepsBehind : {F : Type 0} → (F → F → Type 0) → MutBor F → MutBor F → Type 0
StepsBehind Steps before after = Steps before.now after.now × (after.ghost_name ≡ before.ghost_name)
