-- The ends of a range: its first row, and its last.
use Rattle.std.specs.Prelude.{◌≡◌, ℕ, ◌<◌, ◌≤◌, Some, None}
use Rattle.clsm_model.specs.History.{History, value}
use Rattle.clsm_model.specs.Map.{Pair}

-- no key from `lo` to `hi` has a value below the time s
abbrev pub HasNoRow : History → ℕ → ℕ → ℕ → Type 0
HasNoRow h s lo hi = (k : ℕ) → lo ≤ k → k ≤ hi → value h k s ≡ None

-- the row is a key from `lo` to `hi`, and the value that it has below the time s
pub record IsRow (h : History) (s lo hi : ℕ) (row : Pair) : Type 0 where
  pub from : lo ≤ row.0
  pub until : row.0 ≤ hi
  pub value : value h row.0 s ≡ Some row.1

-- and no key of the range below it has a value
pub record IsFirst (h : History) (s lo hi : ℕ) (row : Pair) : Type 0 where
  pub is : IsRow h s lo hi row
  pub below : (k : ℕ) → lo ≤ k → k < row.0 → value h k s ≡ None

-- or none above it
pub record IsLast (h : History) (s lo hi : ℕ) (row : Pair) : Type 0 where
  pub is : IsRow h s lo hi row
  pub above : (k : ℕ) → row.0 < k → k ≤ hi → value h k s ≡ None
