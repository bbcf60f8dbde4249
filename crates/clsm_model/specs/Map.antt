-- The plain map of a history below a time, as its pairs by rising key.
use Rattle.std.specs.Prelude.{◌≡◌, ℕ, ◌<◌, ◌≤◌, ◌==◌, ◌&&◌, nat_le, cond, List, [], ◌∷◌, Option, Some, None, IsSome, filter}
use Rattle.std.specs.List.Sorted.{IsStrictlySortedBy}
use Rattle.std.specs.Map.{keys_of}
use Rattle.std.specs.Ordering.{nat_cmp}
use Rattle.clsm_model.specs.declared.slot.Slot.{Slot}
use Rattle.clsm_model.specs.declared.slot.Slot.TheVariants.{Nothing, Wrote}
use Rattle.clsm_model.specs.History.{History, value}

-- a key and the words of its value
abbrev pub Pair : Type 0
Pair = ℕ × List ℕ

-- what the pairs give for the key
abbrev pub value_at : List Pair → ℕ → Option (List ℕ)
value_at [] k = None
value_at (pair ∷ pairs) k = cond (k == pair.0) (Some pair.1) (value_at pairs k)

-- each key is below those behind it
abbrev pub KeysRise : List Pair → Type 0
KeysRise pairs = IsStrictlySortedBy nat_cmp (keys_of pairs)

-- the pairs are the map of the history below the time s: all keys that have a value there
pub record IsMap (h : History) (s : ℕ) (pairs : List Pair) : Type 0 where
  pub rise : KeysRise pairs
  pub values : (k : ℕ) → value_at pairs k ≡ value h k s

-- what the slot makes of the value of the key k
abbrev pub value_after : Slot → ℕ → Option (List ℕ) → Option (List ℕ)
value_after Nothing k before = before
value_after (Wrote seat key written) k before = cond (key == k) written before

-- the key has what was written, and each other key keeps its value
pub record WritesKey (key : ℕ) (written : Option (List ℕ)) (old new : List Pair) : Type 0 where
  pub rise : KeysRise new
  pub values : (k : ℕ) → value_at new k ≡ cond (key == k) written (value_at old k)

-- the slot is played on the map: a write changes its key, and each other key keeps its value
abbrev pub Applies : Slot → List Pair → List Pair → Type 0
Applies slot old new = (k : ℕ) → value_at new k ≡ value_after slot k (value_at old k)

-- the slot writes a value at a key that has none
abbrev pub AddsKey : Slot → List Pair → Type 0
AddsKey Nothing pairs = ⊥
AddsKey (Wrote seat key written) pairs = IsSome written × (value_at pairs key ≡ None)

-- the pairs with lo <= key <= hi
abbrev pub between : ℕ → ℕ → List Pair → List Pair
between lo hi pairs = filter (λ pair. nat_le lo pair.0 && nat_le pair.0 hi) pairs

-- the rows are all keys from lo to hi that have a value below the time s, by rising key
pub record IsRange (h : History) (s lo hi : ℕ) (rows : List Pair) : Type 0 where
  pub rise : KeysRise rows
  pub inside : (k : ℕ) → lo ≤ k → k ≤ hi → value_at rows k ≡ value h k s
  pub below : (k : ℕ) → k < lo → value_at rows k ≡ None
  pub above : (k : ℕ) → hi < k → value_at rows k ≡ None
