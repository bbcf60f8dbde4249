-- Conditions on the map of the writes below a time.
use Rattle.std.specs.Prelude.{◌≡◌, ℕ, List, take, IsSomeAnd, slice_get}
use Rattle.std.specs.List.{AllByRecursion}
use Rattle.clsm_model.specs.History.{History, value}
use Rattle.clsm_store_calls.specs.declared.conditions.Condition.{Condition}
use Rattle.clsm_store_calls.specs.declared.conditions.Condition.TheVariants.{Counts, Has}
use Rattle.clsm_store_calls.specs.Scanning.{IsKeyCount}

-- the condition holds below the time t: the key has this value, or none; or so many keys of the
-- range have a value
abbrev pub Holds : History → ℕ → Condition → Type 0
Holds h t (Has key expected) = value h key t ≡ expected
Holds h t (Counts lo hi keys) = IsKeyCount h t lo hi keys

-- and so does each of them
abbrev pub AllHold : History → ℕ → List Condition → Type 0
AllHold h t conditions = AllByRecursion (Holds h t) conditions

-- the condition at this place does not, and all before it do
pub record IsFirstUnmet (h : History) (t : ℕ) (conditions : List Condition) (index : ℕ) : Type 0 where
  pub before : AllHold h t (take index conditions)
  pub unmet : IsSomeAnd (slice_get conditions index) (λ condition. ¬ Holds h t condition)
