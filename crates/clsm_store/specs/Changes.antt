-- What a replacement makes of a key's old value.
use Rattle.std.specs.Prelude.{◌≡◌, ◌≢◌, ℕ, List, Option, Some, None}
use Rattle.clsm_model.specs.declared.slot.Change.{Change}
use Rattle.clsm_model.specs.declared.slot.Change.TheVariants.{Keep, Set, Remove}

-- the value is set, or the key is removed where there is none
abbrev pub set_or_remove : Option (List ℕ) → Change
set_or_remove None = Remove
set_or_remove (Some value) = Set value

-- where the old value is the expected one, the change makes the desired one of it; else it keeps it
pub record Replaces (old expected desired : Option (List ℕ)) (change : Change) : Type 0 where
  pub met : old ≡ expected → change ≡ set_or_remove desired
  pub missed : old ≢ expected → change ≡ Keep
