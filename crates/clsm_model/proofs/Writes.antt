-- Members of which each is a write.
use Rattle.std.proofs.Common.{◌≡◌, ◌↔◌, Bool, true, false, IsTrue, List, [], ◌∷◌, refl, sym, ◌∙◌}
use Rattle.std.proofs.lemmas.Bool.{and_from, and_parts, true≢false}
use Rattle.std.specs.List.{list_all}
use Rattle.clsm_model.specs.declared.slot.Change.{Change}
use Rattle.clsm_model.specs.declared.slot.Change.TheVariants.{Keep, Set, Remove as Erase}
use Rattle.clsm_model.specs.Right.{AreWrites, Member}

-- the change does not keep the key
abbrev pub is_change : Change → Bool
is_change Keep = false
is_change change = true

changes : (change : Change) → is_change change ≡ true → change ≡ Keep → ⊥
changes Keep is same = true≢false (sym is)
changes (Set written) is same = cc same
changes Erase is same = cc same

changed : (change : Change) → (change ≡ Keep → ⊥) → is_change change ≡ true
changed Keep other = absurd (other refl)
changed (Set written) other = refl
changed Erase other = refl

all_writes : (members : List Member) → list_all (λ m. is_change m.1) members ≡ true → AreWrites members
all_writes [] all = tt
all_writes (m ∷ ms) all = let parts = and_parts (is_change m.1) (list_all (λ q. is_change q.1) ms) all in (changes m.1 parts.0, all_writes ms parts.1)

writes_all : (members : List Member) → AreWrites members → list_all (λ m. is_change m.1) members ≡ true
writes_all [] writes = refl
writes_all (m ∷ ms) writes = and_from (is_change m.1) (list_all (λ q. is_change q.1) ms) (changed m.1 writes.0) (writes_all ms writes.1)

pub are_writes : (members : List Member) (all : Bool) → all ≡ list_all (λ m. is_change m.1) members → IsTrue all ↔ AreWrites members
are_writes members all is = (λ h. all_writes members (sym is ∙ h), λ writes. is ∙ writes_all members writes)
