-- What holds of something, where it is there.
use Rattle.std.specs.Prelude.{◌≡◌, ℕ, Option, Some, None, refl}
use Rattle.clsm_levels.specs.declared.entry.Entry.{Entry}

-- what the walk finds: nothing, where there is none
abbrev pub found_in : {W : Type 0} → (W → ℕ → Option Entry) → Option W → ℕ → Option Entry
found_in found None key = None
found_in found (Some w) key = found w key

-- what the walk came by last: nothing, where there is none
abbrev pub last_in : {W : Type 0} → (W → Option Entry) → Option W → Option Entry
last_in last None = None
last_in last (Some w) = last w

-- it holds of what is there
abbrev pub If : {W : Type 0} → (W → Type 0) → Option W → Type 0
If holds None = Unit {0}
If holds (Some w) = holds w

-- ---- what holds of each holds of one that may be missing

pub if_so : {W : Type 0} (P Q : W → Type 0) (o : Option W) → ((w : W) → P w → Q w) → If P o → If Q o
if_so P Q None each holds = holds
if_so P Q (Some w) each holds = each w holds

pub found_same : {W : Type 0} (found found' : W → ℕ → Option Entry) (R : W → Type 0) (o : Option W) → ((w : W) → R w → (key : ℕ) → found' w key ≡ found w key)
    → If R o → (key : ℕ) → found_in found' o key ≡ found_in found o key
found_same found found' R None each over key = refl
found_same found found' R (Some w) each over key = each w over key
