-- Values as C has them.
use Rattle.std.specs.Prelude.{◌≡◌, ℕ, ◌-◌, List, drop, length, replicate, take, Option, Some, None}
use Rattle.std.proofs.Common.{subst, sym}
use Rattle.clsm_model.specs.Map.{Pair}
use Rattle.clsm_c.specs.declared.types.CoreRow.{CoreRow}
use Rattle.clsm_c.specs.declared.types.CoreValue.{CoreValue}

-- this is the value: as many words as its length says; or there is none
abbrev pub IsValue : CoreValue → Option (List ℕ) → Type 0
IsValue v None = v.length ≡ 0
IsValue v (Some words) = (v.length ≡ length words) × (take v.length v.words ≡ words)

-- and the words behind its length are 0
abbrev pub TellsValue : CoreValue → Option (List ℕ) → Type 0
TellsValue v reply = IsValue v reply × (drop v.length v.words ≡ replicate (8 - v.length) 0)

-- the words that it tells
abbrev pub told_words : CoreValue → List ℕ
told_words v = take v.length v.words

-- a row as a pair: its key, with the words that its value tells
abbrev pub row_pair : CoreRow → Pair
row_pair row = (row.key, told_words row.value)

-- and it tells a value
abbrev pub TellsRow : CoreRow → Type 0
TellsRow row = TellsValue row.value (Some (told_words row.value))

-- a row that tells a pair holds it
pub row_told : (row : CoreRow) (pair : Pair) → row.key ≡ pair.0 → TellsValue row.value (Some pair.1) → (row_pair row ≡ pair) × TellsRow row
row_told row pair at told =
    ((λ i. (at i, told.0.1 i)), subst (λ (words : List ℕ). TellsValue row.value (Some words)) (sym told.0.1) told)
