-- What an addition and a first write make of a key's old value.
use Rattle.std.specs.Prelude.{◌≡◌, ℕ, ◌+◌, ◌^◌, List, [], ◌∷◌, cond, nat_lt, Option, Some, None}
use Rattle.clsm_model.specs.declared.slot.Change.{Change}
use Rattle.clsm_model.specs.declared.slot.Change.TheVariants.{Keep, Set}

-- the word of the value plus another, where it has one word and the sum fits in 64 bits; of no
-- value, that other
abbrev pub word_sum : Option (List ℕ) → ℕ → Option ℕ
word_sum None by = Some by
word_sum (Some []) by = None
word_sum (Some (word ∷ [])) by = cond (nat_lt (word + by) (2 ^ 64)) (Some (word + by)) None
word_sum (Some (word ∷ more ∷ words)) by = None

-- the word is set, or the old value is kept where there is none
abbrev pub set_or_keep : Option ℕ → Change
set_or_keep None = Keep
set_or_keep (Some word) = Set (word ∷ [])

-- the sum, or the old value where there is none
abbrev pub added : Option (List ℕ) → ℕ → Change
added old by = set_or_keep (word_sum old by)

-- `add` sets the sum, or keeps the old value if there is none
abbrev pub Adds : ℕ → Option (List ℕ) → Change → Type 0
Adds by old change = change ≡ added old by

-- the value, where there is no old one
abbrev pub put_if_absent : Option (List ℕ) → List ℕ → Change
put_if_absent None value = Set value
put_if_absent (Some old) value = Keep

-- `put_if_absent` sets the value if there was none, and else keeps the old one
abbrev pub PutsIfAbsent : List ℕ → Option (List ℕ) → Change → Type 0
PutsIfAbsent value old change = change ≡ put_if_absent old value
