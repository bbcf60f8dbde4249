-- Changes and the members of a batch, as they are written.
use Rattle.std.specs.Prelude.{◌≡◌, ℕ, ◌==◌, Bool, List, codes}
use Rattle.std.specs.List.{AllZip, before_first, after_first}
use Rattle.std.specs.Str.Parse.{digits_value}
use Rattle.clsm_model.specs.declared.slot.Change.{Change}
use Rattle.clsm_model.specs.declared.slot.Change.TheVariants.{Keep, Set, Remove}
use Rattle.clsm_text.specs.Number.{IsNumber, IsValue, value_of}

-- the text writes this number
abbrev pub WritesNumber : List ℕ → ℕ → Type 0
WritesNumber text number = IsNumber text × (number ≡ digits_value 10 text)

-- the text writes this value
abbrev pub WritesValue : List ℕ → List ℕ → Type 0
WritesValue text value = IsValue text × (value ≡ value_of text)

-- the text writes this change: `keep`, a new value, or `none` for a removal
abbrev pub WritesChange : List ℕ → Change → Type 0
WritesChange text Keep = text ≡ codes "keep"
WritesChange text (Set value) = WritesValue text value
WritesChange text Remove = text ≡ codes "none"

-- the byte is `=`
abbrev pub is_equals : ℕ → Bool
is_equals b = b == 61

-- the text writes this member of a batch: its key, `=`, and what it does there
abbrev pub WritesMember : List ℕ → (ℕ × Change) → Type 0
WritesMember text member =
    WritesNumber (before_first is_equals text) member.0
    × WritesChange (after_first is_equals text) member.1

-- the words write the members, a word for each
abbrev pub WriteMembers : List (List ℕ) → List (ℕ × Change) → Type 0
WriteMembers words members = AllZip WritesMember words members
