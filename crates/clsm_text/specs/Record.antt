-- Records of calls, as the words of a line say them.
use Rattle.std.specs.Prelude.{◌≡◌, ℕ, ◌^◌, ◌-◌, min, ⊤, List, [], ◌∷◌, ◌++◌, codes}
use Rattle.std.specs.Prelude.{Option, Some, None}
use Rattle.std.specs.List.{AllZip, before_first, after_first}
use Rattle.std.specs.Str.Parse.{digits_value}
use Rattle.clsm_model.specs.declared.record.CallRecord.{CallRecord}
use Rattle.clsm_model.specs.declared.record.Deed.{Deed}
use Rattle.clsm_model.specs.declared.record.Deed.TheVariants.{Put, Remove, Rmw, Get}
use Rattle.clsm_model.specs.declared.record.Deed.TheVariants.{Snapshot, Close, GetAt, Scan, Page, Batch}
use Rattle.clsm_text.specs.Member.{is_equals, WritesChange, WritesNumber, WritesValue}
use Rattle.clsm_text.specs.Member.{WriteMembers}
use Rattle.clsm_text.specs.Number.{IsNumber}

-- ---- single words

-- the text writes this seat; a number past 32 bits stands for the greatest seat
abbrev pub WritesSeat : List ℕ → ℕ → Type 0
WritesSeat text seat = IsNumber text × (seat ≡ min (digits_value 10 text) (2 ^ 32 - 1))

-- the text writes this value, or `none` where there is none
abbrev pub WritesReply : List ℕ → Option (List ℕ) → Type 0
WritesReply text None = text ≡ codes "none"
WritesReply text (Some value) = WritesValue text value

-- the text writes this row: its key, `=`, and its value
abbrev pub WritesRow : List ℕ → (ℕ × List ℕ) → Type 0
WritesRow text row =
    WritesNumber (before_first is_equals text) row.0
    × WritesValue (after_first is_equals text) row.1

-- ---- several words

-- the words write the rows, a word for each
abbrev pub WriteRows : List (List ℕ) → List (ℕ × List ℕ) → Type 0
WriteRows words rows = AllZip WritesRow words rows

-- the words write the rows of a page, and then `more` and a key where there is a next row
abbrev pub WritePage : List (List ℕ) → List (ℕ × List ℕ) → Option ℕ → Type 0
WritePage words rows None = WriteRows words rows
WritePage words rows (Some key) =
    (front : List (List ℕ)) × (k : List ℕ)
    × (words ≡ front ++ (codes "more" ∷ k ∷ [])) × WriteRows front rows × WritesNumber k key

-- ---- deeds

-- the name of the deed
abbrev pub name_of : Deed → List ℕ
name_of (Put key value) = codes "put"
name_of (Remove key) = codes "remove"
name_of (Rmw key old change) = codes "rmw"
name_of (Get key reply) = codes "get"
name_of Snapshot = codes "snap"
name_of Close = codes "close"
name_of (GetAt key reply) = codes "getat"
name_of (Scan lo hi rows) = codes "scan"
name_of (Page range rows more) = codes "page"
name_of (Batch members) = codes "batch"

-- the words write the key of a reading, and what it answered
abbrev pub WriteReading : List (List ℕ) → (ℕ × Option (List ℕ)) → Type 0
WriteReading (k ∷ r ∷ []) reading = WritesNumber k reading.0 × WritesReply r reading.1
WriteReading _ reading = ⊥

-- the words after its name write the deed
abbrev pub WriteDeed : Deed → List (List ℕ) → Type 0
WriteDeed (Put key value) (k ∷ v ∷ []) = WritesNumber k key × WritesValue v value
WriteDeed (Remove key) (k ∷ []) = WritesNumber k key
WriteDeed (Rmw key old change) (k ∷ o ∷ c ∷ []) =
    WritesNumber k key × WritesReply o old × WritesChange c change
WriteDeed (Get key reply) words = WriteReading words (key, reply)
WriteDeed Snapshot [] = ⊤
WriteDeed Close [] = ⊤
WriteDeed (GetAt key reply) words = WriteReading words (key, reply)
WriteDeed (Scan lo hi rows) (l ∷ h ∷ words) =
    WritesNumber l lo × WritesNumber h hi × WriteRows words rows
WriteDeed (Page range rows more) (f ∷ h ∷ m ∷ words) =
    WritesNumber f range.from × WritesNumber h range.hi × WritesNumber m range.max
    × WritePage words rows more
WriteDeed (Batch members) words = WriteMembers words members
WriteDeed _ _ = ⊥

-- the words say the deed: its name, and then what writes it
abbrev pub SayDeed : List (List ℕ) → Deed → Type 0
SayDeed [] deed = ⊥
SayDeed (name ∷ words) deed = (name ≡ name_of deed) × WriteDeed deed words

-- ---- records

-- the words say the record: its seat, its time and its deed
abbrev pub Say : List (List ℕ) → CallRecord → Type 0
Say (s ∷ t ∷ words) r = WritesSeat s r.seat × WritesNumber t r.time × SayDeed words r.deed
Say _ r = ⊥
