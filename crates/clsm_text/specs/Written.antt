-- The line of a record, as it is written.
use Rattle.std.specs.Prelude.{ℕ, List, [], ◌∷◌, ◌++◌, map, flat_map, codes, Option, Some, None}
use Rattle.std.specs.Fmt.{decimal}
use Rattle.std.specs.List.{join_with_byte}
use Rattle.clsm_model.specs.Value.{text}
use Rattle.clsm_model.specs.declared.record.CallRecord.{CallRecord}
use Rattle.clsm_model.specs.declared.record.Deed.{Deed}
use Rattle.clsm_model.specs.declared.record.Deed.TheVariants.{Put, Remove, Rmw, Get}
use Rattle.clsm_model.specs.declared.record.Deed.TheVariants.{Snapshot, Close, GetAt, Scan, Page, Batch}
use Rattle.clsm_model.specs.declared.slot.Change.{Change}
use Rattle.clsm_model.specs.declared.slot.Change.TheVariants.{Keep, Set, Remove as Removal}
use Rattle.clsm_audit.specs.declared.place.Moments.{Moments}
use Rattle.clsm_text.specs.Record.{name_of}

-- a value, or `none`
abbrev pub reply_text : Option (List ℕ) → List ℕ
reply_text None = codes "none"
reply_text (Some value) = text value

-- a change: `keep`, the new value, or `none` for a removal
abbrev pub change_text : Change → List ℕ
change_text Keep = codes "keep"
change_text (Set value) = text value
change_text Removal = codes "none"

-- a row: its key, `=`, and its value
abbrev pub row_text : (ℕ × List ℕ) → List ℕ
row_text row = decimal row.0 ++ (61 ∷ text row.1)

-- a member of a batch: its key, `=`, and its change
abbrev pub member_text : (ℕ × Change) → List ℕ
member_text member = decimal member.0 ++ (61 ∷ change_text member.1)

-- the key of the next row, where there is one
abbrev pub more_words : Option ℕ → List (List ℕ)
more_words None = []
more_words (Some key) = codes "more" ∷ decimal key ∷ []

-- the words of a deed after its name
abbrev pub deed_words : Deed → List (List ℕ)
deed_words (Put key value) = decimal key ∷ text value ∷ []
deed_words (Remove key) = decimal key ∷ []
deed_words (Rmw key old change) = decimal key ∷ reply_text old ∷ change_text change ∷ []
deed_words (Get key reply) = decimal key ∷ reply_text reply ∷ []
deed_words Snapshot = []
deed_words Close = []
deed_words (GetAt key reply) = decimal key ∷ reply_text reply ∷ []
deed_words (Scan lo hi rows) = decimal lo ∷ decimal hi ∷ map row_text rows
deed_words (Page range rows more) =
    decimal range.from ∷ decimal range.hi ∷ decimal range.max ∷ (map row_text rows ++ more_words more)
deed_words (Batch members) = map member_text members

-- the words of a record
abbrev pub record_words : CallRecord → List (List ℕ)
record_words r = decimal r.seat ∷ decimal r.time ∷ name_of r.deed ∷ deed_words r.deed

-- its line: the words, with a space between each two
abbrev pub line_of : CallRecord → List ℕ
line_of r = join_with_byte 32 (record_words r)

-- the moments of its call: when it began and when it ended
abbrev pub moments_text : Moments → List ℕ
moments_text moments = decimal moments.begin ++ codes " " ++ decimal moments.end

-- its line with them
abbrev pub timed_line_of : CallRecord → Moments → List ℕ
timed_line_of r moments = line_of r ++ codes " | " ++ moments_text moments

-- each word behind a space
abbrev pub spaced : List (List ℕ) → List ℕ
spaced words = flat_map (λ word. 32 ∷ word) words

-- a deed: its words, with a space between each two
abbrev pub deed_text : Deed → List ℕ
deed_text deed = join_with_byte 32 (name_of deed ∷ deed_words deed)

-- rows as they are shown: with a space between each two, or `empty` where there is none
abbrev pub shown_rows : List (ℕ × List ℕ) → List ℕ
shown_rows [] = codes "empty"
shown_rows (row ∷ rows) = join_with_byte 32 (map row_text (row ∷ rows))
