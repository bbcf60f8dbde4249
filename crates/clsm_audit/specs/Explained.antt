-- What an explanation says of the record that has a fault.
use Rattle.std.specs.Prelude.{◌≡◌, ◌≢◌, ℕ, ◌<◌, ◌≤◌, ◌==◌, ◌^◌, cond, if◌then◌else◌, min, take, List, [], Option, None, Some, IfSome, IsSome, IsSomeAnd}
use Rattle.std.specs.Prelude.{slice_get}
use Rattle.clsm_model.specs.declared.slot.Slot.{Slot}
use Rattle.clsm_model.specs.declared.slot.Slot.TheVariants.{Nothing, Wrote}
use Rattle.clsm_model.specs.declared.config.Config.{Config}
use Rattle.clsm_model.specs.declared.record.Deed.{Deed}
use Rattle.clsm_model.specs.declared.record.Deed.TheVariants.{Rmw, Get, GetAt, Scan, Page}
use Rattle.clsm_model.specs.declared.record.CallRecord.{CallRecord}
use Rattle.clsm_model.specs.History.{History, IsInside, newest, value, write_of as key_write}
use Rattle.clsm_model.specs.Map.{IsRange, Pair}
use Rattle.clsm_model.specs.Right.{IsPage}
use Rattle.clsm_audit.specs.declared.explanation.Explanation.{Explanation}
use Rattle.clsm_audit.specs.declared.explanation.Explanation.TheVariants.{Unknown, TwoAtOneTime, TimeRanBack, InsideBatch, WrongValue, WrongRow, WrongNext}
use Rattle.clsm_audit.specs.declared.explanation.Rule.{Rule}
use Rattle.clsm_audit.specs.declared.explanation.Rule.TheVariants.{Seat, Size, Time, Members, Snapshot}
use Rattle.clsm_audit.specs.declared.fault.FaultKind.{FaultKind}
use Rattle.clsm_audit.specs.declared.fault.FaultKind.TheVariants.{Unknown as Strange, TwoAtOneTime as Second, TimeRanBack as Back, WrongReply}
use Rattle.clsm_audit.specs.declared.wanted.FoundWrite.{FoundWrite}
use Rattle.clsm_audit.specs.declared.wanted.Wanted.TheVariants.{Leaves}
use Rattle.clsm_audit.specs.Lawful.{FitsRegion, HasWrites, IsAtSnapshot, IsTime, open_of}
use Rattle.clsm_audit.specs.Sought.{IsMade, MakesAt}
use Rattle.clsm_audit.specs.Written.{WritesAt, batch_by, history_of, is_write, time_past, write_of}

-- ---- the writes that it names

-- what the slot leaves at the key that it writes
abbrev pub left_in : Slot → Option (List ℕ)
left_in Nothing = None
left_in (Wrote seat key written) = written

-- the newest write of the key below the time s, in the history of all records, and the record that
-- makes it
pub record IsNewestWrite (records : List CallRecord) (key s : ℕ) (found : FoundWrite) : Type 0 where
  pub before : found.time < s
  pub made : IsSomeAnd (slice_get records found.index) (λ r. write_of r found.time ≡ Some found.slot)
  pub of_key : IsSome (key_write key found.time found.slot)
  pub newest_is : newest (history_of records) key s ≡ key_write key found.time found.slot

-- or that there is none
abbrev pub IsNewest : List CallRecord → ℕ → ℕ → Option FoundWrite → Type 0
IsNewest records key s None = newest (history_of records) key s ≡ None
IsNewest records key s (Some found) = IsNewestWrite records key s found

-- a write that leaves this at the key, or that no record makes one
abbrev pub IsSeen : List CallRecord → ℕ → Option (List ℕ) → Option FoundWrite → Type 0
IsSeen records key answered None =
    (i t : ℕ) → t < 2 ^ 62 → IfSome (slice_get records i) (λ r. ¬ MakesAt (Leaves key answered) t r)
IsSeen records key answered (Some found) =
    IsSomeAnd (slice_get records found.index) (IsMade (Leaves key answered) found)

-- what the write leaves at its key
abbrev pub value_left : Option FoundWrite → Option (List ℕ)
value_left None = None
value_left (Some found) = left_in found.slot

-- ---- a read of one key

-- the deed read this at the key
abbrev pub ReadsKey : Deed → ℕ → Option (List ℕ) → Type 0
ReadsKey (Rmw k old change) key answered = (k ≡ key) × (old ≡ answered)
ReadsKey (Get k reply) key answered = (k ≡ key) × (reply ≡ answered)
ReadsKey (GetAt k reply) key answered = (k ≡ key) × (reply ≡ answered)
ReadsKey deed key answered = ⊥

-- what is right is the value of the key below the time s
pub record IsRightValue (records : List CallRecord) (s key : ℕ) (answered right : Option (List ℕ)) (named seen : Option FoundWrite) : Type 0 where
  pub value_is : right ≡ value (history_of records) key s
  pub newest : IsNewest records key s named
  pub seen_is : IsSeen records key answered seen

-- ---- rows

-- the deed reads rows
abbrev pub ReadsRows : Deed → Type 0
ReadsRows (Scan lo hi rows) = Unit {0}
ReadsRows (Page range rows more) = Unit {0}
ReadsRows deed = ⊥

-- the rows, and the key of the next one, that the deed has to read below the time s
abbrev pub AreRightRows : History → ℕ → Deed → List Pair → Option ℕ → Type 0
AreRightRows h s (Scan lo hi rows) right next = IsRange h s lo hi right × (next ≡ None)
AreRightRows h s (Page range rows more) right next =
    (all : List Pair) × IsRange h s range.from range.hi all × IsPage all range.max right next
AreRightRows h s deed right next = ⊥

-- the rows that it read
abbrev pub rows_of : Deed → List Pair
rows_of (Scan lo hi rows) = rows
rows_of (Page range rows more) = rows
rows_of deed = []

-- the key of the next row that it read
abbrev pub next_of : Deed → Option ℕ
next_of (Page range rows more) = more
next_of deed = None

-- the lower one of the keys of two rows, of which one may be missing
abbrev pub lower_key : Option Pair → Option Pair → ℕ
lower_key (Some p) (Some q) = min p.0 q.0
lower_key (Some p) None = p.0
lower_key None (Some q) = q.0
lower_key None None = 0

-- what the row says of the key
abbrev pub value_in : Option Pair → ℕ → Option (List ℕ)
value_in None key = None
value_in (Some p) key = cond (p.0 == key) (Some p.1) None

-- the two lists first differ at this number
pub record IsDifference (rows right : List Pair) (number : ℕ) : Type 0 where
  pub same_before : (k : ℕ) → k < number → slice_get rows k ≡ slice_get right k
  pub differs : slice_get rows number ≢ slice_get right number

-- the rows first differ here, and the writes are those of the lower key
pub record IsRightRow (records : List CallRecord) (s : ℕ) (rows right_rows : List Pair) (number : ℕ) (answered right : Option Pair) (key : ℕ)
    (named seen : Option FoundWrite) : Type 0 where
  pub difference : IsDifference rows right_rows number
  pub answered_is : answered ≡ slice_get rows number
  pub right_is : right ≡ slice_get right_rows number
  pub key_is : key ≡ lower_key answered right
  pub newest : IsNewest records key s named
  pub seen_is : IsSeen records key (value_in answered key) seen

-- ---- the other faults

-- the rule does not hold of the record, whose seat has this snapshot open
abbrev pub Breaks : Config → Option ℕ → CallRecord → Rule → Type 0
Breaks config snapshot r Seat = config.seats ≤ r.seat
Breaks config snapshot r Size = ¬ FitsRegion config r.deed
Breaks config snapshot r Time = ¬ IsTime r
Breaks config snapshot r Members = ¬ HasWrites r.deed
Breaks config snapshot r (Snapshot open_at) = (open_at ≡ snapshot) × (¬ IsAtSnapshot snapshot r.time r.deed)

-- the lowest time of a later call of its seat, by the record alone
abbrev pub own_due : CallRecord → ℕ
own_due r = if is_write r.deed then time_past r else r.time

-- an earlier record of the seat with a due above the time
pub record IsAbove (due : ℕ) (r : CallRecord) (earlier : CallRecord) : Type 0 where
  pub seat : earlier.seat ≡ r.seat
  pub due_is : due ≡ own_due earlier
  pub above : r.time < due

-- the record is a batch, and the time is strictly inside it
abbrev pub IsAround : ℕ → CallRecord → Type 0
IsAround t r = IsSomeAnd (batch_by r.time r.deed) (IsInside t)

-- ---- all of them

-- what the explanation says of the record r at the index i
abbrev pub Explains : Config → List CallRecord → ℕ → CallRecord → Explanation → Type 0
Explains config records i r (Unknown rule) = Breaks config (open_of (take i records) r.seat) r rule
Explains config records i r (TwoAtOneTime other t) =
    (other < i) × WritesAt t r × IsSomeAnd (slice_get records other) (WritesAt t)
Explains config records i r (TimeRanBack earlier due) =
    (earlier < i) × IsSomeAnd (slice_get records earlier) (IsAbove due r)
Explains config records i r (InsideBatch batch) = IsSomeAnd (slice_get records batch) (IsAround r.time)
Explains config records i r (WrongValue key answered right named seen) =
    ReadsKey r.deed key answered × (answered ≢ right) × IsRightValue records r.time key answered right named seen
Explains config records i r (WrongRow number answered right key named seen) =
    (right_rows : List Pair) × (next : Option ℕ) × AreRightRows (history_of records) r.time r.deed right_rows next
    × IsRightRow records r.time (rows_of r.deed) right_rows number answered right key named seen
Explains config records i r (WrongNext answered right) =
    (answered ≡ next_of r.deed) × (answered ≢ right) × AreRightRows (history_of records) r.time r.deed (rows_of r.deed) right

-- it explains the record at the index
abbrev pub IsExplanation : Config → List CallRecord → ℕ → Explanation → Type 0
IsExplanation config records i explanation =
    IsSomeAnd (slice_get records i) (λ r. Explains config records i r explanation)

-- the kind of the fault that it explains
abbrev pub kind_of : Explanation → FaultKind
kind_of (Unknown rule) = Strange
kind_of (TwoAtOneTime other t) = Second
kind_of (TimeRanBack earlier due) = Back
kind_of explanation = WrongReply

-- ---- the parts

-- the explanation is that of a wrong value of the key at the time s
abbrev pub SaysValue : List CallRecord → ℕ → ℕ → Option (List ℕ) → Explanation → Type 0
SaysValue records s key answered (WrongValue k a right named seen) =
    (k ≡ key) × (a ≡ answered) × IsRightValue records s key answered right named seen
SaysValue records s key answered explanation = ⊥

-- and of a row that differs
abbrev pub SaysRow : List CallRecord → ℕ → List Pair → List Pair → Explanation → Type 0
SaysRow records s rows right_rows (WrongRow number answered right key named seen) =
    IsRightRow records s rows right_rows number answered right key named seen
SaysRow records s rows right_rows explanation = ⊥
