-- Records before another one: those that write at its times, and those of its seat.
use Rattle.std.proofs.Common.{◌≡◌, ◌≢◌, ℕ, ◌+◌, ◌<◌, ◌≤◌, ◌==◌, ◌^◌, zero, suc, Bool, true, false, cond, List, [], ◌∷◌, length, get_or, take, max, Option}
use Rattle.std.proofs.Common.{Some, None, IfSome, MatchBool, refl, sym, ap, ◌∙◌, subst, arith, ⊎_elim}
use Rattle.std.proofs.lemmas.Bool.{cases_lt, eqb-true}
use Rattle.std.proofs.lemmas.List.{length-take-le, get_or-take}
use Rattle.std.proofs.lemmas.Option.{slice_get_past}
use Rattle.std.specs.List.{slice_get}
use Rattle.clsm_model.specs.declared.config.Config.{Config}
use Rattle.clsm_model.specs.declared.record.CallRecord.{CallRecord}
use Rattle.clsm_model.specs.declared.record.Deed.{Deed}
use Rattle.clsm_model.specs.declared.record.Deed.TheVariants.{Put, Remove, Rmw, Get, Snapshot, Close, GetAt, Scan, Page, Batch as Group}
use Rattle.clsm_model.specs.declared.slot.Change.TheVariants.{Keep, Set, Remove as Erase}
use Rattle.clsm_model.specs.Right.{AreWrites, Member}
use Rattle.clsm_model.specs.Seats.{due_after, last_due, open_after}
use Rattle.clsm_model.proofs.Rising.{last_open-append}
use Rattle.clsm_audit.specs.Explained.{own_due}
use Rattle.clsm_audit.specs.Faults.{HasNone, IsSecondAt, IsUnknownAt, RanBackAt}
use Rattle.clsm_audit.specs.Lawful.{HasTimes, HasWrites, HaveTimes, IsFromDue, IsKnown, calls_of, due_of, open_of}
use Rattle.clsm_audit.specs.Written.{IsWrittenBefore, WritesAt, is_write, span_of, time_past}
use Rattle.clsm_audit.proofs.Calls.{calls_of-other, calls_of-own}
use Rattle.clsm_audit.proofs.Indices.{here_if, if_here, itself, nobody, taken_more}
use Rattle.clsm_audit.proofs.Seconds.{at_index, here_second, some_within}
use Rattle.clsm_audit.proofs.Times.{writes_each, writes_within}

-- an index at which something does not hold is below the end
pub not_within : (P : CallRecord → Type 0) (records : List CallRecord) (i : ℕ) → (IfSome (slice_get records i) P → ⊥) → i < length records
not_within P records i not =
    ⊎_elim
    (λ (lt : i < length records). lt)
    (λ (past : length records ≤ i). absurd (not (subst (λ (o : Option CallRecord). IfSome o P) (sym (slice_get_past records i past)) tt)))
    (cases_lt i (length records))

-- ---- the snapshot that is open

pub opened_own : (records : List CallRecord) (i seat : ℕ) (r : CallRecord) (before after : Option ℕ) → i < length records → r ≡ get_or records i r → r.seat
    ≡ seat → before ≡ open_of (take i records) seat → after ≡ open_after before r.time r.deed → after ≡ open_of (take (i + 1) records) seat
opened_own records i seat r before after within is own was now =
    now ∙ ap (λ (o : Option ℕ). open_after o r.time r.deed) (was ∙ ap (open_of (take i records)) (sym own))
    ∙ sym (ap (λ (rs : List CallRecord). open_of rs r.seat) (sym (taken_more records i r within is))
    ∙ (rw (calls_of-own (take i records) r) (last_open-append None (calls_of (take i records) r.seat) r)))
    ∙ ap (open_of (take (i + 1) records)) own

pub opened_other : (records : List CallRecord) (i seat : ℕ) (r : CallRecord) (before : Option ℕ) → i < length records → r ≡ get_or records i r
    → r.seat ≢ seat → before ≡ open_of (take i records) seat → before ≡ open_of (take (i + 1) records) seat
opened_other records i seat r before within is other was =
    was ∙ sym (ap (λ (rs : List CallRecord). open_of rs seat) (sym (taken_more records i r within is))
    ∙ (rw (calls_of-other (take i records) r seat other) refl))

-- ---- two writes at one time

pub both_write : (q r : CallRecord) (t : ℕ) → HasTimes q → HasTimes r → is_write q.deed ≡ true → is_write r.deed ≡ true → t ≡ max q.time r.time
    → t < time_past q → t < time_past r → WritesAt t q × WritesAt t r
both_write q r t has has' is is' at lt lt' = (writes_each q t has.writes is (omega arith) lt, writes_each r t has'.writes is' (omega arith) lt')

pub none_write : (q r : CallRecord) (s t : ℕ) → s ≡ max q.time r.time → (s < time_past q → s < time_past r → ⊥) → WritesAt t q → WritesAt t r → ⊥
none_write q r s t at apart writes writes' =
    let a = writes_within q t writes in
    let b = writes_within r t writes' in
    apart (omega (arith, at, a.1, a.2, b.1, b.2)) (omega (arith, at, a.1, a.2, b.1, b.2))

-- where no earlier record shares a time with it, the record is no second one
pub no_second : (records : List CallRecord) (i : ℕ) (r : CallRecord) → i < length records → r ≡ get_or records i r
    → ((k : ℕ) → k < i → (t : ℕ) → WritesAt t (get_or records k nobody) → ¬ WritesAt t r) → IsSecondAt records i → ⊥
no_second records i r within is none second =
    let here = here_second records i r within is second in
    let earlier = here.2 in
    let inside = some_within (WritesAt here.0) records earlier.0 earlier.2 in
    none earlier.0 earlier.1 here.0 ((at_index (WritesAt here.0) records earlier.0 (get_or records earlier.0 nobody) inside
    (itself records earlier.0 inside)).1 earlier.2) here.1

-- ---- dues

due_low : (due t s : ℕ) (snapshot : Option ℕ) (deed : Deed) → due ≤ t → cond (is_write deed) (s + span_of deed) s ≤ t → due_after due snapshot s deed ≤ t
due_low due t s snapshot (Put key written) le own = own
due_low due t s snapshot (Remove key) le own = own
due_low due t s snapshot (Rmw key old Keep) le own = own
due_low due t s snapshot (Rmw key old (Set written)) le own = own
due_low due t s snapshot (Rmw key old Erase) le own = own
due_low due t s snapshot (Get key reply) le own = own
due_low due t s snapshot Snapshot le own = own
due_low due t s snapshot Close le own = le
due_low due t s snapshot (GetAt key reply) le own = le
due_low due t s None (Scan lo hi rows) le own = own
due_low due t s (Some at) (Scan lo hi rows) le own = le
due_low due t s None (Page range rows more) le own = own
due_low due t s (Some at) (Page range rows more) le own = le
due_low due t s snapshot (Group members) le own = own

-- no record of the seat has a due above the time
abbrev AreLow : List CallRecord → ℕ → ℕ → Type 0
AreLow records seat t = (k : ℕ) → k < length records → (get_or records k nobody).seat ≡ seat → own_due (get_or records k nobody) ≤ t

last_low : (records : List CallRecord) (seat t due : ℕ) (snapshot : Option ℕ) → due ≤ t → AreLow records seat t
    → last_due due snapshot (calls_of records seat) ≤ t
last_low [] seat t due snapshot le low = le
last_low (r ∷ rs) seat t due snapshot le low =
    let rest : AreLow rs seat t = λ k lt own. low (suc k) (omega arith) own in
    elim (r.seat == seat) as (λ (b : Bool). (r.seat == seat) ≡ b → last_due due snapshot (cond b (r ∷ calls_of rs seat) (calls_of rs seat)) ≤ t) [
      | true ↦ λ e. last_low rs seat t (due_after due snapshot r.time r.deed) (open_after snapshot r.time r.deed)
          (due_low due t r.time snapshot r.deed le (low zero (omega arith) (eqb-true r.seat seat e))) rest
      | false ↦ λ e. last_low rs seat t due snapshot le rest
    ] refl

from_low : (due t : ℕ) (snapshot : Option ℕ) (deed : Deed) → due ≤ t → IsFromDue due snapshot t deed
from_low due t snapshot Close le = tt
from_low due t snapshot (GetAt key reply) le = tt
from_low due t None (Scan lo hi rows) le = le
from_low due t (Some at) (Scan lo hi rows) le = tt
from_low due t None (Page range rows more) le = le
from_low due t (Some at) (Page range rows more) le = tt
from_low due t snapshot deed le = le

-- where no earlier record of its seat has a due above its time, the record did not run back
pub not_back : (records : List CallRecord) (i : ℕ) (r : CallRecord) → i < length records → r ≡ get_or records i r
    → ((k : ℕ) → k < i → (get_or records k nobody).seat ≡ r.seat → own_due (get_or records k nobody) ≤ r.time) → RanBackAt records i → ⊥
not_back records i r within is low back =
    back (if_here (λ q. IsFromDue (due_of (take i records) q.seat) (open_of (take i records) q.seat) q.time q.deed) records i r within is
    (from_low (due_of (take i records) r.seat) r.time (open_of (take i records) r.seat) r.deed
    (last_low (take i records) r.seat r.time 0 None (omega arith) (λ k lt own.
    let l : length (take i records) ≡ i = length-take-le i records (omega arith) in
    let same : get_or (take i records) k nobody ≡ get_or records k nobody = get_or-take i records k nobody (omega arith) in
    subst (λ (q : CallRecord). own_due q ≤ r.time) (sym same) (low k (omega arith) (ap (λ (q : CallRecord). q.seat) (sym same) ∙ own))))))

-- ---- the index of a fault is that of a record

pub second_within : (records : List CallRecord) (i : ℕ) → IsSecondAt records i → i < length records
second_within records i second = some_within (λ r. (t : ℕ) × WritesAt t r × IsWrittenBefore records i t) records i second

pub back_within : (records : List CallRecord) (i : ℕ) → RanBackAt records i → i < length records
back_within records i back = not_within (λ q. IsFromDue (due_of (take i records) q.seat) (open_of (take i records) q.seat) q.time q.deed) records i back

-- ---- times that are not out of their ranges

stable_le : (a b : ℕ) → ((a ≤ b → ⊥) → ⊥) → a ≤ b
stable_le a b not = ⊎_elim (λ (lt : b < a). absurd (not (λ le. omega arith))) (λ (le : a ≤ b). le) (cases_lt b a)

stable_writes : (members : List Member) → ((AreWrites members → ⊥) → ⊥) → AreWrites members
stable_writes [] not = tt
stable_writes (m ∷ ms) not = (λ e. not (λ are. are.0 e), stable_writes ms (λ no. not (λ are. no are.1)))

stable_deed : (deed : Deed) → ((HasWrites deed → ⊥) → ⊥) → HasWrites deed
stable_deed (Group members) not = (stable_le 1 (length members) (λ no. not (λ has. no has.0)), stable_writes members (λ no. not (λ has. no has.1)))
stable_deed deed not = tt

stable_match : (b : Bool) (m n k : ℕ) → ((MatchBool b (m ≤ k) (n ≤ k) → ⊥) → ⊥) → MatchBool b (m ≤ k) (n ≤ k)
stable_match true m n k not = stable_le m k not
stable_match false m n k not = stable_le n k not

stable_times : (r : CallRecord) → ((HasTimes r → ⊥) → ⊥) → HasTimes r
stable_times r not = record {
  time = stable_match (is_write r.deed) (time_past r) r.time (2 ^ 62) (λ no. not (λ has. no has.time));
  writes = stable_deed r.deed (λ no. not (λ has. no has.writes));
}

pub none_unknown : (config : Config) (records : List CallRecord) → HasNone (IsUnknownAt config records) → HaveTimes records
none_unknown config records none i = each (slice_get records i) (none i) where
  each : (o : Option CallRecord) → ((IfSome o (λ r. IsKnown config (open_of (take i records) r.seat) r) → ⊥) → ⊥) → IfSome o HasTimes
  each None not = tt
  each (Some r) not = stable_times r (λ no. not (λ known. no known.in_range.times))

-- and such records have known seats
pub unknown_seat : (config : Config) (records : List CallRecord) → HasNone (IsUnknownAt config records) → (i : ℕ) (r : CallRecord) → i < length records
    → r ≡ get_or records i r → r.seat < config.seats
unknown_seat config records none i r within is =
    ⊎_elim
    (λ (lt : r.seat < config.seats). lt)
    (λ (le : config.seats ≤ r.seat).
    absurd (none i (λ known.
    let one = here_if (λ q. IsKnown config (open_of (take i records) q.seat) q) records i r within is known in
    let seat = one.in_range.seat in omega arith)))
    (cases_lt r.seat config.seats)
