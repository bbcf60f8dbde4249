-- A walk over the records with the states of their seats: one record more.
use Rattle.std.proofs.Common.{◌≡◌, ℕ, ◌+◌, ◌^◌, ◌<◌, List, [], ◌∷◌, ◌++◌, length, get_or, take, drop, Option, Some, None, IfSome, sym, ◌∙◌, subst}
use Rattle.std.specs.List.{slice_get}
use Rattle.clsm_model.specs.declared.config.Config.{Config}
use Rattle.clsm_model.specs.declared.record.CallRecord.{CallRecord}
use Rattle.clsm_audit.specs.declared.seat.SeatState.{SeatState}
use Rattle.clsm_audit.specs.Lawful.{HasTimes, HaveTimes, IsFromDue, IsFromDueAt, IsKnown, IsKnownAt, due_of, open_of}
use Rattle.clsm_audit.specs.States.{AreStates}
use Rattle.clsm_audit.specs.Written.{time_past}
use Rattle.clsm_audit.proofs.Indices.{here_if, if_here, taken_more, written_whole}
use Rattle.clsm_audit.proofs.Times.{past_within}

-- `now` is the list that is lent to the call, `new` what the call leaves, and n the length of both
pub AreStates-next : (records : List CallRecord) (i n : ℕ) (r : CallRecord) (states now new : List SeatState) → i < length records → r ≡ get_or records i r
    → now ≡ states → length states ≡ n → length new ≡ n
    → AreStates (take i records) states → ((before : List CallRecord) → AreStates before now → AreStates (before ++ r ∷ []) new)
    → AreStates (take (i + 1) records) (take n (new ++ drop (length new) states))
AreStates-next records i n r states now new within is lent long long' before advances =
    subst (λ (xs : List SeatState). AreStates (take (i + 1) records) xs) (sym (written_whole n new states long' long))
    (subst (λ (rs : List CallRecord). AreStates rs new) (taken_more records i r within is)
    (advances (take i records) (subst (λ (xs : List SeatState). AreStates (take i records) xs) (sym lent) before)))

-- ---- what is known of the record at the index

known_record : (config : Config) (records : List CallRecord) (i : ℕ) (r : CallRecord) → i < length records → r ≡ get_or records i r
    → IsKnownAt config records i → IsKnown config (open_of (take i records) r.seat) r
known_record config records i r within is known = here_if (λ q. IsKnown config (open_of (take i records) q.seat) q) records i r within is known

pub known_seat : (config : Config) (records : List CallRecord) (i : ℕ) (r : CallRecord) → i < length records → r ≡ get_or records i r
    → IsKnownAt config records i → r.seat < config.seats
known_seat config records i r within is known = (known_record config records i r within is known).in_range.seat

pub known_past : (config : Config) (records : List CallRecord) (i : ℕ) (r : CallRecord) → i < length records → r ≡ get_or records i r
    → IsKnownAt config records i → time_past r < 2 ^ 64
known_past config records i r within is known = past_within r (known_record config records i r within is known).in_range.times

-- records that are known have their times
pub known_times : (config : Config) (records : List CallRecord) → ((i : ℕ) → IsKnownAt config records i) → HaveTimes records
known_times config records known i = each (slice_get records i) (known i) where
  each : (o : Option CallRecord) → IfSome o (λ r. IsKnown config (open_of (take i records) r.seat) r) → IfSome o HasTimes
  each None all = tt
  each (Some r) all = all.in_range.times

-- what a test of the seat's state says of the record at the index
pub known_here : (config : Config) (records : List CallRecord) (i : ℕ) (r : CallRecord) (states : List SeatState) (state : SeatState) → i < length records
    → r ≡ get_or records i r → AreStates (take i records) states → r.seat < length states → state ≡ get_or states r.seat state
    → IsKnown config state.snapshot r → IsKnownAt config records i
known_here config records i r states state within is before seat found known =
    if_here (λ q. IsKnown config (open_of (take i records) q.seat) q) records i r within is
    (subst (λ (s : SeatState). IsKnown config s.snapshot r) (found ∙ before r.seat state seat) known)

pub here_known : (config : Config) (records : List CallRecord) (i : ℕ) (r : CallRecord) (states : List SeatState) (state : SeatState) → i < length records
    → r ≡ get_or records i r → AreStates (take i records) states → r.seat < length states → state ≡ get_or states r.seat state
    → IsKnownAt config records i → IsKnown config state.snapshot r
here_known config records i r states state within is before seat found known =
    subst (λ (s : SeatState). IsKnown config s.snapshot r) (sym (found ∙ before r.seat state seat))
    (here_if (λ q. IsKnown config (open_of (take i records) q.seat) q) records i r within is known)

pub from_due_here : (records : List CallRecord) (i : ℕ) (r : CallRecord) (states : List SeatState) (state : SeatState) → i < length records → r
    ≡ get_or records i r → AreStates (take i records) states → r.seat < length states → state ≡ get_or states r.seat state
    → IsFromDue state.due state.snapshot r.time r.deed → IsFromDueAt records i
from_due_here records i r states state within is before seat found from_due =
    if_here (λ q. IsFromDue (due_of (take i records) q.seat) (open_of (take i records) q.seat) q.time q.deed) records i r within is
    (subst (λ (s : SeatState). IsFromDue s.due s.snapshot r.time r.deed) (found ∙ before r.seat state seat) from_due)

pub here_from_due : (records : List CallRecord) (i : ℕ) (r : CallRecord) (states : List SeatState) (state : SeatState) → i < length records → r
    ≡ get_or records i r → AreStates (take i records) states → r.seat < length states → state ≡ get_or states r.seat state
    → IsFromDueAt records i → IsFromDue state.due state.snapshot r.time r.deed
here_from_due records i r states state within is before seat found from_due =
    subst (λ (s : SeatState). IsFromDue s.due s.snapshot r.time r.deed) (sym (found ∙ before r.seat state seat))
    (here_if (λ q. IsFromDue (due_of (take i records) q.seat) (open_of (take i records) q.seat) q.time q.deed) records i r within is from_due)
