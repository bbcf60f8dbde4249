-- Calls in real time, in the words of strict serializability and linearizability: each call has a
-- place in the history, and one that ended before another one began stands before it.
use Rattle.std.specs.Prelude.{ℕ, ◌<◌, ◌≤◌, if◌then◌else◌, Bool, true, false, List, take, Option, None, Some, IfSome, IsSomeAnd, is_some, slice_get}
use Rattle.clsm_model.specs.declared.record.Deed.{Deed}
use Rattle.clsm_model.specs.declared.record.Deed.TheVariants.{Close, GetAt, Scan, Page}
use Rattle.clsm_model.specs.declared.record.CallRecord.{CallRecord}
use Rattle.clsm_audit.specs.declared.place.Moments.{Moments}
use Rattle.clsm_audit.specs.declared.place.Place.{Place}
use Rattle.clsm_audit.specs.declared.order.OrderError.{OrderError}
use Rattle.clsm_audit.specs.declared.order.OrderError.TheVariants.{Stale, Memory}
use Rattle.clsm_audit.specs.Explained.{own_due}
use Rattle.clsm_audit.specs.Lawful.{open_of}

-- ---- the place of a call

-- the call is of the snapshot that its seat has open: its close, or a read under it
abbrev pub is_of_snapshot : Option ℕ → Deed → Bool
is_of_snapshot snapshot Close = true
is_of_snapshot snapshot (GetAt key reply) = true
is_of_snapshot snapshot (Scan lo hi rows) = is_some snapshot
is_of_snapshot snapshot (Page range rows more) = is_some snapshot
is_of_snapshot snapshot deed = false

-- the place of any other call: a write takes its time, a batch all of its times, and a read at the
-- time s stands behind the writes below s and before those from s on
abbrev pub place_of : Option ℕ → CallRecord → Option Place
place_of snapshot r =
    if is_of_snapshot snapshot r.deed then None else Some (record { from = r.time; past = own_due r })

-- the first place is before the second one
abbrev pub StandsBefore : Place → Place → Type 0
StandsBefore p q = p.past ≤ q.from

-- the first call ended before the second one began
abbrev pub EndedBefore : Moments → Moments → Type 0
EndedBefore a b = a.end < b.begin

-- ---- the calls that were recorded

-- a call with its place, and the moments at which it began and ended
pub record TimedCall : Type 0 where
  pub place : Place
  pub moments : Moments

abbrev pub call_by : Option Place → Option Moments → Option TimedCall
call_by (Some place) (Some moments) = Some (record { place = place; moments = moments })
call_by place moments = None

-- the place of the record at the index, if it has one
abbrev pub place_in : List CallRecord → ℕ → Option CallRecord → Option Place
place_in records i None = None
place_in records i (Some r) = place_of (open_of (take i records) r.seat) r

-- the call at the index, if it has a place
abbrev pub call_at : List CallRecord → List Moments → ℕ → Option TimedCall
call_at records moments i = call_by (place_in records i (slice_get records i)) (slice_get moments i)

-- each call that ended before another one began stands before it
abbrev pub KeepsRealTime : List CallRecord → List Moments → Type 0
KeepsRealTime records moments = (i j : ℕ) →
    IfSome (call_at records moments j) (λ earlier. IfSome (call_at records moments i) (λ call.
    EndedBefore earlier.moments call.moments → StandsBefore earlier.place call.place))

-- the call at the index i is too early: the one at j ended before it began, and has a later place
abbrev pub IsTooEarly : List CallRecord → List Moments → ℕ → ℕ → Type 0
IsTooEarly records moments i j =
    IsSomeAnd (call_at records moments j) (λ earlier. IsSomeAnd (call_at records moments i) (λ call.
    EndedBefore earlier.moments call.moments × (call.place.from < earlier.place.past)))

-- and no call with a lower index is too early
pub record IsFirstTooEarly (records : List CallRecord) (moments : List Moments) (i j : ℕ) : Type 0 where
  pub here : IsTooEarly records moments i j
  pub least : (k n : ℕ) → k < i → ¬ IsTooEarly records moments k n

-- what a refusal says: the first call that is too early, and one that it should stand behind
abbrev pub IsOrderError : List CallRecord → List Moments → OrderError → Type 0
IsOrderError records moments (Stale index earlier) = IsFirstTooEarly records moments index earlier
IsOrderError records moments Memory = Unit {0}
