-- The begins and ends of calls in the order of moments, and a sweep over them.
use Rattle.std.specs.Prelude.{◌≡◌, ℕ, zero, suc, ◌<◌, ◌≤◌, ◌==◌, ◌&&◌, ◌||◌, ◌++◌, nat_lt, not, Bool, true, false, List, [], ◌∷◌, length, Option, None, Some}
use Rattle.std.specs.List.{Contains}
use Rattle.std.specs.List.Sorted.{IsPermutation, IsSortedBy}
use Rattle.clsm_model.specs.declared.record.CallRecord.{CallRecord}
use Rattle.clsm_audit.specs.declared.place.Moments.{Moments}
use Rattle.clsm_audit.specs.declared.event.Event.{Event}
use Rattle.clsm_audit.specs.declared.sweep.Overtaken.{Overtaken}
use Rattle.clsm_audit.specs.declared.sweep.Sweep.{Sweep}
use Rattle.clsm_audit.specs.RealTime.{TimedCall, call_at}

-- ---- the events

-- the begin of the call at the index, and its end
abbrev pub begin_of : ℕ → TimedCall → Event
begin_of index call =
    record { moment = call.moments.begin; is_end = false; time = call.place.from; index = index }

abbrev pub end_of : ℕ → TimedCall → Event
end_of index call =
    record { moment = call.moments.end; is_end = true; time = call.place.past; index = index }

-- both, where there is a call
abbrev pub events_of : ℕ → Option TimedCall → List Event
events_of index None = []
events_of index (Some call) = begin_of index call ∷ end_of index call ∷ []

-- those of all calls below an index
abbrev pub events_below : List CallRecord → List Moments → ℕ → List Event
events_below records moments zero = []
events_below records moments (suc n) =
    events_below records moments n ++ events_of n (call_at records moments n)

-- the first event has the lower moment, or is a begin where the second one is an end of that moment
abbrev pub comes_before : Event → Event → Bool
comes_before x y =
    nat_lt x.moment y.moment || (x.moment == y.moment && (not x.is_end && y.is_end))

-- the events are those of all calls, and none comes before an earlier one
pub record IsInMomentOrder (records : List CallRecord) (moments : List Moments) (events : List Event) : Type 0 where
  pub same : IsPermutation (events_below records moments (length records)) events
  pub sorted : IsSortedBy comes_before events

-- the event comes before none of these
abbrev pub ComesBehind : List Event → Event → Type 0
ComesBehind events event = (e : Event) → Contains events e → comes_before event e ≡ false

-- ---- the sweep

-- the one is the begin of a call and the other an end before it, of a call with a later place
pub record IsEarlyFor (begin finish : Event) : Type 0 where
  pub begins : begin.is_end ≡ false
  pub ends : finish.is_end ≡ true
  pub before : finish.moment < begin.moment
  pub later : begin.time < finish.time

-- the end of the latest place among the events
pub record IsLatest (events : List Event) (finish : Event) : Type 0 where
  pub among : Contains events finish
  pub ends : finish.is_end ≡ true
  pub latest : (e : Event) → Contains events e → e.is_end ≡ true → e.time ≤ finish.time

abbrev pub HasLatest : List Event → Option Event → Type 0
HasLatest events None = (e : Event) → Contains events e → e.is_end ≡ false
HasLatest events (Some finish) = IsLatest events finish

-- the begin with the lowest index among those that are too early
pub record IsFirstEarly (events : List Event) (found : Overtaken) : Type 0 where
  pub begin_among : Contains events found.begin
  pub finish_among : Contains events found.finish
  pub early : IsEarlyFor found.begin found.finish
  pub least : (b f : Event) → Contains events b → Contains events f → IsEarlyFor b f → found.begin.index ≤ b.index

abbrev pub HasFirst : List Event → Option Overtaken → Type 0
HasFirst events None = (b f : Event) → Contains events b → Contains events f → ¬ IsEarlyFor b f
HasFirst events (Some found) = IsFirstEarly events found

-- the sweep has passed these events
pub record HasSwept (events : List Event) (sweep : Sweep) : Type 0 where
  pub latest : HasLatest events sweep.latest
  pub found : HasFirst events sweep.found
