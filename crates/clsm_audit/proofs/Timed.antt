-- The events of calls, and what a sweep over all of them says of the calls.
use Rattle.std.proofs.Common.{◌≡◌, ℕ, zero, suc, ◌+◌, ◌<◌, ◌≤◌, true, false, List, [], ◌∷◌, ◌++◌, length, get_or, take, Option, None, Some, IfSome, ◌⊎◌}
use Rattle.std.proofs.Common.{refl, sym, ◌∙◌, ap, subst, inl, inr, ⊎_elim, arith, add-one}
use Rattle.std.proofs.lemmas.Bool.{cases_lt}
use Rattle.std.proofs.lemmas.List.Elements.{Contains-append_cases, Contains-append_left, Contains-append_right, Contains-push, Contains-push_cases}
use Rattle.std.proofs.lemmas.List.Sorted.{Contains-permutation, IsPermutation-sym}
use Rattle.std.proofs.lemmas.List.{get_or_default}
use Rattle.std.proofs.lemmas.Option.{slice_get_past, slice_get_read}
use Rattle.std.specs.List.{Contains, slice_get}
use Rattle.std.specs.Option.{IsSomeAnd}
use Rattle.clsm_model.specs.declared.record.CallRecord.{CallRecord}
use Rattle.clsm_audit.specs.declared.event.Event.{Event}
use Rattle.clsm_audit.specs.declared.place.Moments.{Moments}
use Rattle.clsm_audit.specs.declared.place.Place.{Place}
use Rattle.clsm_audit.specs.declared.seat.SeatState.{SeatState}
use Rattle.clsm_audit.specs.declared.sweep.Overtaken.{Overtaken}
use Rattle.clsm_audit.specs.Moments.{HasFirst, IsEarlyFor, IsInMomentOrder, begin_of, end_of, events_below, events_of}
use Rattle.clsm_audit.specs.RealTime.{IsFirstTooEarly, IsTooEarly, KeepsRealTime, TimedCall, call_at, call_by, place_in, place_of}
use Rattle.clsm_audit.specs.States.{AreStates}
use Rattle.clsm_audit.proofs.Indices.{get_here}

-- ---- one call more

-- the place of the record at an index, by the state of its seat
pub place_here : (records : List CallRecord) (i : ℕ) (r : CallRecord) (states : List SeatState) (state : SeatState) → i < length records
    → r ≡ get_or records i r
    → AreStates (take i records) states → r.seat < length states → state ≡ get_or states r.seat state
    → place_of state.snapshot r ≡ place_in records i (slice_get records i)
place_here records i r states state within is before seat found =
    ap (λ (s : SeatState). place_of s.snapshot r) (found ∙ before r.seat state seat) ∙ sym (ap (place_in records i) (get_here records i r within is))

pub events_more : (records : List CallRecord) (moments : List Moments) (i : ℕ) (d : Moments) (place : Option Place) (old new : List Event) → i < length moments
    → place ≡ place_in records i (slice_get records i) → old ≡ events_below records moments i
    → new ≡ old ++ events_of i (call_by place (Some (get_or moments i d))) → new ≡ events_below records moments (i + 1)
events_more records moments i d place old new within place_is old_is new_is =
    let one : Some (get_or moments i d) ≡ slice_get moments i =
    sym (slice_get_read moments (length moments) i (get_or moments i d) refl within (get_or_default moments i d (get_or moments i d) within)) in
    new_is ∙ ap (λ (es : List Event). es ++ events_of i (call_by place (Some (get_or moments i d)))) old_is
    ∙ ap (λ (p : Option Place). events_below records moments i ++ events_of i (call_by p (Some (get_or moments i d)))) place_is
    ∙ ap (λ (m : Option Moments). events_below records moments i ++ events_of i (call_by (place_in records i (slice_get records i)) m)) one
    ∙ ap (events_below records moments) (sym (add-one i))

-- ---- the events are those of the calls

-- the begin and the end of a call are among its events
begin_among : (n : ℕ) (call : TimedCall) → Contains (events_of n (Some call)) (begin_of n call)
begin_among n call = Contains-append_left (begin_of n call ∷ []) (end_of n call ∷ []) (begin_of n call) (Contains-push [] (begin_of n call))

end_among : (n : ℕ) (call : TimedCall) → Contains (events_of n (Some call)) (end_of n call)
end_among n call = Contains-push (begin_of n call ∷ []) (end_of n call)

-- and nothing else
pub is_one_of : (n : ℕ) (call : TimedCall) (e : Event) → Contains (events_of n (Some call)) e → (begin_of n call ≡ e) ⊎ (end_of n call ≡ e)
is_one_of n call e among =
    ⊎_elim
    (λ (first : Contains (begin_of n call ∷ []) e). ⊎_elim
    (λ (none : Contains [] e). absurd (let lt = none.1 in omega arith))
    (λ (is : begin_of n call ≡ e). inl is)
    (Contains-push_cases [] (begin_of n call) e first))
    (λ (is : end_of n call ≡ e). inr is)
    (Contains-push_cases (begin_of n call ∷ []) (end_of n call) e among)

-- the event is that of the call at its index
abbrev IsEventOf : Event → TimedCall → Type 0
IsEventOf e call = (begin_of e.index call ≡ e) ⊎ (end_of e.index call ≡ e)

-- which is its begin, or where it is an end, its end
is_begin : (e : Event) → e.is_end ≡ false → (o : Option TimedCall) → IsSomeAnd o (IsEventOf e) → IsSomeAnd o (λ call. begin_of e.index call ≡ e)
is_begin e begins None is = absurd is
is_begin e begins (Some call) is = ⊎_elim
    (λ (begin : begin_of e.index call ≡ e). begin)
    (λ (finish : end_of e.index call ≡ e). let clash : true ≡ false = ap (λ (x : Event). x.is_end) finish ∙ begins in absurd (cc clash))
    is

is_finish : (e : Event) → e.is_end ≡ true → (o : Option TimedCall) → IsSomeAnd o (IsEventOf e) → IsSomeAnd o (λ call. end_of e.index call ≡ e)
is_finish e ends None is = absurd is
is_finish e ends (Some call) is = ⊎_elim
    (λ (begin : begin_of e.index call ≡ e). let clash : false ≡ true = ap (λ (x : Event). x.is_end) begin ∙ ends in absurd (cc clash))
    (λ (finish : end_of e.index call ≡ e). finish)
    is

event_of : (n : ℕ) (call : Option TimedCall) (e : Event) → Contains (events_of n call) e → (e.index ≡ n) × IsSomeAnd call (IsEventOf e)
event_of n None e among = absurd (let lt = among.1 in omega arith)
event_of n (Some call) e among =
    ⊎_elim
    (λ (is : begin_of n call ≡ e).
    let at : n ≡ e.index = ap (λ (x : Event). x.index) is in
    (sym at, inl (subst (λ (i : ℕ). begin_of i call ≡ e) at is)))
    (λ (is : end_of n call ≡ e).
    let at : n ≡ e.index = ap (λ (x : Event). x.index) is in
    (sym at, inr (subst (λ (i : ℕ). end_of i call ≡ e) at is)))
    (is_one_of n call e among)

module _ (records : List CallRecord) (moments : List Moments) where
  -- each event is one of the call at its index
  pub event_is : (n : ℕ) (e : Event) → Contains (events_below records moments n) e → IsSomeAnd (call_at records moments e.index) (IsEventOf e)
  event_is zero e among = absurd (let lt = among.1 in omega arith)
  event_is (suc n) e among =
      ⊎_elim
      (λ (old : Contains (events_below records moments n) e). event_is n e old)
      (λ (new : Contains (events_of n (call_at records moments n)) e).
      let is = event_of n (call_at records moments n) e new in
      subst (λ (i : ℕ). IsSomeAnd (call_at records moments i) (IsEventOf e)) (sym is.0) is.1)
      (Contains-append_cases (events_below records moments n) (events_of n (call_at records moments n)) e among)

  -- both events of a call below the index are there
  pub both_among : (n i : ℕ) → i < n → (call : TimedCall) → call_at records moments i ≡ Some call
      → Contains (events_below records moments n) (begin_of i call) × Contains (events_below records moments n) (end_of i call)
  both_among zero i lt call is = absurd (omega arith)
  both_among (suc n) i lt call is =
      let before = events_below records moments n in
      let here = events_of n (call_at records moments n) in
      ⊎_elim
      (λ (low : i < n).
      let old = both_among n i low call is in
      (Contains-append_left before here (begin_of i call) old.0, Contains-append_left before here (end_of i call) old.1))
      (λ (high : n ≤ i).
      let same : i ≡ n = omega arith in
      let now : Some call ≡ call_at records moments n = sym is ∙ ap (call_at records moments) same in
      let begins : Contains here (begin_of i call) = subst (λ (o : Option TimedCall). Contains (events_of n o) (begin_of i call)) now
      (subst (λ (k : ℕ). Contains (events_of n (Some call)) (begin_of k call)) (sym same) (begin_among n call)) in
      let ends : Contains here (end_of i call) = subst (λ (o : Option TimedCall). Contains (events_of n o) (end_of i call)) now
      (subst (λ (k : ℕ). Contains (events_of n (Some call)) (end_of k call)) (sym same) (end_among n call)) in
      (Contains-append_right before here (begin_of i call) begins, Contains-append_right before here (end_of i call) ends))
      (cases_lt i n)

  -- a call stands at an index below the end
  pub call_within : (i : ℕ) (call : TimedCall) → call_at records moments i ≡ Some call → i < length records
  call_within i call is =
      ⊎_elim
      (λ (lt : i < length records). lt)
      (λ (past : length records ≤ i).
      let none : call_at records moments i ≡ None = ap (λ (o : Option CallRecord). call_by (place_in records i o) (slice_get moments i))
      (slice_get_past records i past) in
      let clash : Some call ≡ None = sym is ∙ none in
      absurd (cc clash))
      (cases_lt i (length records))

  -- ---- what is found among the events

  module _ (events : List Event) (order : IsInMomentOrder records moments events) where
    call_events : (i : ℕ) (call : TimedCall) → call_at records moments i ≡ Some call → Contains events (begin_of i call) × Contains events (end_of i call)
    call_events i call is =
        let all = events_below records moments (length records) in
        let both = both_among (length records) i (call_within i call is) call is in
        (Contains-permutation all events (begin_of i call) order.same both.0, Contains-permutation all events (end_of i call) order.same both.1)

    -- a call that is too early has a begin that is
    early_pair : {Q : Type 0} (i j : ℕ) → IsTooEarly records moments i j
        → ((b f : Event) → b.index ≡ i → Contains events b → Contains events f → IsEarlyFor b f → Q) → Q
    early_pair {Q} i j early then = by (call_at records moments j) refl (call_at records moments i) refl early where
      by : (a : Option TimedCall) → call_at records moments j ≡ a → (c : Option TimedCall) → call_at records moments i ≡ c
          → IsSomeAnd a (λ earlier. IsSomeAnd c (λ call. (earlier.moments.end < call.moments.begin) × (call.place.from < earlier.place.past))) → Q
      by None a_is c c_is early = absurd early
      by (Some earlier) a_is None c_is early = absurd early
      by (Some earlier) a_is (Some call) c_is early =
          then (begin_of i call) (end_of j earlier) refl (call_events i call c_is).0 (call_events j earlier a_is).1
          (record { begins = refl; ends = refl; before = early.0; later = early.1 })

    pub none_early : HasFirst events None → (i j : ℕ) → IsTooEarly records moments i j → ⊥
    none_early none i j early = early_pair i j early (λ b f at begins ends is. none b f begins ends is)

    -- what no call is too early for, each call keeps
    pub keeps : HasFirst events None → KeepsRealTime records moments
    keeps none i j = by (call_at records moments j) refl (call_at records moments i) refl where
      by : (a : Option TimedCall) → call_at records moments j ≡ a → (c : Option TimedCall) → call_at records moments i ≡ c
          → IfSome a (λ earlier. IfSome c (λ call. earlier.moments.end < call.moments.begin → earlier.place.past ≤ call.place.from))
      by None a_is c c_is = tt
      by (Some earlier) a_is None c_is = tt
      by (Some earlier) a_is (Some call) c_is = λ before.
          ⊎_elim
          (λ (late : call.place.from < earlier.place.past).
          absurd (none (begin_of i call) (end_of j earlier) (call_events i call c_is).0 (call_events j earlier a_is).1
          (record { begins = refl; ends = refl; before = before; later = late })))
          (λ (le : earlier.place.past ≤ call.place.from). le)
          (cases_lt call.place.from earlier.place.past)

    -- each event is one of its call
    own_event : (e : Event) → Contains events e → IsSomeAnd (call_at records moments e.index) (IsEventOf e)
    own_event e among =
        event_is (length records) e (Contains-permutation events (events_below records moments (length records)) e (IsPermutation-sym _ _ order.same) among)

    -- the first begin that is too early is that of the first call that is
    pub first_early : (found : Overtaken) → HasFirst events (Some found) → IsFirstTooEarly records moments found.begin.index found.finish.index
    first_early found is = record {
      here = by (call_at records moments found.finish.index) (is_finish found.finish is.early.ends _ (own_event found.finish is.finish_among))
          (call_at records moments found.begin.index) (is_begin found.begin is.early.begins _ (own_event found.begin is.begin_among));
      least = λ k n lt early. early_pair k n early
          (λ b f at begins ends one. let least = is.least b f begins ends one in omega arith);
    } where
      by : (a : Option TimedCall) → IsSomeAnd a (λ call. end_of found.finish.index call ≡ found.finish)
          → (c : Option TimedCall) → IsSomeAnd c (λ call. begin_of found.begin.index call ≡ found.begin)
          → IsSomeAnd a (λ earlier. IsSomeAnd c (λ call. (earlier.moments.end < call.moments.begin) × (call.place.from < earlier.place.past)))
      by None a_is c c_is = absurd a_is
      by (Some earlier) a_is None c_is = absurd c_is
      by (Some earlier) a_is (Some call) c_is =
          let ended : earlier.moments.end ≡ found.finish.moment = ap (λ (x : Event). x.moment) a_is in
          let past : earlier.place.past ≡ found.finish.time = ap (λ (x : Event). x.time) a_is in
          let began : call.moments.begin ≡ found.begin.moment = ap (λ (x : Event). x.moment) c_is in
          let from : call.place.from ≡ found.begin.time = ap (λ (x : Event). x.time) c_is in
          let before = is.early.before in
          let later = is.early.later in
          (omega arith, omega arith)

-- calls that keep the order have none that is too early
pub kept_none : (records : List CallRecord) (moments : List Moments) → KeepsRealTime records moments → (i j : ℕ) → IsTooEarly records moments i j → ⊥
kept_none records moments keeps i j early = by (call_at records moments j) (call_at records moments i) (keeps i j) early where
  by : (a c : Option TimedCall) → IfSome a (λ earlier. IfSome c (λ call. earlier.moments.end < call.moments.begin → earlier.place.past ≤ call.place.from))
      → IsSomeAnd a (λ earlier. IsSomeAnd c (λ call. (earlier.moments.end < call.moments.begin) × (call.place.from < earlier.place.past))) → ⊥
  by None c keeps early = early
  by (Some earlier) None keeps early = early
  by (Some earlier) (Some call) keeps early = let le = keeps early.0 in let lt = early.1 in omega arith
