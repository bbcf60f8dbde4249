-- What the callers of a session made, and the seats that it hands back.
use Rattle.std.proofs.Common.{◌≡◌, ℕ, suc, ◌<◌, List, [], ◌∷◌, length, get_or, map, Result, Ok, Err, IfErr, IfOk, IsOk, refl, sym, subst, ap, arith}
use Rattle.std.proofs.lemmas.List.Elements.{All-cons, All-nil}
use Rattle.std.specs.List.{AllZip}
use Rattle.std.specs.Prelude.{All, vec_len}
use Rattle.clsm_model.specs.declared.config.Config.{Config}
use Rattle.clsm_store.specs.Headline.{IsAt, IsWholeHistory, longest_past}
use Rattle.clsm_store_calls.specs.Seats.{HasSizes, SeatState, StoreId}
use Rattle.clsm_session.specs.Ended.{AreAllSeats, AreDone, IsDone, StopsSession}
use Rattle.clsm_session.specs.declared.session.Ended.{Ended}
use Rattle.clsm_session.specs.declared.refusal.SessionError.{SessionError}
use Rattle.clsm_workload.specs.Calls.{AreSeatsOf, HasSettled, Works}
use Rattle.clsm_workload.specs.Run.{AreMade, EndsSession, IsMade}
use Rattle.clsm_workload.specs.declared.load.Load.{Load}
use Rattle.clsm_workload.specs.declared.worker.Made.{Made}
use Rattle.clsm_workload.specs.declared.worker.Worked.{Worked}
use Rattle.clsm_workload.proofs.Brought.{parts_of, seats_of}
use Rattle.clsm_workload.proofs.Calls.{all_ended, by_newcomer, on_ok_map}

abbrev pub made_of : List Worked → List Made
made_of ws = map (λ (w : Worked). w.made) ws

-- what was made by a seat that was settled since
made_by : (load : Load) (store : StoreId) (i : ℕ) (s : SeatState) (m : Made) → (s.store ≡ store) × (s.number ≡ i) → IsDone (Works load) store i s m
    → IsMade load s m
made_by load store i s m here d =
    on_ok_map m.ended (λ made. record { ended = d.ended; made = by_newcomer load store i s d.ended m.records.items here made; settled = d.settled })
    d.says.all

-- each seat with what was made by it, place by place
are_made : (load : Load) (seats : List SeatState) (made : List Made) → length made ≡ length seats →
    ((i : ℕ) (s : SeatState) (m : Made) → IsAt seats i s → i < length made → get_or made i m ≡ m → IsMade load s m) → AreMade load seats made
are_made load [] [] count told = tt
are_made load [] (m ∷ ms) count told = absurd (omega (arith, count))
are_made load (s ∷ ss) [] count told = absurd (omega (arith, count))
are_made load (s ∷ ss) (m ∷ ms) count told = (
  told 0 s m (omega arith, refl) (omega arith) refl,
  are_made load ss ms (omega (arith, count)) (λ i s' m' at lt e. told (suc i) s' m' (let a = at.0 in omega (arith, a), at.1) (omega (arith, lt)) e),
)

-- as many answers as seats
pub as_many : (load : Load) (seats : List SeatState) (made : List Made) → AreMade load seats made → length made ≡ length seats
as_many load [] [] are = refl
as_many load [] (m ∷ ms) are = absurd are
as_many load (s ∷ ss) [] are = absurd are
as_many load (s ∷ ss) (m ∷ ms) are = ap suc (as_many load ss ms are.1)

-- what was made by each seat of those that were joined again
each_made : (load : Load) (ws : List Worked) → AreMade load (seats_of ws) (made_of ws) → All (λ (w : Worked). IsMade load w.seat w.made) ws
each_made load [] are = All-nil (λ (w : Worked). IsMade load w.seat w.made)
each_made load (w ∷ ws) are = All-cons (λ (v : Worked). IsMade load v.seat v.made) w ws are.0 (each_made load ws are.1)

module _ (load : Load) (seats : List SeatState) (made : List Made) (are : AreMade load seats made) (ws : List Worked) where
  module _ (same : seats_of ws ≡ seats) (kept : made_of ws ≡ made) where
    joined : All (λ (w : Worked). IsMade load w.seat w.made) ws
    joined = each_made load ws (subst (AreMade load (seats_of ws)) (sym kept) (subst (λ (ss : List SeatState). AreMade load ss made) (sym same) are))

    pub settled : All (λ (w : Worked). IsOk w.made.ended) ws → AllZip (HasSettled load) (seats_of ws) (parts_of ws)
    settled ended = all_ended (HasSettled load) ws joined ended

-- a session ends so, by its contract
pub ends : (config : Config) (load : Load) (ended : Result (Ended Made) SessionError) → IfOk ended (λ e. HasSizes e.store config) →
    IfOk ended (λ e. AreAllSeats e.store config.seats e.seats.items) →
    IfOk ended (λ e. vec_len e.answers ≡ config.seats) → IfOk ended (λ e. AreDone (Works load) e.store e.seats.items e.answers.items) →
    IfOk ended (λ e. IsWholeHistory e.seats.items (longest_past e.seats.items)) → IfErr ended (StopsSession config) → EndsSession config load ended
ends config load (Ok e) sizes all count done whole stops = record {
  sizes = sizes;
  all_seats = all;
  made = are_made load e.seats.items e.answers.items (let c = count in let n = all.counted in omega (arith, c, n))
      (λ i s m at lt is. made_by load e.store i s m (all.each i s at) (done i s m at lt is));
  whole = whole;
}
ends config load (Err error) sizes all count done whole stops = stops

-- all seats of a store are those that are audited
pub are_seats_of : (store : StoreId) (count : ℕ) (seats : List SeatState) → AreAllSeats store count seats → AreSeatsOf store count seats
are_seats_of store count seats all = record {
  counted = all.counted;
  each = λ i s lt is. all.each i s (let n = all.counted in omega (arith, lt, n), is);
}
