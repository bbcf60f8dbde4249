-- The seats that workers give back are those of the store, in their order, and their workers made
-- the records.
use Rattle.std.proofs.Common.{◌≡◌, ℕ, zero, suc, ◌<◌, List, [], ◌∷◌, length, get_or, IsOk, refl, sym, ap, ◌∙◌, arith}
use Rattle.std.proofs.lemmas.List.{get_or_default, length-map}
use Rattle.std.specs.List.{AllZip}
use Rattle.std.specs.Prelude.{All}
use Rattle.clsm_store_calls.specs.Seats.{StoreId, SeatState, AreNew, newcomer}
use Rattle.clsm_workload.specs.Calls.{AreSeatsOf, AreWorked, HasMadeAll, IsWorked}
use Rattle.clsm_workload.specs.declared.load.Load.{Load}
use Rattle.clsm_workload.specs.declared.worker.Worked.{Worked}
use Rattle.clsm_workload.proofs.Brought.{parts_of, seats_of}
use Rattle.clsm_workload.proofs.Calls.{all_ended, by_newcomer, on_ok_map}

-- the worker whose seat stands at the place
mapped : (ws : List Worked) (i : ℕ) (s : SeatState) → i < length ws → get_or (seats_of ws) i s ≡ s → (w : Worked) × (get_or ws i w ≡ w) × (w.seat ≡ s)
mapped [] i s lt e = absurd (omega arith)
mapped (w ∷ ws) zero s lt e = (w, refl, e)
mapped (w ∷ ws) (suc i) s lt e = mapped ws i s (omega arith) e

module _ (store : StoreId) (count : ℕ) (seats : List SeatState) (new : AreNew store count seats) where
  pub all_seated : All (λ (seat : SeatState). seat.store ≡ store) seats
  all_seated = λ i d lt.
      ap (λ (seat : SeatState). seat.store) (get_or_default seats i d (newcomer store i) lt ∙ new.each i lt)

  module _ (load : Load) (worked : List Worked) (done : AreWorked load seats worked) where
    works : (i : ℕ) (w : Worked) → i < length worked → get_or worked i w ≡ w → IsWorked load (newcomer store i) w
    works i w lt e =
        let inside : i < length seats = (let c = done.count in omega arith) in
        done.each i (newcomer store i) w inside (new.each i inside) e

    pub all_made : All (λ (w : Worked). IsOk w.made.ended) worked → AllZip (HasMadeAll load) (seats_of worked) (parts_of worked)
    all_made ended = all_ended (HasMadeAll load) worked (λ i d lt.
        let w = get_or worked i d in
        let done_by : IsWorked load (newcomer store i) w = works i w lt (get_or_default worked i w d lt) in
        on_ok_map w.made.ended (by_newcomer load store i w.seat w.seat w.made.records.items (done_by.same.store, done_by.same.number)) done_by.all) ended

    pub are_seats : (gathered : List SeatState) → gathered ≡ seats_of worked → AreSeatsOf store count gathered
    are_seats gathered is = record {
      counted = ap length is ∙ (length-map worked (λ (w : Worked). w.seat) ∙ (done.count ∙ new.counted));
      each = λ i s lt e.
          let inside : i < length worked = (let c = done.count in let n = new.counted in omega arith) in
          let m = mapped worked i s inside (ap (λ (l : List SeatState). get_or l i s) (sym is) ∙ e) in
          let w = works i m.0 inside m.1 in
          (ap (λ (seat : SeatState). seat.store) (sym m.2) ∙ w.same.store, ap (λ (seat : SeatState). seat.number) (sym m.2) ∙ w.same.number);
    }
