-- The seats that callers give back are all those of the store, in their order, and stay so as they
-- settle.
use Rattle.std.proofs.Common.{◌≡◌, ℕ, zero, suc, ◌<◌, List, [], ◌∷◌, length, get_or, map, Option, refl, sym, ap, ◌∙◌, subst, arith}
use Rattle.std.proofs.lemmas.List.{get_or_default, length-map}
use Rattle.clsm_model.specs.declared.config.Config.{Config}
use Rattle.clsm_model.specs.Config.{IsSound}
use Rattle.clsm_store.specs.Headline.{HasAllSeats, IsAt}
use Rattle.clsm_store.specs.Meetings.{AreMet, AreOf}
use Rattle.clsm_store_calls.specs.Seats.{AreNew, HasSizes, SeatState, StoreId, newcomer}
use Rattle.clsm_session.specs.Ended.{AreAllSeats, AreDone, StopsSession, StopsWork}
use Rattle.clsm_session.specs.Places.{AreBack, HasCells, HasPlace, IsBack}
use Rattle.clsm_session.specs.declared.refusal.SessionError.{SessionError}
use Rattle.clsm_session.specs.declared.refusal.SessionError.TheVariants.{Open, NoThread, Memory}
use Rattle.clsm_session.specs.declared.worked.Worked.{Worked}

-- the store of the place is the seat's
pub has_cells : (store : Option StoreId) (number cells : ℕ) (s : SeatState) → HasPlace store number s → cells ≡ s.store.layout.cells → HasCells store cells
has_cells store number cells s at e = subst (λ (o : Option StoreId). HasCells o cells) at.0 e

pub cells_of : (store : Option StoreId) (number cells : ℕ) (s : SeatState) → HasPlace store number s → HasCells store cells → cells ≡ s.store.layout.cells
cells_of store number cells s at h = subst (λ (o : Option StoreId). HasCells o cells) (sym at.0) h

abbrev pub seats_of : {A : Type 0} → List (Worked A) → List SeatState
seats_of ws = map (λ w. w.seat) ws

abbrev pub answers_of : {A : Type 0} → List (Worked A) → List A
answers_of ws = map (λ w. w.answer) ws

-- what the caller gave back whose seat stands at the place
mapped : {A : Type 0} (ws : List (Worked A)) (i : ℕ) (s : SeatState) → i < length ws → get_or (seats_of ws) i s ≡ s → (w : Worked A) × (get_or ws i w ≡ w)
    × (w.seat ≡ s)
mapped [] i s lt e = absurd (omega arith)
mapped (w ∷ ws) zero s lt e = (w, refl, e)
mapped (w ∷ ws) (suc i) s lt e = mapped ws i s (omega arith) e

-- and whose answer does
both_mapped : {A : Type 0} (ws : List (Worked A)) (i : ℕ) (s : SeatState) (a : A) → i < length ws → get_or (seats_of ws) i s ≡ s
    → get_or (answers_of ws) i a ≡ a → (w : Worked A) × (get_or ws i w ≡ w) × (w.seat ≡ s) × (w.answer ≡ a)
both_mapped [] i s a lt e f = absurd (omega arith)
both_mapped (w ∷ ws) zero s a lt e f = (w, refl, e, f)
both_mapped (w ∷ ws) (suc i) s a lt e f = both_mapped ws i s a (omega arith) e f

pub at_get : (l : List SeatState) (i : ℕ) (d : SeatState) → i < length l → IsAt l i (get_or l i d)
at_get l i d lt = (lt, get_or_default l i (get_or l i d) d lt)

module _ {A : Type 0} (does : SeatState → SeatState → A → Type 0) (store : StoreId) (count : ℕ) (seats : List SeatState) (new : AreNew store count seats)
    (worked : List (Worked A)) (back : AreBack does seats worked) where
  is_back : (i : ℕ) (w : Worked A) → i < length worked → get_or worked i w ≡ w → IsBack does (newcomer store i) w
  is_back i w lt e =
      let inside : i < length seats = (let c = back.count in omega arith) in
      back.each i (newcomer store i) w inside (new.each i inside) e

  pub all_back : AreAllSeats store count (seats_of worked)
  all_back = record {
    counted = length-map worked (λ w. w.seat) ∙ (back.count ∙ new.counted);
    each = λ i s at.
        let within : i < length worked = (let a = at.0 in let n = length-map worked (λ (w : Worked A). w.seat) in omega arith) in
        let m = mapped worked i s within at.1 in
        let is = is_back i m.0 within m.1 in
        (ap (λ (z : SeatState). z.store) (sym m.2) ∙ is.store, ap (λ (z : SeatState). z.number) (sym m.2) ∙ is.number);
  }

  pub all_done : (settled : List SeatState) → AreMet (seats_of worked) settled → AreDone does store settled (answers_of worked)
  all_done settled met i seat a at lt e =
      let within : i < length worked = (let n = length-map worked (λ (w : Worked A). w.answer) in omega arith) in
      let was = at_get (seats_of worked) i seat (let n = length-map worked (λ (w : Worked A). w.seat) in omega arith) in
      let before = get_or (seats_of worked) i seat in
      let m = both_mapped worked i before a within was.1 e in
      let says = (is_back i m.0 within m.1).says in
      record {
        ended = before;
        says = subst (λ (z : SeatState). does (newcomer store i) z a) m.2 (subst (λ (b : A). does (newcomer store i) m.0.seat b) m.3 says);
        settled = (met.each i i before seat before was at was).read;
      }

-- all of them are of the store
pub of_store : (store : StoreId) (count : ℕ) (seats : List SeatState) → AreAllSeats store count seats → AreOf store seats
of_store store count seats all = λ i d lt. (all.each i (get_or seats i d) (at_get seats i d lt)).0

pub has_all : (store : StoreId) (config : Config) (seats : List SeatState) → HasSizes store config → AreAllSeats store config.seats seats
    → HasAllSeats store seats
has_all store config seats sizes all n lt =
    let at = at_get seats n (newcomer store n) (let c = all.counted in let s = sizes.seats in omega arith) in
    (n, get_or seats n (newcomer store n), at, (all.each n (get_or seats n (newcomer store n)) at).1)

pub all_settled : (store : StoreId) (count : ℕ) (old new : List SeatState) → AreMet old new → AreAllSeats store count old → AreAllSeats store count new
all_settled store count old new met all = record {
  counted = met.count ∙ all.counted;
  each = λ i s at.
      let was = at_get old i s (let a = at.0 in let c = met.count in omega arith) in
      let before = get_or old i s in
      let read = (met.each i i before s before was at was).read in
      let is = all.each i before was in
      (read.same.store ∙ is.0, read.same.number ∙ is.1);
}

-- an opened store had sizes in their ranges
pub stops_session : (config : Config) (error : SessionError) → IsSound config → StopsWork error → StopsSession config error
stops_session config (Open fault) sound why = absurd why
stops_session config NoThread sound why = sound
stops_session config Memory sound why = sound
