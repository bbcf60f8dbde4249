-- The calls of all seats, one seat's after another's, are the records of the seats; and settling
-- keeps whose records they are.
use Rattle.std.proofs.Common.{◌≡◌, ◌≢◌, ℕ, ◌==◌, zero, suc, Bool, cond, List, [], ◌∷◌, ◌++◌, get_or, refl, sym, ap, ◌∙◌, arith}
use Rattle.std.proofs.lemmas.Bool.{eq-eqb, ne_eqb}
use Rattle.std.proofs.lemmas.List.{append-nil, get_or_default}
use Rattle.std.proofs.lemmas.List.Elements.{filter-append}
use Rattle.std.specs.List.{AllByRecursion}
use Rattle.clsm_model.specs.declared.config.Config.{Config}
use Rattle.clsm_model.specs.declared.record.CallRecord.{CallRecord}
use Rattle.clsm_model.specs.declared.slot.Slot.{Slot}
use Rattle.clsm_model.specs.Seats.{IsRecordIn}
use Rattle.clsm_audit.specs.Lawful.{calls_of}
use Rattle.clsm_store_calls.specs.Seats.{AreNew, HasSizes, IsLawfulAlone, SeatState, StoreId, newcomer}
use Rattle.clsm_store.specs.Headline.{HasAllSeats, IsAt}
use Rattle.clsm_store.specs.Meetings.{AreMet}
use Rattle.clsm_store_audit.specs.Settled.{AreAllInOrder, AreRecordsOf, HasOwnCalls, HaveOwnCalls, joined}
use Rattle.clsm_store_audit.proofs.Places.{at_get}

-- ---- the calls of one number among those of a seat

calls_of-append : (a b : List CallRecord) (n : ℕ) → calls_of (a ++ b) n ≡ calls_of a n ++ calls_of b n
calls_of-append a b n = filter-append (λ (r : CallRecord). r.seat == n) a b

own_calls : (calls : List CallRecord) (n : ℕ) → AllByRecursion (λ r. r.seat ≡ n) calls → calls_of calls n ≡ calls
own_calls [] n own = refl
own_calls (r ∷ rs) n own = ap (λ (b : Bool). cond b (r ∷ calls_of rs n) (calls_of rs n)) (eq-eqb r.seat n own.0)
    ∙ ap (λ (xs : List CallRecord). r ∷ xs) (own_calls rs n own.1)

other_calls : (calls : List CallRecord) (n m : ℕ) → AllByRecursion (λ r. r.seat ≡ n) calls → n ≢ m → calls_of calls m ≡ []
other_calls [] n m own ne = refl
other_calls (r ∷ rs) n m own ne = ap (λ (b : Bool). cond b (r ∷ calls_of rs m) (calls_of rs m)) (ne_eqb r.seat m (λ e. ne (sym own.0 ∙ e)))
    ∙ other_calls rs n m own.1 ne

-- each call of a lawful seat has its number
own_numbers : (slots : List Slot) (n : ℕ) (calls : List CallRecord) → AllByRecursion (IsRecordIn slots n) calls → AllByRecursion (λ r. r.seat ≡ n) calls
own_numbers slots n [] stand = tt
own_numbers slots n (r ∷ rs) stand = (stand.0.0, own_numbers slots n rs stand.1)

pub lawful_own : (s : SeatState) → IsLawfulAlone s → HasOwnCalls s
lawful_own s lawful = own_numbers s.past s.number s.calls lawful.0.agrees.stand

-- ---- and among those of all seats

at_head : (x : SeatState) (xs : List SeatState) → IsAt (x ∷ xs) zero x
at_head x xs = (omega arith, refl)

at_later : (x : SeatState) (xs : List SeatState) (i : ℕ) (s : SeatState) → IsAt xs i s → IsAt (x ∷ xs) (suc i) s
at_later x xs i s at = ((let a = at.0 in omega arith), at.1)

joined_none : (l : List SeatState) (n : ℕ) → ((i : ℕ) (s : SeatState) → IsAt l i s → HasOwnCalls s × (s.number ≢ n)) → calls_of (joined l) n ≡ []
joined_none [] n none = refl
joined_none (x ∷ xs) n none =
    let here = none zero x (at_head x xs) in
    calls_of-append x.calls (joined xs) n ∙ ap (λ (a : List CallRecord). a ++ calls_of (joined xs) n) (other_calls x.calls x.number n here.0 here.1)
    ∙ joined_none xs n (λ i s at. none (suc i) s (at_later x xs i s at))

joined_one : (l : List SeatState) (i : ℕ) (s : SeatState) → IsAt l i s → HaveOwnCalls l
    → ((j : ℕ) (t : SeatState) → IsAt l j t → j ≢ i → t.number ≢ s.number) → calls_of (joined l) s.number ≡ s.calls
joined_one [] i s at own apart = absurd (let a = at.0 in omega arith)
joined_one (x ∷ xs) zero s at own apart =
    calls_of-append x.calls (joined xs) s.number
    ∙ ap (λ (a : List CallRecord). calls_of x.calls s.number ++ a) (joined_none xs s.number
    (λ j t there. (own (suc j) t (at_later x xs j t there), apart (suc j) t (at_later x xs j t there) (λ e. omega arith))))
    ∙ append-nil (calls_of x.calls s.number) ∙ ap (λ (z : SeatState). calls_of z.calls s.number) at.1 ∙ own_calls s.calls s.number (own zero s at)
joined_one (x ∷ xs) (suc i) s at own apart =
    calls_of-append x.calls (joined xs) s.number
    ∙ ap (λ (a : List CallRecord). a ++ calls_of (joined xs) s.number)
    (other_calls x.calls x.number s.number (own zero x (at_head x xs)) (apart zero x (at_head x xs) (λ e. omega arith)))
    ∙ joined_one xs i s ((let a = at.0 in omega arith), at.1) (λ j t there. own (suc j) t (at_later x xs j t there))
    (λ j t there ne. apart (suc j) t (at_later x xs j t there) (λ e. ne (omega arith)))

pub joined_records : (store : StoreId) (seats : List SeatState) → AreAllInOrder store seats → HaveOwnCalls seats → AreRecordsOf store seats (joined seats)
joined_records store seats order own = record {
  theirs = λ i s at. joined_one seats i s at own (λ j t there ne e. ne (sym (order.numbers j t there) ∙ e ∙ order.numbers i s at));
  others = λ n beyond. joined_none seats n (λ i s at. (
    own i s at,
    λ e. let number = order.numbers i s at in let count = order.count in let a = at.0 in
        omega arith,
  ));
}

pub all_in_order : (store : StoreId) (seats : List SeatState) → AreAllInOrder store seats → HasAllSeats store seats
all_in_order store seats order n lt =
    let at = at_get seats n (newcomer store n) (let count = order.count in omega arith) in
    (n, get_or seats n (newcomer store n), at, order.numbers n (get_or seats n (newcomer store n)) at)

-- ---- seats that did nothing yet

new_at : (store : StoreId) (count : ℕ) (seats : List SeatState) → AreNew store count seats → (i : ℕ) (s : SeatState) → IsAt seats i s → s ≡ newcomer store i
new_at store count seats new i s at = sym at.1 ∙ get_or_default seats i s (newcomer store i) at.0 ∙ new.each i at.0

-- they have no records
pub new_records : (store : StoreId) (count : ℕ) (seats : List SeatState) → AreNew store count seats → AreRecordsOf store seats []
new_records store count seats new = record {
  theirs = λ i s at. sym (ap (λ (z : SeatState). z.calls) (new_at store count seats new i s at));
  others = λ n beyond. refl;
}

-- the seats of a new store are all of it, in order
pub new_in_order : (store : StoreId) (config : Config) (seats : List SeatState) → HasSizes store config → AreNew store config.seats seats
    → AreAllInOrder store seats
new_in_order store config seats sizes new = record {
  count = new.counted ∙ sym sizes.seats;
  numbers = λ i s at. ap (λ (z : SeatState). z.number) (new_at store config.seats seats new i s at);
}

-- ---- settling keeps them

module _ (store : StoreId) (old new : List SeatState) (met : AreMet old new) where
  was : (i : ℕ) (s : SeatState) → IsAt new i s → IsAt old i (get_or old i s)
  was i s at = at_get old i s (let a = at.0 in let count = met.count in omega arith)

  pub records_met : (records : List CallRecord) → AreRecordsOf store old records → AreRecordsOf store new records
  records_met records are = record {
    theirs = λ i s at.
        let before = get_or old i s in
        let read = (met.each i i before s before (was i s at) at (was i s at)).read in
        ap (calls_of records) read.same.number ∙ are.theirs i before (was i s at) ∙ sym read.calls;
    others = are.others;
  }

  pub all_met : HasAllSeats store old → HasAllSeats store new
  all_met all n lt =
      let a = all n lt in
      let at = at_get new a.0 a.1 (let x = a.2.0 in let count = met.count in omega arith) in
      (a.0, get_or new a.0 a.1, at, (met.each a.0 a.0 a.1 (get_or new a.0 a.1) a.1 a.2 at a.2).read.same.number ∙ a.3)
