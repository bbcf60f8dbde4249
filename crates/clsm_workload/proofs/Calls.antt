-- The turns of a workload that were taken.
use Rattle.std.proofs.Common.{◌≡◌, ℕ, ◌+◌, List, [], ◌∷◌, Result, Ok, Err, IsOk, add-one, ap, refl, ◌∙◌, subst, sym}
use Rattle.std.proofs.lemmas.List.Elements.{All-head, All-tail}
use Rattle.std.specs.List.{AllZip}
use Rattle.std.specs.Prelude.{All, OnOk, ⊤}
use Rattle.clsm_model.specs.declared.plain_map.Memory.{Memory}
use Rattle.clsm_model.specs.declared.record.CallRecord.{CallRecord}
use Rattle.clsm_model.proofs.Batches.{begins_self, begins_trans}
use Rattle.clsm_store_calls.specs.Seats.{IsSameSeat, Refuses, SeatState, StoreId, known_by, newcomer}
use Rattle.clsm_workload.specs.Calls.{MakesAll, TakesNext, TakesTurns, after_turn, after_turns}
use Rattle.clsm_workload.specs.Workload.{Source}
use Rattle.clsm_workload.specs.declared.load.Load.{Load}
use Rattle.clsm_workload.specs.declared.worker.Worked.{Worked}
use Rattle.clsm_workload.proofs.Brought.{parts_of, seats_of}

-- so many turns of the workload were taken, and this is left of it
pub record HasTaken (n : ℕ) (first rest : Source) (old new : SeatState) (records : List CallRecord) : Type 0 where
  pub rest_is : rest ≡ after_turns n first
  pub turns : TakesTurns n first old new records

pub taken_one_more : (n : ℕ) (first rest rest' : Source) (old between new : SeatState) (before records : List CallRecord)
    → HasTaken n first rest old between before → TakesNext rest between new before records → rest' ≡ after_turn rest
    → HasTaken (n + 1) first rest' old new records
taken_one_more n first rest rest' old between new before records taken next is = rw add-one (record {
  rest_is = is ∙ ap after_turn taken.rest_is;
  turns = (between, before, taken.turns, subst (λ (s : Source). TakesNext s between new before records) taken.rest_is next);
})

-- a seat that did nothing is the same
pub same_self : (seat : SeatState) → IsSameSeat seat seat
same_self seat = record { store = refl; number = refl; longer = begins_self (known_by seat) }

pub same_trans : (a b c : SeatState) → IsSameSeat a b → IsSameSeat b c → IsSameSeat a c
same_trans a b c ab bc = record {
  store = bc.store ∙ ab.store;
  number = bc.number ∙ ab.number;
  longer = begins_trans (known_by a) (known_by b) (known_by c) ab.longer bc.longer;
}

pub refuses_self : (seat : SeatState) → Refuses seat seat
refuses_self seat = record { same = same_self seat; calls = refl; due = refl; snapshot = refl }

-- the newcomer with this number at this store is that of the seat
pub by_newcomer : (load : Load) (store : StoreId) (i : ℕ) (seat ended : SeatState) (records : List CallRecord) → (seat.store ≡ store) × (seat.number ≡ i)
    → MakesAll load (newcomer store i) ended records → MakesAll load (newcomer seat.store seat.number) ended records
by_newcomer load store i seat ended records here made =
    subst (λ (n : ℕ). MakesAll load (newcomer seat.store n) ended records) (sym here.1)
    (subst (λ (st : StoreId). MakesAll load (newcomer st i) ended records) (sym here.0) made)

pub on_ok_map : {A B : Type 0} (r : Result ⊤ Memory) → (A → B) → OnOk r A → OnOk r B
on_ok_map (Ok _) f a = f a
on_ok_map (Err _) f a = tt

on_ok : {A : Type 0} (r : Result ⊤ Memory) → OnOk r A → IsOk r → A
on_ok (Ok _) a ok = a
on_ok (Err _) a ok = absurd (cc)

-- what each worker that came to its end made, where all did
module _ (Makes : SeatState → List CallRecord → Type 0) where
  abbrev Did : Worked → Type 0
  Did w = OnOk w.made.ended (Makes w.seat w.made.records.items)

  abbrev Ended : Worked → Type 0
  Ended w = IsOk w.made.ended

  pub all_ended : (ws : List Worked) → All Did ws → All Ended ws → AllZip Makes (seats_of ws) (parts_of ws)
  all_ended [] did ended = tt
  all_ended (w ∷ ws) did ended = (
    on_ok w.made.ended (All-head Did w ws did) (All-head Ended w ws ended),
    all_ended ws (All-tail Did w ws did) (All-tail Ended w ws ended),
  )

-- what one made so, it made otherwise, too
pub zip_map : (P Q : SeatState → List CallRecord → Type 0) → ((s : SeatState) (r : List CallRecord) → P s r → Q s r) →
    (seats : List SeatState) (parts : List (List CallRecord)) → AllZip P seats parts → AllZip Q seats parts
zip_map P Q f [] [] z = tt
zip_map P Q f [] (r ∷ rs) z = absurd z
zip_map P Q f (s ∷ ss) [] z = absurd z
zip_map P Q f (s ∷ ss) (r ∷ rs) z = (f s r z.0, zip_map P Q f ss rs z.1)
