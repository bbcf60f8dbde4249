-- One put and one get are all the calls of their seats: what the settled history says of them.
use Rattle.std.proofs.Common.{◌≡◌, ◌≢◌, ℕ, zero, suc, ◌<◌, ◌==◌, ◌⊎◌, Bool, true, false, cond, List, [], ◌∷◌, ◌++◌, get_or, Option, Some}
use Rattle.std.proofs.Common.{None}
use Rattle.std.proofs.Common.{is_some, refl, sym, ap, ◌∙◌, subst, arith, add-one, nat_lt, ⊎_elim, lt-ltb, le-ltb, lt_of_not-le}
use Rattle.std.specs.List.{AllByRecursion}
use Rattle.std.proofs.lemmas.Bool.{cases_Bool, eq-eqb, eqb-true}
use Rattle.std.proofs.lemmas.List.{get_or_past}
use mathlib.Core.Logic.{dite}
use native.Mathlib.Decide.{ℕ_discrete, dec_le}
use Rattle.clsm_model.specs.declared.slot.Slot.{Slot}
use Rattle.clsm_model.specs.declared.slot.Slot.TheVariants.{Nothing, Wrote}
use Rattle.clsm_model.specs.declared.record.Deed.{Deed}
use Rattle.clsm_model.specs.declared.record.Deed.TheVariants.{Get, Put}
use Rattle.clsm_model.specs.declared.record.CallRecord.{CallRecord}
use Rattle.clsm_model.specs.History.{History, IsBeginning, end_of, value}
use Rattle.clsm_model.specs.Map.{value_after}
use Rattle.clsm_model.specs.Seats.{AreCallsIn, HasEachWrite, IsRecordIn, StandsAs}
use Rattle.clsm_model.proofs.Maps.{value-next}
use Rattle.clsm_law.specs.Relation.{call_of}
use Rattle.clsm_store_calls.specs.Seats.{Answers, SeatState, StoreId, known_by}
use Rattle.clsm_store.specs.Headline.{HasAllSeats, IsWholeHistory, longest_past}
use Rattle.clsm_store.specs.Meetings.{AreMet}
use Rattle.clsm_store_audit.specs.Race.{left_by_put}
use Rattle.clsm_store_audit.specs.Told.{HasMade}
use Rattle.clsm_store_audit.proofs.Both.{IsOfBoth, settled_both}

-- ---- a history whose only write is a put

-- but for the put's own time, one time more changes nothing
test_more : (put t : ℕ) → t ≢ put → nat_lt put t ≡ nat_lt put (suc t)
test_more put t ne = elim (dec_le t put) [
  | yes below ↦ le-ltb put t below ∙ sym (le-ltb put (suc t) (omega arith))
  | no above ↦ lt-ltb put t (lt_of_not-le above) ∙ sym (lt-ltb put (suc t) (let a = lt_of_not-le above in omega arith))
]

module _ (h : History) (key put : ℕ) (v : List ℕ) (stands : get_or h.slots put Nothing ≡ Wrote 0 key (Some v))
    (alone : (t n k : ℕ) (written : Option (List ℕ)) → t < end_of h → get_or h.slots t Nothing ≡ Wrote n k written → t ≡ put) where
  same : (k : ℕ) (before : Option (List ℕ)) → value_after (Wrote 0 k (Some v)) k before ≡ Some v
  same k before = ap (λ (b : Bool). cond b (Some v) before) (eq-eqb k k refl)

  nothing_else : (t : ℕ) (slot : Slot) → get_or h.slots t Nothing ≡ slot → t ≢ put → (before : Option (List ℕ)) → value_after slot key before ≡ before
  nothing_else t Nothing is ne before = refl
  nothing_else t (Wrote n k written) is ne before = elim (dec_le (end_of h) t) [
    | yes past ↦ absurd (let e : Nothing ≡ Wrote n k written = sym (get_or_past h.slots t Nothing past) ∙ is in cc)
    | no within ↦ absurd (ne (alone t n k written (lt_of_not-le within) is))
  ]

  next : (t : ℕ) → value h key (suc t) ≡ value_after (get_or h.slots t Nothing) key (value h key t)
  next t = rw add-one at (value-next h key t)

  pub only_put : (at : ℕ) → value h key at ≡ left_by_put v put at
  only_put zero = sym (ap (λ (b : Bool). cond b (Some v) None) (le-ltb put 0 (omega arith)))
  only_put (suc t) = next t ∙ dite (ℕ_discrete t put)
      (λ (e : t ≡ put). ap (λ (slot : Slot). value_after slot key (value h key t)) (ap (λ (i : ℕ). get_or h.slots i Nothing) e ∙ stands)
      ∙ same key (value h key t)
      ∙ sym (ap (λ (b : Bool). cond b (Some v) None) (lt-ltb put (suc t) (omega arith))))
      (λ (ne : t ≢ put). nothing_else t (get_or h.slots t Nothing) refl ne (value h key t) ∙ only_put t
      ∙ ap (λ (b : Bool). cond b (Some v) None) (test_more put t ne))

-- ---- the calls of the two seats

one_time : (t time : ℕ) (write : Slot) (x r : CallRecord) → cond (is_some (cond (time == t) (Some write) None)) (x ∷ []) [] ≡ r ∷ [] → t ≡ time
one_time t time write x r e = ⊎_elim
    (λ (is : (time == t) ≡ true). sym (eqb-true time t is))
    (λ (no : (time == t) ≡ false). absurd (some_not_none (sym e ∙ ap (λ (b : Bool). cond (is_some (cond b (Some write) None)) (x ∷ []) []) no)))
    (cases_Bool (time == t))
  where
    some_not_none : {y : CallRecord} {ys : List CallRecord} → y ∷ ys ≡ [] → ⊥
    some_not_none e = cc e

-- each write of a seat whose only call is a put stands at the put's time
at_put : (h : History) (time key : ℕ) (v : List ℕ) → HasEachWrite h.slots 0 (call_of 0 time (Put key v) ∷ []) → (t k : ℕ) (written : Option (List ℕ))
    → t < end_of h → get_or h.slots t Nothing ≡ Wrote 0 k written → t ≡ time
at_put h time key v each t k written lt is = let e = each t k written lt is in one_time t time _ _ e.0 e.1

-- a seat whose only call is a get wrote nothing
none_of : (h : History) (time key : ℕ) (reply : Option (List ℕ)) → HasEachWrite h.slots 1 (call_of 1 time (Get key reply) ∷ [])
    → (t k : ℕ) (written : Option (List ℕ)) → t < end_of h → get_or h.slots t Nothing ≡ Wrote 1 k written → ⊥
none_of h time key reply each t k written lt is = let e = each t k written lt is in go (time == t) e.0 e.1
  where
    go : (b : Bool) (r : CallRecord) → cond (is_some (cond {A = Option Slot} b None None)) (call_of 1 time (Get key reply) ∷ []) [] ≡ r ∷ [] → ⊥
    go true r e = cc e
    go false r e = cc e

some_slot : {x y : Slot} → Some x ≡ Some y → x ≡ y
some_slot e = cc e

-- a put that is a seat's only call stands at its time, as far as the history goes
pub put_stands : (h : History) (n put key : ℕ) (v : List ℕ) → AllByRecursion (IsRecordIn h.slots n) (call_of n put (Put key v) ∷ []) → put < end_of h
    → get_or h.slots put Nothing ≡ Wrote n key (Some v)
put_stands h n put key v stand lt = some_slot (subst (λ (b : Bool). StandsAs (cond b (Some (Wrote n key (Some v))) None) (Some (get_or h.slots put Nothing)))
    (eq-eqb put put refl) (stand.0.1 put lt))

module _ (h : History) (key key' put at : ℕ) (v : List ℕ) (reply : Option (List ℕ)) (due due' : ℕ) (snapshot snapshot' : Option ℕ)
    (puts : AreCallsIn h 0 (call_of 0 put (Put key v) ∷ []) due snapshot)
    (gets : AreCallsIn h 1 (call_of 1 at (Get key' reply) ∷ []) due' snapshot')
    (theirs : (t n k : ℕ) (written : Option (List ℕ)) → t < end_of h → get_or h.slots t Nothing ≡ Wrote n k written → (n ≡ 0) ⊎ (n ≡ 1)) where
  pub stands : get_or h.slots put Nothing ≡ Wrote 0 key (Some v)
  stands = put_stands h 0 put key v puts.stand (let a = puts.reached in let b = puts.rising.due_is in omega arith)

  pub alone : (t n k : ℕ) (written : Option (List ℕ)) → t < end_of h → get_or h.slots t Nothing ≡ Wrote n k written → t ≡ put
  alone t n k written lt is = ⊎_elim
      (λ (e : n ≡ 0). at_put h put key v puts.each t k written lt (is ∙ ap (λ (i : ℕ). Wrote i k written) e))
      (λ (e : n ≡ 1). absurd (none_of h at key' reply gets.each t k written lt (is ∙ ap (λ (i : ℕ). Wrote i k written) e)))
      (theirs t n k written lt is)

  pub reply_is : key' ≡ key → reply ≡ left_by_put v put at
  reply_is e = gets.right.0.reads ∙ ap (λ (k : ℕ). value h k at) e ∙ only_put h key put v stands alone at

-- ---- the two seats, settled

-- an answered call is all that a seat has made which made none before
pub made : (store : StoreId) (n : ℕ) (old new : SeatState) (t : ℕ) (deed : Deed) → old.store ≡ store → old.number ≡ n → old.calls ≡ []
    → Answers old new t deed → HasMade store n (call_of n t deed ∷ []) new
made store n old new t deed of number none a = record {
  of = a.same.store ∙ of;
  numbered = a.same.number ∙ number;
  called = a.calls ∙ (λ k. none k ++ call_of (number k) t deed ∷ []);
}

module _ (store : StoreId) (two : store.layout.seats ≡ 2) (writer reader : SeatState) (key key' put at : ℕ) (v : List ℕ) (reply : Option (List ℕ))
    (wrote : HasMade store 0 (call_of 0 put (Put key v) ∷ []) writer) (read : HasMade store 1 (call_of 1 at (Get key' reply) ∷ []) reader)
    (settled : List SeatState) (met : AreMet (writer ∷ reader ∷ []) settled)
    (whole : HasAllSeats store (writer ∷ reader ∷ []) → IsWholeHistory settled (longest_past settled)) where
  abbrev h : History
  h = longest_past settled

  both : IsOfBoth h writer reader (call_of 0 put (Put key v) ∷ []) (call_of 1 at (Get key' reply) ∷ [])
  both = settled_both store two writer reader (call_of 0 put (Put key v) ∷ []) (call_of 1 at (Get key' reply) ∷ []) wrote read settled met whole

  -- the get answered what the put leaves below the get's time
  pub answered : key' ≡ key → reply ≡ left_by_put v put at
  answered = reply_is h key key' put at v reply both.first.due both.second.due both.first.snapshot both.second.snapshot both.first.calls_in
      both.second.calls_in both.theirs

  -- what the reader knew is a beginning of the history
  pub reader_begins : IsBeginning (known_by reader) h
  reader_begins = both.second.begins

  -- the put stands in it, and no other write
  pub put_is : get_or h.slots put Nothing ≡ Wrote 0 key (Some v)
  put_is = stands h key key' put at v reply both.first.due both.second.due both.first.snapshot both.second.snapshot both.first.calls_in
      both.second.calls_in both.theirs

  pub put_alone : (t n k : ℕ) (written : Option (List ℕ)) → t < end_of h → get_or h.slots t Nothing ≡ Wrote n k written → t ≡ put
  put_alone = alone h key key' put at v reply both.first.due both.second.due both.first.snapshot both.second.snapshot both.first.calls_in
      both.second.calls_in both.theirs
