-- What calls and meetings make of the seats of a session.
use Rattle.std.proofs.Common.{◌≡◌, ◌≢◌, ℕ, ◌<◌, ◌≤◌, List, [], ◌∷◌, ◌++◌, length, set, Option, None}
use Rattle.std.proofs.Common.{Some, refl, sym, ap, ◌∙◌, subst, arith, All, append-nil, suc, Bool, cond}
use Rattle.std.proofs.Common.{⊎_elim, get_or, IfSome}
use Rattle.std.proofs.lemmas.List.{get_or_default, get_or-set_same, get_or-set_other, length-set}
use Rattle.std.proofs.lemmas.List.Elements.{All-append, All-cons, All-nil, All-from_get_or}
use Rattle.std.proofs.lemmas.Bool.{cases_eq, ne_eqb}
use Rattle.std.specs.Option.{option_to_list}
use Rattle.clsm_model.specs.declared.record.CallRecord.{CallRecord}
use Rattle.clsm_model.specs.declared.config.Config.{Config}
use Rattle.clsm_audit.specs.Faults.{IsFirstFault}
use Rattle.clsm_audit.specs.Lawful.{calls_of}
use Rattle.clsm_audit.specs.Whole.{HasHistory}
use Rattle.clsm_audit.specs.declared.fault.FaultKind.{FaultKind}
use Rattle.clsm_audit.specs.declared.fault.FaultKind.TheVariants.{Unknown, TwoAtOneTime, TimeRanBack, WrongReply}
use Rattle.clsm_audit.proofs.Calls.{calls_of-own, calls_of-other}
use Rattle.clsm_audit.proofs.WholeHistory.{is_lawful}
use Rattle.clsm_store_calls.specs.Seats.{AreNew, SeatState, StoreId, newcomer}
use Rattle.clsm_store.specs.Headline.{HasAllSeats, IsAt}
use Rattle.clsm_store.specs.Meetings.{AreOf}
use Rattle.clsm_store_audit.specs.Settled.{AreRecordsOf}
use Rattle.clsm_store_audit.proofs.Places.{at_get}
use Rattle.clsm_script.specs.Play.{PairMeets}
use Rattle.clsm_script.specs.Session.{AreRecorded, IsRecorded}

-- a record of the seat with one number is one of the seat with an equal one
pub of_seat : (made : Option CallRecord) (n m : ℕ) → n ≡ m → IfSome made (λ r. r.seat ≡ n) →
    IfSome made (λ r. r.seat ≡ m)
of_seat made n m e is = subst (λ number. IfSome made (λ r. r.seat ≡ number)) e is

-- ---- places

-- there is one seat at a place
at_one : (seats : List SeatState) (i : ℕ) (s s' : SeatState) → IsAt seats i s → IsAt seats i s' →
    s ≡ s'
at_one seats i s s' a b = sym a.1 ∙ get_or_default seats i s s' a.0 ∙ b.1

-- after a seat was put at k, the seat at i is that one or the one that was there
module _ (seats : List SeatState) (k : ℕ) (new : SeatState) (i : ℕ) (s : SeatState)
    (at : IsAt (set seats k new) i s) where
  within : i < length seats
  within = let same = length-set seats k new in let inside = at.0 in omega arith

  at_same : i ≡ k → s ≡ new
  at_same same =
      sym at.1 ∙ ap (λ n. get_or (set seats k new) n s) same
      ∙ get_or-set_same seats k new s (let inside = within in omega arith)

  at_other : i ≢ k → IsAt seats i s
  at_other other = (within, sym (get_or-set_other seats k i new s other) ∙ at.1)

-- a seat that was there before another was put at k is there after
pub at_kept : (seats : List SeatState) (k : ℕ) (new : SeatState) (i : ℕ) (s : SeatState) →
    i ≢ k → IsAt seats i s → IsAt (set seats k new) i s
at_kept seats k new i s other at = (
  (let same = length-set seats k new in let inside = at.0 in omega arith),
  get_or-set_other seats k i new s other ∙ at.1,
)

-- ---- records

-- seats that did nothing have no records
pub recorded_new : (store : StoreId) (count : ℕ) (seats : List SeatState) →
    AreNew store count seats → AreRecorded store [] seats
recorded_new store count seats new i seat at =
    subst (IsRecorded store [] i)
    (at_one seats i (newcomer store i) seat (at.0, new.each i at.0) at)
    (record { store = refl; number = refl; calls = refl })

-- the same, where there are no records
pub recorded_start : (store : StoreId) (count : ℕ) (seats : List SeatState)
    (records : List CallRecord) → records ≡ [] → AreNew store count seats →
    AreRecorded store records seats
recorded_start store count seats records none new =
    subst (λ rs. AreRecorded store rs seats) (sym none) (recorded_new store count seats new)

-- no record is of an unknown seat
pub known_start : (count : ℕ) (records : List CallRecord) → records ≡ [] →
    All (λ r. r.seat < count) records
known_start count records none = subst (All (λ r. r.seat < count)) (sym none) (All-nil _)

-- a seat that made no call
pub recorded_idle : (store : StoreId) (records : List CallRecord) (seats : List SeatState) (k : ℕ)
    (old new : SeatState) → AreRecorded store records seats → IsAt seats k old →
    new.store ≡ old.store → new.number ≡ old.number → new.calls ≡ old.calls →
    AreRecorded store records (set seats k new)
recorded_idle store records seats k old new all at store_is number_is calls_is i seat at' =
    ⊎_elim
    (λ (same : i ≡ k).
    let was = all k old at in
    subst (λ n. IsRecorded store records n seat) (sym same)
    (subst (IsRecorded store records k) (sym (at_same seats k new i seat at' same))
    (record {
      store = store_is ∙ was.store;
      number = number_is ∙ was.number;
      calls = was.calls ∙ sym calls_is;
    })))
    (λ (other : i ≢ k). all i seat (at_other seats k new i seat at' other))
    (cases_eq i k)

-- a seat that made a call
pub recorded_call : (store : StoreId) (records : List CallRecord) (seats : List SeatState) (k : ℕ)
    (old new : SeatState) (r : CallRecord) → AreRecorded store records seats → IsAt seats k old →
    new.store ≡ old.store → new.number ≡ old.number → new.calls ≡ old.calls ++ r ∷ [] →
    r.seat ≡ old.number → AreRecorded store (records ++ r ∷ []) (set seats k new)
recorded_call store records seats k old new r all at store_is number_is calls_is own i seat at' =
    let was = all k old at in
    let number : r.seat ≡ k = own ∙ was.number in
    ⊎_elim
    (λ (same : i ≡ k).
    subst (λ n. IsRecorded store (records ++ r ∷ []) n seat) (sym same)
    (subst (IsRecorded store (records ++ r ∷ []) k) (sym (at_same seats k new i seat at' same))
    (record {
      store = store_is ∙ was.store;
      number = number_is ∙ was.number;
      calls =
          subst (λ n. calls_of (records ++ r ∷ []) n ≡ calls_of records n ++ r ∷ []) number
          (calls_of-own records r)
          ∙ ap (λ calls. calls ++ r ∷ []) was.calls ∙ sym calls_is;
    })))
    (λ (other : i ≢ k).
    let there = all i seat (at_other seats k new i seat at' other) in
    record {
      store = there.store;
      number = there.number;
      calls = calls_of-other records r i (λ e. other (sym e ∙ number)) ∙ there.calls;
    })
    (cases_eq i k)

-- a seat that made a call or none, as its record says
module _ (seats : List SeatState) (records : List CallRecord) (k : ℕ) (old new : SeatState)
    (at : IsAt seats k old) where
  pub recorded_made : (store : StoreId) (made : Option CallRecord) →
      AreRecorded store records seats → new.store ≡ old.store → new.number ≡ old.number →
      new.calls ≡ old.calls ++ option_to_list made → IfSome made (λ r. r.seat ≡ old.number) →
      AreRecorded store (records ++ option_to_list made) (set seats k new)
  recorded_made store None all store_is number_is calls_is own =
      subst (λ rs. AreRecorded store rs (set seats k new)) (sym (append-nil records))
      (recorded_idle store records seats k old new all at store_is number_is
      (calls_is ∙ append-nil old.calls))
  recorded_made store (Some r) all store_is number_is calls_is own =
      recorded_call store records seats k old new r all at store_is number_is calls_is own

  known_more : (made : Option CallRecord) → All (λ r. r.seat < length seats) records →
      IfSome made (λ r. r.seat ≡ k) →
      All (λ r. r.seat < length seats) (records ++ option_to_list made)
  known_more None known own =
      subst (All (λ r. r.seat < length seats)) (sym (append-nil records)) known
  known_more (Some r) known own =
      All-append (λ r. r.seat < length seats) records (r ∷ []) known
      (All-cons (λ r. r.seat < length seats) r [] (let inside = at.0 in omega arith) (All-nil _))

  pub known_made : (made : Option CallRecord) → All (λ r. r.seat < length seats) records →
      IfSome made (λ r. r.seat ≡ k) →
      All (λ r. r.seat < length (set seats k new)) (records ++ option_to_list made)
  known_made made known own =
      subst (λ n. All (λ r. r.seat < n) (records ++ option_to_list made))
      (sym (length-set seats k new)) (known_more made known own)

-- seats that met
pub recorded_met : (store : StoreId) (records : List CallRecord) (seats new : List SeatState)
    (i j t : ℕ) → AreRecorded store records seats → j ≢ i → PairMeets i j t seats new →
    AreRecorded store records new
recorded_met store records seats new i j t all apart met =
    subst (AreRecorded store records) (sym met.seats)
    (recorded_idle store records (set seats i met.one_after) j met.other met.other_after
    (recorded_idle store records seats i met.one met.one_after all met.at
    met.meets.read.same.store met.meets.read.same.number met.meets.read.calls)
    (at_kept seats i met.one_after j met.other apart met.other_at)
    met.other_meets.read.same.store met.other_meets.read.same.number met.other_meets.read.calls)

-- and their count
pub count_met : (seats new : List SeatState) (i j t : ℕ) → PairMeets i j t seats new →
    length new ≡ length seats
count_met seats new i j t met =
    ap length met.seats ∙ length-set (set seats i met.one_after) j met.other_after
    ∙ length-set seats i met.one_after

-- the seats are of the store
pub are_of : (store : StoreId) (records : List CallRecord) (seats : List SeatState) →
    AreRecorded store records seats → AreOf store seats
are_of store records seats all =
    All-from_get_or (λ s. s.store ≡ store) seats (newcomer store 0)
    (λ i inside. (all i _ (inside, get_or_default seats i _ (newcomer store 0) inside)).store)

-- ---- all seats of the store

-- they are among these
pub all_seats : (store : StoreId) (records : List CallRecord) (seats : List SeatState) →
    AreRecorded store records seats → length seats ≡ store.layout.seats → HasAllSeats store seats
all_seats store records seats all count n lt =
    let at = at_get seats n (newcomer store n) (omega arith) in
    (n, get_or seats n (newcomer store n), at, (all n (get_or seats n (newcomer store n)) at).number)

-- records of seats below a number are not those of the number
none_from : (records : List CallRecord) (count n : ℕ) → All (λ r. r.seat < count) records →
    count ≤ n → calls_of records n ≡ []
none_from [] count n known beyond = refl
none_from (r ∷ rs) count n known beyond =
    let below : r.seat < count = known 0 r (omega arith) in
    ap (λ (b : Bool). cond b (r ∷ calls_of rs n) (calls_of rs n))
    (ne_eqb r.seat n (λ e. omega arith))
    ∙ none_from rs count n (λ i d lt. known (suc i) d (omega arith)) beyond

-- and their records are those of the store
pub records_of : (store : StoreId) (records : List CallRecord) (seats : List SeatState) →
    AreRecorded store records seats → All (λ r. r.seat < length seats) records →
    length seats ≡ store.layout.seats → AreRecordsOf store seats records
records_of store records seats all known count = record {
  theirs = λ i s at.
      let is = all i s at in
      subst (λ (n : ℕ). calls_of records n ≡ s.calls) (sym is.number) is.calls;
  others = λ n beyond. none_from records (length seats) n known (omega arith);
}

-- records that have a history have no fault
pub no_fault : (config : Config) (records : List CallRecord) (kind : FaultKind) (index : ℕ) →
    HasHistory config records → ¬ IsFirstFault config records kind index
no_fault config records Unknown index has first = (is_lawful config records has).known index first.here
no_fault config records TwoAtOneTime index has first =
    (is_lawful config records has).alone index first.1.here
no_fault config records TimeRanBack index has first =
    (is_lawful config records has).rises index first.2.here
no_fault config records WrongReply index has first =
    (is_lawful config records has).right index first.3.here
