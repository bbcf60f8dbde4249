-- Two transactions are all calls of their seats: what the settled history says of them.
use Rattle.std.proofs.Common.{◌≡◌, ℕ, zero, suc, ◌+◌, ◌-◌, ◌<◌, ◌≤◌, ◌==◌, ◌⊎◌, inl, inr, Bool, true, false, cond, List, [], ◌∷◌, ◌++◌}
use Rattle.std.proofs.Common.{Option, Some, None, is_some, refl, sym, ap, ◌∙◌, append_assoc, arith, add-one, ⊎_elim, nat_le}
use Rattle.std.proofs.lemmas.Bool.{cases_lt, le-leb, leb-true}
use Rattle.std.proofs.lemmas.Slice.Zip.{AllZip-map}
use Rattle.clsm_model.specs.declared.slot.Slot.{Slot}
use Rattle.clsm_model.specs.declared.slot.Slot.TheVariants.{Nothing, Wrote}
use Rattle.clsm_model.specs.declared.slot.Change.TheVariants.{Set}
use Rattle.clsm_model.specs.declared.record.Deed.TheVariants.{Batch as Group, Get}
use Rattle.clsm_model.specs.declared.record.CallRecord.{CallRecord}
use Rattle.clsm_model.specs.History.{History, IsBeginning, end_of, slot_at, value}
use Rattle.clsm_model.specs.Map.{value_after}
use Rattle.clsm_model.specs.Right.{member_write}
use Rattle.clsm_model.specs.Seats.{AreCallsIn, StandsAs}
use Rattle.clsm_model.proofs.Batches.{begins_trans, prefix_length}
use Rattle.clsm_model.proofs.Histories.{value-same}
use Rattle.clsm_model.proofs.Maps.{value-next}
use Rattle.clsm_law.specs.Relation.{call_of}
use Rattle.clsm_store_calls.specs.Many.{HoldValues}
use Rattle.clsm_store_calls.specs.Seats.{Answers, SeatState, StoreId, known_by, newcomer}
use Rattle.clsm_store.specs.Headline.{HasAllSeats, IsWholeHistory, longest_past}
use Rattle.clsm_store.specs.Meetings.{AreMet}
use Rattle.clsm_store_audit.specs.declared.pair.Write.{Write}
use Rattle.clsm_store_audit.specs.declared.skew.Read.{Read}
use Rattle.clsm_store_audit.specs.declared.skew.Stood.{Stood}
use Rattle.clsm_store_audit.specs.Skew.{HasStood, IsSameRead, ReadsBoth, Stands, transaction_of}
use Rattle.clsm_store_audit.specs.Told.{HasMade, IsRewritten}
use Rattle.clsm_store_audit.proofs.Both.{IsOfBoth, settled_both}
use Rattle.clsm_store_audit.proofs.Heard.{same_slot, stays, within}

-- ---- as what is known goes on

-- as far as a beginning reaches, its keys have the same values
value_on : (g h : History) (key s : ℕ) → IsBeginning g h → s ≤ end_of g → value h key s ≡ value g key s
value_on g h key s begins le = value-same g h key s (λ t lt. same_slot g.slots h.slots begins.slots t (omega arith))

-- what a seat read stands as it goes on
stand_on : (old new : SeatState) (t own beside : ℕ) (read : Read) → IsBeginning (known_by old) (known_by new) → Stands old t own beside read
    → Stands new t own beside read
stand_on old new t own beside read begins s = record {
  reached = let a = s.reached in let b = prefix_length old.past new.past begins.slots in omega arith;
  of_own = value_on (known_by old) (known_by new) own t begins s.reached ∙ s.of_own;
  of_beside = value_on (known_by old) (known_by new) beside t begins s.reached ∙ s.of_beside;
}

-- the places of two keys have their values
pub both_values : (h : History) (t own beside : ℕ) (places : List (Option (List ℕ)))
    → HoldValues (λ (place value' : Option (List ℕ)). place ≡ value') h t (own ∷ beside ∷ []) places
    → places ≡ value h own t ∷ value h beside t ∷ []
both_values h t own beside places hold = AllZip-map (λ (key : ℕ). value h key t) (own ∷ beside ∷ []) places hold

-- the read, and then the batch at whose time what was read still stands
pub transacted : (old middle : SeatState) (own : Write) (beside : ℕ) (stood : Stood) → ReadsBoth old middle own.key beside stood.read
    → Answers middle stood.seat stood.time (Group ((own.key, Set own.value) ∷ [])) → Stands stood.seat stood.time own.key beside stood.read
    → HasStood old own beside stood
transacted old middle own beside stood reads wrote stands = record {
  same = record {
    store = wrote.same.store ∙ reads.answers.same.store;
    number = wrote.same.number ∙ reads.answers.same.number;
    longer = begins_trans (known_by old) (known_by middle) (known_by stood.seat) reads.answers.same.longer wrote.same.longer;
  };
  at = reads.at;
  calls = wrote.calls ∙ (λ k. reads.answers.calls k ++ call_of (reads.answers.same.number k) stood.time (Group ((own.key, Set own.value) ∷ [])) ∷ [])
      ∙ append_assoc old.calls (call_of old.number reads.at (Get own.key stood.read.own) ∷ [])
      (call_of old.number stood.time (Group ((own.key, Set own.value) ∷ [])) ∷ []);
  read = stand_on middle stood.seat reads.at own.key beside stood.read wrote.same.longer reads.stands;
  stands = stands;
}

-- ---- the writes of a seat whose only calls are a transaction

module _ (h : History) (n : ℕ) (own : Write) (at : ℕ) (read : Read) (time due : ℕ) (snapshot : Option ℕ)
    (is : AreCallsIn h n (transaction_of n own at read time) due snapshot) where
  -- they stand at the time of its batch
  in_batch : (b c : Bool) (m : ℕ) (x y r : CallRecord)
      → cond (is_some (cond {A = Option Slot} b None None))
      (x ∷ cond (is_some (cond c (member_write n ((own.key, Set own.value) ∷ []) m) None)) (y ∷ []) [])
      (cond (is_some (cond c (member_write n ((own.key, Set own.value) ∷ []) m) None)) (y ∷ []) []) ≡ r ∷ []
      → (c ≡ true) × (m ≡ 0)
  in_batch true true zero x y r e = (refl, refl)
  in_batch false true zero x y r e = (refl, refl)
  in_batch true true (suc m) x y r e = absurd (let f : [] ≡ r ∷ [] = e in cc)
  in_batch false true (suc m) x y r e = absurd (let f : [] ≡ r ∷ [] = e in cc)
  in_batch true false m x y r e = absurd (let f : [] ≡ r ∷ [] = e in cc)
  in_batch false false m x y r e = absurd (let f : [] ≡ r ∷ [] = e in cc)

  pub at_batch : (t k : ℕ) (written : Option (List ℕ)) → t < end_of h → slot_at h t ≡ Wrote n k written → t ≡ time
  at_batch t k written lt e =
      let r = is.each t k written lt e in
      let found = in_batch (at == t) (nat_le time t) (t - time) _ _ r.0 r.1 in
      let above : time ≤ t = leb-true time t found.0 in
      let here : t - time ≡ 0 = found.1 in
      omega arith

  -- and its one member does
  member_is : (b : Bool) (m : ℕ) (slot : Slot) → b ≡ true → m ≡ 0
      → StandsAs (cond b (member_write n ((own.key, Set own.value) ∷ []) m) None) (Some slot) → slot ≡ Wrote n own.key (Some own.value)
  member_is true zero slot e f stands = cc stands
  member_is true (suc m) slot e f stands = absurd (omega arith)
  member_is false m slot e f stands = absurd (cc e)

  pub batch_stands : slot_at h time ≡ Wrote n own.key (Some own.value)
  batch_stands =
      let inside : time < end_of h = (let a = is.reached in let b : time + 1 ≤ due = is.rising.due_is in omega arith) in
      member_is (nat_le time time) (time - time) (slot_at h time) (le-leb time time (omega arith)) (omega arith) (is.stand.1.0.1 time inside)

-- ---- where two writes are all

-- where nothing is written below the time, no key has a value there
none_below : (h : History) (key s : ℕ) → ((t n k : ℕ) (written : Option (List ℕ)) → t < s → slot_at h t ≡ Wrote n k written → ⊥)
    → value h key s ≡ None
none_below h key zero nothing = refl
none_below h key (suc s) nothing =
    (rw add-one at (value-next h key s)) ∙ left (slot_at h s) refl
    ∙ none_below h key s (λ t n k written lt is. nothing t n k written (omega arith) is)
  where
    left : (slot : Slot) → slot_at h s ≡ slot → value_after (slot_at h s) key (value h key s) ≡ value h key s
    left Nothing is = ap (λ (x : Slot). value_after x key (value h key s)) is
    left (Wrote n k written) is = absurd (nothing s n k written (omega arith) is)

-- the first of them changes its key, from none to the value
changed : (h : History) (first last n key : ℕ) (v : List ℕ) → slot_at h first ≡ Wrote n key (Some v)
    → ((t m k : ℕ) (written : Option (List ℕ)) → slot_at h t ≡ Wrote m k written → (t ≡ first) ⊎ (t ≡ last))
    → first < last → value h key first ≡ value h key last → ⊥
changed h first last n key v stands all lt same =
    let before : value h key first ≡ None = none_below h key first (λ t m k written below is.
    ⊎_elim (λ (e : t ≡ first). absurd (omega arith)) (λ (e : t ≡ last). absurd (omega arith)) (all t m k written is)) in
    let after : value h key last ≡ Some v = ⊎_elim
    (λ (e : value h key last ≡ Some v). e)
    (λ (again : IsRewritten h key first last).
    let above = again.above in let below = again.below in
    ⊎_elim (λ (e : again.again ≡ first). absurd (omega arith)) (λ (e : again.again ≡ last). absurd (omega arith))
    (all again.again again.seat key again.written again.stands))
    (stays h key first n v stands last lt) in
    let none_is : None ≡ Some v = sym before ∙ same ∙ after in
    cc none_is

-- ---- the two transactions

-- what a newcomer's transaction made is all that its seat has made
pub stood_made : (store : StoreId) (n : ℕ) (own : Write) (beside : ℕ) (stood : Stood) (has : HasStood (newcomer store n) own beside stood)
    → HasMade store n (transaction_of n own has.at stood.read stood.time) stood.seat
stood_made store n own beside stood has = record {
  of = has.same.store;
  numbered = has.same.number;
  called = has.calls;
}

module _ (store : StoreId) (two : store.layout.seats ≡ 2) (mine theirs : Write) (one other : Stood)
    (has : HasStood (newcomer store 0) mine theirs.key one) (has' : HasStood (newcomer store 1) theirs mine.key other)
    (settled : List SeatState) (met : AreMet (one.seat ∷ other.seat ∷ []) settled)
    (whole : HasAllSeats store (one.seat ∷ other.seat ∷ []) → IsWholeHistory settled (longest_past settled)) where
  abbrev h : History
  h = longest_past settled

  both : IsOfBoth h one.seat other.seat (transaction_of 0 mine has.at one.read one.time) (transaction_of 1 theirs has'.at other.read other.time)
  both = settled_both store two one.seat other.seat (transaction_of 0 mine has.at one.read one.time)
      (transaction_of 1 theirs has'.at other.read other.time) (stood_made store 0 mine theirs.key one has)
      (stood_made store 1 theirs mine.key other has') settled met whole

  first_is : slot_at h one.time ≡ Wrote 0 mine.key (Some mine.value)
  first_is = batch_stands h 0 mine has.at one.read one.time both.first.due both.first.snapshot both.first.calls_in

  second_is : slot_at h other.time ≡ Wrote 1 theirs.key (Some theirs.value)
  second_is = batch_stands h 1 theirs has'.at other.read other.time both.second.due both.second.snapshot both.second.calls_in

  all : (t n k : ℕ) (written : Option (List ℕ)) → slot_at h t ≡ Wrote n k written → (t ≡ one.time) ⊎ (t ≡ other.time)
  all t n k written is = let lt = within h t n k written is in ⊎_elim
      (λ (e : n ≡ 0). inl (at_batch h 0 mine has.at one.read one.time both.first.due both.first.snapshot both.first.calls_in t k written lt
      (is ∙ ap (λ (i : ℕ). Wrote i k written) e)))
      (λ (e : n ≡ 1). inr (at_batch h 1 theirs has'.at other.read other.time both.second.due both.second.snapshot both.second.calls_in t k written lt
      (is ∙ ap (λ (i : ℕ). Wrote i k written) e)))
      (both.theirs t n k written lt is)

  turned : (t n k : ℕ) (written : Option (List ℕ)) → slot_at h t ≡ Wrote n k written → (t ≡ other.time) ⊎ (t ≡ one.time)
  turned t n k written is = ⊎_elim (λ (e : t ≡ one.time). inr e) (λ (e : t ≡ other.time). inl e) (all t n k written is)

  -- what the seats knew to stand does so in the history
  known : (stood : Stood) (own beside : ℕ) → IsBeginning (known_by stood.seat) h → Stands stood.seat stood.time own beside stood.read
      → (value h own stood.time ≡ stood.read.own) × (value h beside stood.time ≡ stood.read.beside)
  known stood own beside begins s = (
    value_on (known_by stood.seat) h own stood.time begins s.reached ∙ s.of_own,
    value_on (known_by stood.seat) h beside stood.time begins s.reached ∙ s.of_beside,
  )

  -- not both are answered where both read the same
  pub read_apart : IsSameRead one.read other.read → ⊥
  read_apart same =
      let a = known one mine.key theirs.key both.first.begins has.stands in
      let b = known other theirs.key mine.key both.second.begins has'.stands in
      ⊎_elim
      (λ (lt : one.time < other.time).
      changed h one.time other.time 0 mine.key mine.value first_is all lt (a.0 ∙ same.0 ∙ sym b.1))
      (λ (le : other.time ≤ one.time). ⊎_elim
      (λ (lt : other.time < one.time).
      changed h other.time one.time 1 theirs.key theirs.value second_is turned lt (b.0 ∙ sym same.1 ∙ sym a.1))
      (λ (ge : one.time ≤ other.time).
      let e : one.time ≡ other.time = omega arith in
      let twice : Wrote 0 mine.key (Some mine.value) ≡ Wrote 1 theirs.key (Some theirs.value) =
      sym first_is ∙ ap (λ (t : ℕ). slot_at h t) e ∙ second_is in
      cc twice)
      (cases_lt other.time one.time))
      (cases_lt one.time other.time)
