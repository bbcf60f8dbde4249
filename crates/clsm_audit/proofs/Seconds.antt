-- The times that are written before an index, with one record more.
use Rattle.std.proofs.Common.{◌≡◌, ◌≢◌, ◌↔◌, ℕ, ◌+◌, ◌<◌, ◌≤◌, ◌==◌, Bool, true, false, cond, not, IsTrue, List, length, get_or, Option, refl, sym, ap, ◌∙◌}
use Rattle.std.proofs.Common.{subst, arith, ◌⊎◌, inl, inr, ⊎_elim}
use Rattle.std.proofs.lemmas.Bool.{cases_eq, cases_lt, eq-eqb, ne_eqb, true≢false}
use Rattle.std.proofs.lemmas.Option.{slice_get_past}
use Rattle.std.specs.List.{slice_get}
use Rattle.std.specs.Option.{IsSomeAnd}
use Rattle.std.specs.Ordering.{is_eq, nat_cmp}
use Rattle.clsm_model.specs.declared.record.CallRecord.{CallRecord}
use Rattle.clsm_model.proofs.Maps.{is_eq-nat_cmp}
use Rattle.clsm_audit.specs.Faults.{HasNone, IsSecondAt}
use Rattle.clsm_audit.specs.Lawful.{HasWrites}
use Rattle.clsm_audit.specs.Written.{IsWrittenBefore, WritesAt, is_write, time_past}
use Rattle.clsm_audit.proofs.Indices.{get_here}
use Rattle.clsm_audit.proofs.Times.{writes_each, writes_within}

-- ---- a record at an index, and what holds of it

pub at_index : (P : CallRecord → Type 0) (records : List CallRecord) (i : ℕ) (r : CallRecord) → i < length records → r ≡ get_or records i r
    → P r ↔ IsSomeAnd (slice_get records i) P
at_index P records i r within is = (λ p. rw (get_here records i r within is) p, λ p. rw (get_here records i r within is) at p)

-- an index at which something holds is below the end
pub some_within : (P : CallRecord → Type 0) (records : List CallRecord) (i : ℕ) → IsSomeAnd (slice_get records i) P → i < length records
some_within P records i p =
    ⊎_elim
    (λ (lt : i < length records). lt)
    (λ (past : length records ≤ i). absurd (subst (λ (o : Option CallRecord). IsSomeAnd o P) (slice_get_past records i past) p))
    (cases_lt i (length records))

-- ---- one record more

written_later : (records : List CallRecord) (i : ℕ) (t : ℕ) → IsWrittenBefore records i t → IsWrittenBefore records (i + 1) t
written_later records i t h = (h.0, omega (arith, h.1), h.2)

-- the last of the records wrote at the time, or an earlier one
written_cases : {Q : Type 0} (records : List CallRecord) (i : ℕ) (r : CallRecord) (t : ℕ) → i < length records → r ≡ get_or records i r
    → (IsWrittenBefore records i t → Q) → (WritesAt t r → Q) → IsWrittenBefore records (i + 1) t → Q
written_cases records i r t within is earlier last h =
    ⊎_elim
    (λ (lt : h.0 < i). earlier (h.0, lt, h.2))
    (λ (le : i ≤ h.0). last ((at_index (WritesAt t) records i r within is).1
    (subst (λ (n : ℕ). IsSomeAnd (slice_get records n) (WritesAt t)) (omega (arith, h.1)) h.2)))
    (cases_lt h.0 i)

-- the times with those of one record more
pub written_also : (records : List CallRecord) (i : ℕ) (r : CallRecord) (before after : ℕ → Bool) → i < length records → r ≡ get_or records i r
    → ((t : ℕ) → IsTrue (after t) ↔ (IsTrue (before t) ⊎ WritesAt t r))
    → ((t : ℕ) → IsTrue (before t) ↔ IsWrittenBefore records i t) → (t : ℕ) → IsTrue (after t) ↔ IsWrittenBefore records (i + 1) t
written_also records i r before after within is adds all t = (
  λ h. ⊎_elim (λ (earlier : IsTrue (before t)). written_later records i t ((all t).0 earlier))
      (λ (last : WritesAt t r). (i, (let lt : i < i + 1 = omega arith in lt), (at_index (WritesAt t) records i r within is).0 last)) ((adds t).0 h),
  λ h. written_cases records i r t within is (λ earlier. (adds t).1 (inl ((all t).1 earlier))) (λ last. (adds t).1 (inr last)) h,
)

-- ---- the record at the index is a second write at a time, or not

pub second_here : (records : List CallRecord) (i t : ℕ) (r : CallRecord) → i < length records → r ≡ get_or records i r → WritesAt t r
    → IsWrittenBefore records i t → IsSecondAt records i
second_here records i t r within is writes earlier = (at_index (λ q. (u : ℕ) × WritesAt u q × IsWrittenBefore records i u) records i r within is).0
    (t, writes, earlier)

pub here_second : (records : List CallRecord) (i : ℕ) (r : CallRecord) → i < length records → r ≡ get_or records i r → IsSecondAt records i → (t : ℕ)
    × WritesAt t r × IsWrittenBefore records i t
here_second records i r within is second = (at_index (λ q. (t : ℕ) × WritesAt t q × IsWrittenBefore records i t) records i r within is).1 second

-- of two records that write at one time, the one with the higher index is a second one
pub two_writes : (records : List CallRecord) → HasNone (IsSecondAt records) → (i j t : ℕ) (q r : CallRecord) → i < j → i < length records
    → j < length records → q ≡ get_or records i q → r ≡ get_or records j r → WritesAt t q → WritesAt t r → ⊥
two_writes records alone i j t q r lt within within' is is' writes writes' =
    alone j (second_here records j t r within' is' writes' (i, lt, (at_index (WritesAt t) records i q within is).0 writes))

-- ---- the times of one record, taken in one after another

-- the times from one up to another are taken in, and none of them was there before
pub record AreTaken (old new : ℕ → Bool) (from until : ℕ) : Type 0 where
  pub taken : (t : ℕ) → IsTrue (new t) ↔ (IsTrue (old t) ⊎ ((from ≤ t) × (t < until)))
  pub free : (t : ℕ) → from ≤ t → t < until → ¬ IsTrue (old t)

pub taken_first : (times : ℕ → Bool) (from : ℕ) → AreTaken times times from from
taken_first times from = record {
  taken = λ t. (λ h. inl h, λ h. ⊎_elim (λ (old : IsTrue (times t)). old) (λ (own : (from ≤ t) × (t < from)). absurd (omega (arith, own.0, own.1))) h);
  free = λ t low high. absurd (omega arith);
}

-- one more, which was not there
pub taken_more : (old now new : ℕ → Bool) (from time : ℕ) → from ≤ time → now time ≡ false → ((t : ℕ) → new t ≡ cond (is_eq (nat_cmp time t)) true (now t))
    → AreTaken old now from time → AreTaken old new from (time + 1)
taken_more old now new from time le absent updates before = record {
  taken = λ t. (
    λ h. ⊎_elim
        (λ (same : time ≡ t). inr (omega arith, omega arith))
        (λ (ne : time ≢ t). ⊎_elim (λ (was : IsTrue (old t)). inl was) (λ (own : (from ≤ t) × (t < time)). inr (own.0, omega (arith, own.1)))
        ((before.taken t).0 (sym (other t ne) ∙ h)))
        (cases_eq time t),
    λ h. ⊎_elim
        (λ (same : time ≡ t). here t same)
        (λ (ne : time ≢ t). other t ne
        ∙ (before.taken t).1 (⊎_elim (λ (was : IsTrue (old t)). inl was) (λ (own : (from ≤ t) × (t < time + 1)). inr (own.0, omega (arith, own.1))) h))
        (cases_eq time t),
  );
  free = λ t low high. ⊎_elim
      (λ (same : time ≡ t). λ was. true≢false (sym ((before.taken t).1 (inl was)) ∙ ap now (sym same) ∙ absent))
      (λ (ne : time ≢ t). before.free t low (omega arith))
      (cases_eq time t);
}
  where
    test : (t : ℕ) → is_eq (nat_cmp time t) ≡ (time == t)
    test t = is_eq-nat_cmp time t

    here : (t : ℕ) → time ≡ t → new t ≡ true
    here t same = updates t ∙ ap (λ (b : Bool). cond b true (now t)) (test t ∙ eq-eqb time t same)

    other : (t : ℕ) → time ≢ t → new t ≡ now t
    other t ne = updates t ∙ ap (λ (b : Bool). cond b true (now t)) (test t ∙ ne_eqb time t ne)

-- ---- whether a record is a second one

-- a time that is not new was there
pub was_there : (there new : Bool) → new ≡ not there → new ≡ false → there ≡ true
was_there true new is old = refl
was_there false new is old = absurd (true≢false (sym is ∙ old))

pub was_absent : (there new : Bool) → new ≡ not there → new ≡ true → there ≡ false
was_absent false new is fresh = refl
was_absent true new is fresh = absurd (true≢false (sym fresh ∙ is))

module _ (old now : ℕ → Bool) (r : CallRecord) (has : HasWrites r.deed) (is : is_write r.deed ≡ true) where
  -- a time of the record that is there already was there before
  pub second_found : (time : ℕ) → r.time ≤ time → time < time_past r → AreTaken old now r.time time → now time ≡ true → (t : ℕ) × WritesAt t r × IsTrue (old t)
  second_found time low high taken there = (
    time,
    writes_each r time has is low high,
    ⊎_elim (λ (was : IsTrue (old time)). was) (λ (own : (r.time ≤ time) × (time < time)). absurd (omega (arith, own.1))) ((taken.taken time).0 there),
  )

  -- where all of its times are taken in, none was there
  pub none_second : (until : ℕ) → time_past r ≤ until → AreTaken old now r.time until → ((t : ℕ) × WritesAt t r × IsTrue (old t)) → ⊥
  none_second until all taken (t, writes, was) = let own = writes_within r t writes in taken.free t own.1 (omega (arith, own.2)) was

  pub all_taken : (until : ℕ) → until ≡ time_past r → AreTaken old now r.time until → (t : ℕ) → IsTrue (now t) ↔ (IsTrue (old t) ⊎ WritesAt t r)
  all_taken until all taken t = (
    λ h. ⊎_elim (λ (was : IsTrue (old t)). inl was) (λ (own : (r.time ≤ t) × (t < until)). inr (writes_each r t has is own.0 (omega (arith, own.1))))
        ((taken.taken t).0 h),
    λ h. (taken.taken t).1 (⊎_elim (λ (was : IsTrue (old t)). inl was)
        (λ (writes : WritesAt t r). let own = writes_within r t writes in inr (own.1, omega (arith, own.2))) h),
  )
