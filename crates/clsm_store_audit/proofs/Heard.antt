-- What a message tells of a put, as far as the history goes on, and what a get then finds.
use Rattle.std.proofs.Common.{◌≡◌, ◌≢◌, ℕ, zero, suc, ◌<◌, ◌==◌, ◌⊎◌, inl, inr, Bool, true, false, cond, List, [], ◌∷◌, length, get_or, Option, Some}
use Rattle.std.proofs.Common.{None}
use Rattle.std.proofs.Common.{refl, sym, ap, ◌∙◌, subst, arith, add-one, ⊎_elim, lt_of_not-le}
use Rattle.std.specs.List.{AllByRecursion}
use Rattle.std.proofs.lemmas.Bool.{cases_Bool, eq-eqb, eqb-true}
use Rattle.std.proofs.lemmas.List.{get_or_append_left, get_or_past}
use mathlib.Core.Logic.{dite}
use mathlib.Core.List.{IsPrefix}
use native.Mathlib.Decide.{ℕ_discrete, dec_le}
use Rattle.clsm_model.specs.declared.slot.Slot.{Slot}
use Rattle.clsm_model.specs.declared.slot.Slot.TheVariants.{Nothing, Wrote}
use Rattle.clsm_model.specs.declared.record.Deed.TheVariants.{Get, Put}
use Rattle.clsm_model.specs.declared.record.CallRecord.{CallRecord}
use Rattle.clsm_model.specs.History.{History, IsBeginning, end_of, plain, slot_at, value}
use Rattle.clsm_model.specs.Map.{value_after}
use Rattle.clsm_model.specs.Seats.{IsRecordIn, IsRightRecord}
use Rattle.clsm_model.proofs.Maps.{value-next}
use Rattle.clsm_law.specs.Relation.{call_of}
use Rattle.clsm_store_calls.specs.Seats.{IsLawfulAlone, SeatState, StoreId, known_by}
use Rattle.clsm_store.specs.Meetings.{IsUnrecorded}
use Rattle.clsm_store_audit.specs.Told.{FindsPut, HasMade, HasPut, IsRewritten, is_put_of}
use Rattle.clsm_store_audit.proofs.Raced.{put_stands}

-- ---- as the history goes on

-- a beginning and what it begins have the same slots as far as the first reaches
pub same_slot : (a b : List Slot) → IsPrefix a b → (t : ℕ) → t < length a → get_or b t Nothing ≡ get_or a t Nothing
same_slot a b begins t lt = ap (λ (l : List Slot). get_or l t Nothing) (sym begins.1) ∙ get_or_append_left a begins.0 Nothing t lt

-- a write stands below the end
pub within : (h : History) (t seat key : ℕ) (written : Option (List ℕ)) → slot_at h t ≡ Wrote seat key written → t < end_of h
within h t seat key written is = elim (dec_le (end_of h) t) [
  | yes past ↦ absurd (let e : Nothing ≡ Wrote seat key written = sym (get_or_past h.slots t Nothing past) ∙ is in cc)
  | no inside ↦ lt_of_not-le inside
]

pub stands_on : (g h : History) (t seat key : ℕ) (written : Option (List ℕ)) → IsBeginning g h → slot_at g t ≡ Wrote seat key written
    → slot_at h t ≡ Wrote seat key written
stands_on g h t seat key written begins is = same_slot g.slots h.slots begins.slots t (within g t seat key written is) ∙ is

-- ---- what a get finds

-- a read with no record leaves what the seat has made
pub still_made : (store : StoreId) (n : ℕ) (calls : List CallRecord) (old new : SeatState) → HasMade store n calls old → IsUnrecorded old new
    → HasMade store n calls new
still_made store n calls old new has read = record {
  of = read.same.store ∙ has.of;
  numbered = read.same.number ∙ has.numbered;
  called = read.calls ∙ has.called;
}

-- a put that is all that a seat did stands in what it knows, if that reaches so far
pub known_put : (s : SeatState) (n time key : ℕ) (v : List ℕ) → IsLawfulAlone s → s.number ≡ n → s.calls ≡ call_of n time (Put key v) ∷ []
    → time < end_of (known_by s) → HasPut (known_by s) key time
known_put s n time key v lawful number calls inside =
    ap (is_put_of key) (put_stands (known_by s) n time key v
    (subst (λ (z : ℕ × List CallRecord). AllByRecursion (IsRecordIn s.past z.0) z.1) (λ i. (number i, calls i)) lawful.0.agrees.stand) inside)
    ∙ eq-eqb key key refl

-- the write that a put of the key is
pub record IsPut (key : ℕ) (slot : Slot) : Type 0 where
  pub seat : ℕ
  pub value : List ℕ
  pub is : slot ≡ Wrote seat key (Some value)

pub put_of : (key : ℕ) (slot : Slot) → is_put_of key slot ≡ true → IsPut key slot
put_of key Nothing e = absurd (let f : false ≡ true = e in cc)
put_of key (Wrote seat k None) e = absurd (let f : false ≡ true = e in cc)
put_of key (Wrote seat k (Some value)) e = record { seat = seat; value = value; is = ap (λ (j : ℕ). Wrote seat j (Some value)) (eqb-true k key e) }

module _ (h : History) (key time seat : ℕ) (v : List ℕ) (stands : slot_at h time ≡ Wrote seat key (Some v)) where
  -- the value is that of the put, or the key was written again
  abbrev Stays : ℕ → Type 0
  Stays s = (value h key s ≡ Some v) ⊎ IsRewritten h key time s

  next : (s : ℕ) (slot : Slot) → slot_at h s ≡ slot → value h key (suc s) ≡ value_after slot key (value h key s)
  next s slot is = rw add-one at (value-next h key s) ∙ ap (λ (x : Slot). value_after x key (value h key s)) is

  first : value h key (suc time) ≡ Some v
  first = next time (Wrote seat key (Some v)) stands ∙ ap (λ (b : Bool). cond b (Some v) (value h key time)) (eq-eqb key key refl)

  later : (s : ℕ) → IsRewritten h key time s → IsRewritten h key time (suc s)
  later s again = record {
    again = again.again;
    above = again.above;
    below = let a = again.below in omega arith;
    seat = again.seat;
    written = again.written;
    stands = again.stands;
  }

  one_more : (s : ℕ) → time < s → (slot : Slot) → slot_at h s ≡ slot → Stays s → Stays (suc s)
  one_more s lt slot is (inr again) = inr (later s again)
  one_more s lt Nothing is (inl e) = inl (next s Nothing is ∙ e)
  one_more s lt (Wrote i k written) is (inl e) = ⊎_elim
      (λ (same : (k == key) ≡ true). inr (record {
        again = s;
        above = lt;
        below = omega arith;
        seat = i;
        written = written;
        stands = is ∙ ap (λ (j : ℕ). Wrote i j written) (eqb-true k key same);
      }))
      (λ (other : (k == key) ≡ false). inl (next s (Wrote i k written) is ∙ ap (λ (b : Bool). cond b written (value h key s)) other ∙ e))
      (cases_Bool (k == key))

  pub stays : (s : ℕ) → time < s → Stays s
  stays zero lt = absurd (omega arith)
  stays (suc s) lt = dite (ℕ_discrete s time)
      (λ (e : s ≡ time). inl (ap (λ (i : ℕ). value h key (suc i)) e ∙ first))
      (λ (ne : s ≢ time). let before : time < s = omega arith in one_more s before (slot_at h s) refl (stays s before))

-- the get finds the put of which it was told
pub finds : (s : SeatState) (n at key time : ℕ) (reply : Option (List ℕ)) (told : History) → IsLawfulAlone s → s.calls ≡ call_of n at (Get key reply) ∷ []
    → IsBeginning told (known_by s) → HasPut told key time → time < at → FindsPut (known_by s) key time at reply
finds s n at key time reply told lawful calls begins has below =
    let right = subst (λ (l : List CallRecord). AllByRecursion (IsRightRecord (plain s.past)) l) calls lawful.0.right in
    let put = put_of key (slot_at told time) has in
    let stands = stands_on told (known_by s) time put.seat key (Some put.value) begins put.is in
    record {
      below = below;
      seat = put.seat;
      value = put.value;
      stands = stands;
      found = ⊎_elim
          (λ (e : value (plain s.past) key at ≡ Some put.value). inl (right.0.reads ∙ e))
          (λ (again : IsRewritten (plain s.past) key time at). inr (record {
            again = again.again;
            above = again.above;
            below = again.below;
            seat = again.seat;
            written = again.written;
            stands = again.stands;
          }))
          (stays (plain s.past) key time put.seat put.value stands at below);
    }

-- ---- where the put is the only write of the history

written_is : {i j k l : ℕ} {x y : Option (List ℕ)} → Wrote i k x ≡ Wrote j l y → x ≡ y
written_is e = cc e

module _ (g h : History) (begins : IsBeginning g h) (n put key : ℕ) (v : List ℕ) (put_is : get_or h.slots put Nothing ≡ Wrote n key (Some v))
    (alone : (t m k : ℕ) (written : Option (List ℕ)) → t < end_of h → get_or h.slots t Nothing ≡ Wrote m k written → t ≡ put) where
  only : (t m k : ℕ) (written : Option (List ℕ)) → slot_at g t ≡ Wrote m k written → t ≡ put
  only t m k written is = let there = stands_on g h t m k written begins is in alone t m k written (within h t m k written there) there

  -- what was put there is what is found
  pub found_is : (key' time at : ℕ) (reply : Option (List ℕ)) → FindsPut g key' time at reply → reply ≡ Some v
  found_is key' time at reply f =
      let here : time ≡ put = only time f.seat key' (Some f.value) f.stands in
      let told = stands_on g h time f.seat key' (Some f.value) begins f.stands in
      let same : Some f.value ≡ Some v = written_is (sym told ∙ ap (λ (t : ℕ). get_or h.slots t Nothing) here ∙ put_is) in
      ⊎_elim
      (λ (e : reply ≡ Some f.value). e ∙ same)
      (λ (a : IsRewritten g key' time at).
      let again : a.again ≡ put = only a.again a.seat key' a.written a.stands in
      absurd (let lt = a.above in omega arith))
      f.found
