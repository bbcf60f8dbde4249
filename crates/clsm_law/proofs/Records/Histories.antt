-- What is right in a past stays right in each past that goes on from it.
use Rattle.std.proofs.Common.{◌≡◌, ◌≢◌, ℕ, zero, suc, ◌<◌, ◌≤◌, min, List, [], ◌∷◌, length, take, sym, refl, ap, ◌∙◌, subst, arith, add-one, Option, Some, None}
use Rattle.std.specs.List.{AllByRecursion}
use Rattle.std.specs.Option.{unwrap_or}
use Rattle.std.proofs.Math.ListN.{get_or-map}
use Rattle.std.proofs.lemmas.List.{get_or-take, length-map, length-take, take_more_same}
use Rattle.clsm_model.specs.declared.slot.Slot.{Slot}
use Rattle.clsm_model.specs.declared.slot.Slot.TheVariants.{Nothing}
use Rattle.clsm_model.specs.declared.record.Deed.{Deed}
use Rattle.clsm_model.specs.declared.record.Deed.TheVariants.{Put, Remove, Batch as Group}
use Rattle.clsm_model.specs.declared.record.CallRecord.{CallRecord}
use Rattle.clsm_model.specs.History.{History, plain, IsInside, end_of, slot_at as slot_of}
use Rattle.clsm_model.specs.Right.{IsRight}
use Rattle.clsm_model.proofs.Histories.{AreSameBelow, Reads-same}
use Rattle.clsm_law.specs.Views.{IsShort, length_of}
use Rattle.clsm_model.specs.Seats.{IsRightDeed, IsRightRecord}
use Rattle.clsm_law.specs.Worlds.{outcome_at, settled, past_of, history_of}

-- ---- a write of a history

-- a write has at most eight words
pub at_most_eight : (written : Option (List ℕ)) → IsShort written → length_of written ≤ 8
at_most_eight None is = omega arith
at_most_eight (Some words) is = is.1

-- ---- a history that goes on

-- h' goes on from h: it has no batch, is as long or longer, and has the same slots below the end of
-- h
pub record GoesOn (h h' : History) : Type 0 where
  pub plain : h'.batches ≡ []
  pub longer : end_of h ≤ end_of h'
  pub same : AreSameBelow h h' (end_of h)

-- what is right in a history is right in each that goes on from it
pub IsRight-goes_on : (h h' : History) (s : ℕ) (deed : Deed) → GoesOn h h' → IsRight h s deed → IsRight h' s deed
IsRight-goes_on h h' s deed on r = let reached = r.readable.reached in record {
  readable = record {
    reached = let longer = on.longer in omega arith;
    uncut = subst (AllByRecursion (λ b. ¬ IsInside s b)) (sym on.plain) tt;
  };
  reads = Reads-same h h' s deed (λ t lt. on.same t (omega arith)) r.reads;
}

pub IsRightDeed-goes_on : (h h' : History) (s : ℕ) (deed : Deed) → GoesOn h h' → IsRightDeed h s deed → IsRightDeed h' s deed
IsRightDeed-goes_on h h' s (Put key written) on r = tt
IsRightDeed-goes_on h h' s (Remove key) on r = tt
IsRightDeed-goes_on h h' s (Group members) on r = tt
IsRightDeed-goes_on h h' s deed on r = IsRight-goes_on h h' s deed on r

-- what is right of a deed that read is right of any deed
pub IsRightDeed-right : (h : History) (s : ℕ) (deed : Deed) → IsRight h s deed → IsRightDeed h s deed
IsRightDeed-right h s (Put key written) r = tt
IsRightDeed-right h s (Remove key) r = tt
IsRightDeed-right h s (Group members) r = tt
IsRightDeed-right h s deed r = r

pub records_right-go_on : (h h' : History) (calls : List CallRecord) → GoesOn h h' → AllByRecursion (IsRightRecord h) calls
    → AllByRecursion (IsRightRecord h') calls
records_right-go_on h h' [] on all = tt
records_right-go_on h h' (r ∷ rs) on all = (IsRightDeed-goes_on h h' r.time r.deed on all.0, records_right-go_on h h' rs on all.1)

-- ---- the pasts of a world's slots

-- an undecided slot, and one not drawn, reads as nothing
abbrev pub settle : Option Slot → Slot
settle slot = unwrap_or slot Nothing

pub slot_of-history : (slots : List (Option Slot)) (t : ℕ) → slot_of (history_of slots) t ≡ settle (outcome_at slots t)
slot_of-history slots t = get_or-map settle slots t None

pub slot_of-past : (slots : List (Option Slot)) (p t : ℕ) → t < p → slot_of (past_of slots p) t ≡ settle (outcome_at slots t)
slot_of-past slots p t lt = get_or-take p (settled slots) t Nothing lt ∙ slot_of-history slots t

pub end_of-history : (slots : List (Option Slot)) → end_of (history_of slots) ≡ length slots
end_of-history slots = length-map slots settle

-- a past ends at its time, or where the slots end
pub end_of-past_min : (slots : List (Option Slot)) (p : ℕ) → end_of (past_of slots p) ≡ min p (length slots)
end_of-past_min slots p = length-take p (settled slots) ∙ ap (min p) (end_of-history slots)

pub end_of-past : (slots : List (Option Slot)) (p : ℕ) → p ≤ length slots → end_of (past_of slots p) ≡ p
end_of-past slots p le = let e = end_of-past_min slots p in omega arith

-- slots that are the same below p have the same past there
pub past-same : (slots slots' : List (Option Slot)) (p p' : ℕ) → p ≤ p' → ((t : ℕ) → t < p → outcome_at slots' t ≡ outcome_at slots t)
    → AreSameBelow (past_of slots p) (past_of slots' p') p
past-same slots slots' p p' le same t lt = slot_of-past slots' p' t (omega arith) ∙ ap settle (same t lt) ∙ sym (slot_of-past slots p t lt)

-- and where both reach p, they are one past
pub past-equal : (slots slots' : List (Option Slot)) (p : ℕ) → p ≤ length slots → p ≤ length slots'
    → ((t : ℕ) → t < p → outcome_at slots' t ≡ outcome_at slots t) → past_of slots' p ≡ past_of slots p
past-equal slots slots' p le le' same = ap plain (taken p le le' same) where
  taken : (n : ℕ) → n ≤ length slots → n ≤ length slots' → ((t : ℕ) → t < n → outcome_at slots' t ≡ outcome_at slots t) → take n (settled slots')
      ≡ take n (settled slots)
  taken zero le le' same = refl
  taken (suc n) le le' same = let e = end_of-history slots in let e' = end_of-history slots' in
      subst (λ (k : ℕ). take k (settled slots') ≡ take k (settled slots)) (add-one n)
      (take_more_same (settled slots') (settled slots) n Nothing (omega arith) (omega arith)
      (taken n (omega arith) (omega arith) (λ t lt. same t (omega arith)))
      (slot_of-history slots' n ∙ ap settle (same n (omega arith)) ∙ sym (slot_of-history slots n)))

-- a later past of slots that grew goes on, where the slots below the former are the same
pub past-goes_on : (slots slots' : List (Option Slot)) (p p' : ℕ) → p ≤ p' → length slots ≤ length slots'
    → ((t : ℕ) → t < p → outcome_at slots' t ≡ outcome_at slots t) → GoesOn (past_of slots p) (past_of slots' p')
past-goes_on slots slots' p p' le longer same = let e = end_of-past_min slots p in let e' = end_of-past_min slots' p' in record {
  plain = refl;
  longer = omega arith;
  same = λ t lt. past-same slots slots' p p' le same t (omega arith);
}

-- decided slots that stay are the same
pub decided-same : (slot slot' : ℕ → Option Slot) (t : ℕ) → slot t ≢ None → ((b : Slot) → slot t ≡ Some b → slot' t ≡ Some b) → slot' t ≡ slot t
decided-same slot slot' t decided stays = is (slot t) decided stays where
  is : (o : Option Slot) → o ≢ None → ((b : Slot) → o ≡ Some b → slot' t ≡ Some b) → slot' t ≡ o
  is None ne stays = absurd (ne refl)
  is (Some b) ne stays = stays b refl

-- a later past goes on from a former one below which each slot is decided, where decided slots stay
pub decided_past-goes_on : (slots slots' : List (Option Slot)) (p p' : ℕ) → p ≤ p' → length slots ≤ length slots'
    → ((t : ℕ) → t < p → outcome_at slots t ≢ None) → ((t : ℕ) (b : Slot) → outcome_at slots t ≡ Some b → outcome_at slots' t ≡ Some b)
    → GoesOn (past_of slots p) (past_of slots' p')
decided_past-goes_on slots slots' p p' le longer decided stays = past-goes_on slots slots' p p' le longer
    (λ t lt. decided-same (outcome_at slots) (outcome_at slots') t (decided t lt) (stays t))
