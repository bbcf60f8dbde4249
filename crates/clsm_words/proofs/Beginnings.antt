-- Beginnings of one history: the shorter begins the longer, and where decided slots stay, so do
-- they.
use Rattle.std.proofs.Common.{◌≡◌, ◌≢◌, ℕ, zero, suc, ◌<◌, ◌≤◌, List, [], ◌∷◌, length, take, get_or, sym, refl, ap, ◌∙◌, subst, arith, inl, inr, Option}
use Rattle.std.proofs.Common.{Some, None}
use Rattle.std.specs.Option.{unwrap_or}
use Rattle.std.proofs.lemmas.Bool.{cases_lt}
use mathlib.Core.List.{IsPrefix}
use Rattle.clsm_model.specs.declared.slot.Slot.{Slot}
use Rattle.clsm_model.specs.declared.slot.Slot.TheVariants.{Nothing}
use Rattle.clsm_law.specs.Worlds.{outcome_at, settled}
use Rattle.clsm_law.proofs.Frames.{past_end}
use Rattle.clsm_law.proofs.Runs.Kept.{settled_at}
use Rattle.clsm_law.proofs.Records.Histories.{slot_of-past, end_of-past, past-equal, decided-same}
use Rattle.clsm_words.specs.Ruled.{Begins}

take_prefix : (xs : List Slot) (p q : ℕ) → p ≤ q → IsPrefix (take p xs) (take q xs)
take_prefix xs zero q le = (take q xs, refl)
take_prefix [] (suc p) zero le = absurd (omega arith)
take_prefix [] (suc p) (suc q) le = ([], refl)
take_prefix (x ∷ xs) (suc p) zero le = absurd (omega arith)
take_prefix (x ∷ xs) (suc p) (suc q) le = let h = take_prefix xs p q (omega arith) in (h.0, ap (λ (ys : List Slot). x ∷ ys) h.1)

-- only drawn times are decided
pub until_bound : (slots : List (Option Slot)) (list : List Slot) (b : Begins slots list) → b.until ≤ length slots
until_bound slots list b = elim (cases_lt (length slots) b.until) [
  | inl lt ↦ absurd (b.decided (length slots) lt (past_end slots))
  | inr le ↦ le
]

pub begins_length : (slots : List (Option Slot)) (list : List Slot) (b : Begins slots list) → length list ≡ b.until
begins_length slots list b = ap (λ (xs : List Slot). length xs) b.is ∙ end_of-past slots b.until (until_bound slots list b)

-- a beginning is no longer than the history
pub begins_bound : (slots : List (Option Slot)) (list : List Slot) → Begins slots list → length list ≤ length slots
begins_bound slots list b = let e = begins_length slots list b in let u = until_bound slots list b in omega arith

settled_is : (o : Option Slot) → o ≢ None → Some (unwrap_or o Nothing) ≡ o
settled_is None ne = absurd (ne refl)
settled_is (Some slot) ne = refl

-- what stands in a beginning is what the time came to
pub begins_at : (slots : List (Option Slot)) (list : List Slot) (b : Begins slots list) (t : ℕ) → t < length list → outcome_at slots t
    ≡ Some (get_or list t Nothing)
begins_at slots list b t lt =
    let e = begins_length slots list b in
    let below : t < b.until = omega arith in
    sym (ap (λ (xs : List Slot). Some (get_or xs t Nothing)) b.is ∙ ap (λ (x : Slot). Some x) (slot_of-past slots b.until t below)
    ∙ settled_is (outcome_at slots t) (b.decided t below))

-- what the times of a beginning came to
pub begins_settled : (slots : List (Option Slot)) (past : List Slot) (b : Begins slots past) (t : ℕ) → t < length past → get_or past t Nothing
    ≡ get_or (settled slots) t Nothing
begins_settled slots past b t lt = sym (settled_at slots t ∙ (λ i. cond_of (begins_at slots past b t lt i))) where
  cond_of : Option Slot → Slot
  cond_of o = unwrap_or o Nothing

-- of two beginnings the one that is not longer begins the other
pub begins_prefix : (slots : List (Option Slot)) (a b : List Slot) → Begins slots a → Begins slots b → length a ≤ length b → IsPrefix a b
begins_prefix slots a b x y le =
    let e = begins_length slots a x in
    let f = begins_length slots b y in
    subst (λ (xs : List Slot). IsPrefix xs b) (sym x.is) (subst (λ (ys : List Slot). IsPrefix (take x.until (settled slots)) ys) (sym y.is)
    (take_prefix (settled slots) x.until y.until (omega arith)))

-- the slots grew, and each that was decided stays
pub record HaveGrown (slots slots' : List (Option Slot)) : Type 0 where
  pub longer : length slots ≤ length slots'
  pub stay : (t : ℕ) (slot : Slot) → outcome_at slots t ≡ Some slot → outcome_at slots' t ≡ Some slot

still : (slots slots' : List (Option Slot)) → HaveGrown slots slots' → (t : ℕ) → outcome_at slots t ≢ None → outcome_at slots' t ≡ outcome_at slots t
still slots slots' grown t decided = decided-same (outcome_at slots) (outcome_at slots') t decided (grown.stay t)

-- what decided times came to stays
pub decided_stay : (slots slots' : List (Option Slot)) (p : ℕ) → HaveGrown slots slots' → p ≤ length slots → ((t : ℕ) → t < p → outcome_at slots t ≢ None)
    → take p (settled slots) ≡ take p (settled slots')
decided_stay slots slots' p grown bound decided = let longer = grown.longer in
    sym (ap (λ h. h.slots) (past-equal slots slots' p bound (omega arith) (λ t lt. still slots slots' grown t (decided t lt))))

pub begins_stay : (slots slots' : List (Option Slot)) (list : List Slot) → HaveGrown slots slots' → Begins slots list → Begins slots' list
begins_stay slots slots' list grown b = record {
  until = b.until;
  is = b.is ∙ decided_stay slots slots' b.until grown (until_bound slots list b) b.decided;
  decided = λ t lt e. b.decided t lt (sym (still slots slots' grown t (b.decided t lt)) ∙ e);
}
