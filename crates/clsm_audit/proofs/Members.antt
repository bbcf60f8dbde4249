-- The members of a batch, one by one.
use Rattle.std.proofs.Common.{◌≡◌, ℕ, ◌+◌, ◌<◌, zero, suc, List, [], ◌∷◌, length, get_or, Some, None, refl, sym, ap, ◌∙◌, subst, arith}
use Rattle.clsm_model.specs.declared.slot.Slot.{Slot}
use Rattle.clsm_model.specs.History.{History, slot_at}
use Rattle.clsm_model.specs.Map.{IsMap, Pair}
use Rattle.clsm_model.specs.Right.{Member, change_by, member_write}
use Rattle.clsm_audit.specs.Replayed.{StandFrom}

-- ---- played one after another

member_at : (seat : ℕ) (members : List Member) (n : ℕ) (d : Member) → n < length members → member_write seat members n
    ≡ change_by seat (get_or members n d).0 (get_or members n d).1
member_at seat [] n d lt = absurd (omega arith)
member_at seat (m ∷ ms) zero d lt = refl
member_at seat (m ∷ ms) (suc n) d lt = member_at seat ms n d (omega arith)

-- the map after the first n members of a batch that stands in a history
abbrev pub ArePlayed : ℕ → List Member → ℕ → List Pair → List Pair → Type 0
ArePlayed seat members n old new = (h : History) (s : ℕ) → StandFrom h seat s members → IsMap h s old → IsMap h (s + n) new

module _ (seat : ℕ) (members : List Member) (n : ℕ) (m : Member) (within : n < length members) (is : m ≡ get_or members n m) where
  stands : (h : History) (s : ℕ) → StandFrom h seat s members → change_by seat m.0 m.1 ≡ Some (slot_at h (s + n))
  stands h s stand = ap (λ (q : Member). change_by seat q.0 q.1) is ∙ sym (member_at seat members n m within) ∙ stand n within

  -- one more that is a write
  pub played_more : (old now new : List Pair) (slot : Slot) → change_by seat m.0 m.1 ≡ Some slot → ArePlayed seat members n old now
      → ((h : History) (s : ℕ) → slot_at h s ≡ slot → IsMap h s now → IsMap h (s + 1) new) → ArePlayed seat members (n + 1) old new
  played_more old now new slot writes before follows h s stand map =
      let same : Some (slot_at h (s + n)) ≡ Some slot = sym (stands h s stand) ∙ writes in
      let next = follows h (s + n) (let e : slot_at h (s + n) ≡ slot = cc same in e) (before h s stand map) in
      subst (λ (t : ℕ). IsMap h t new) (let e : (s + n) + 1 ≡ s + (n + 1) = omega arith in e) next

  -- no member of a batch that stands keeps its key
  pub played_none : (old now : List Pair) → change_by seat m.0 m.1 ≡ None → ArePlayed seat members (n + 1) old now
  played_none old now keeps h s stand map = let clash : Some (slot_at h (s + n)) ≡ None = sym (stands h s stand) ∙ keeps in cc clash
