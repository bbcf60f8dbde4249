-- Lists of batches, and the beginnings of histories that list some.
use Rattle.std.proofs.Common.{◌≡◌, ℕ, ◌+◌, ◌<◌, ◌≤◌, cond, List, [], ◌∷◌, ◌++◌, length, refl, sym, ap, ◌∙◌, subst, arith, inl, inr, lt-ltb, le-ltb}
use Rattle.std.proofs.Common.{length-append, append_assoc, append-nil}
use Rattle.std.proofs.lemmas.Bool.{cases_lt}
use mathlib.Core.List.{IsPrefix}
use Rattle.clsm_model.specs.declared.batch.Batch.{Batch}
use Rattle.clsm_model.specs.declared.slot.Slot.{Slot}
use Rattle.clsm_model.specs.History.{History, AreInTurn, IsBeginning, IsListed, IsUncut, batches_below, end_of}

-- ---- the batches that begin below a time

-- one that does, and one that does not
below_more : (p : ℕ) (b : Batch) (bs : List Batch) → b.first < p → batches_below p (b ∷ bs) ≡ b ∷ batches_below p bs
below_more p b bs lt = ap (λ t. cond t (b ∷ batches_below p bs) (batches_below p bs)) (lt-ltb b.first p lt)

below_less : (p : ℕ) (b : Batch) (bs : List Batch) → p ≤ b.first → batches_below p (b ∷ bs) ≡ batches_below p bs
below_less p b bs le = ap (λ t. cond t (b ∷ batches_below p bs) (batches_below p bs)) (le-ltb b.first p le)

-- below 0 there is none
pub below_zero : (bs : List Batch) → batches_below 0 bs ≡ []
below_zero [] = refl
below_zero (b ∷ bs) = below_less 0 b bs (omega arith) ∙ below_zero bs

-- of those below a later time
pub below_below : (p q : ℕ) (bs : List Batch) → p ≤ q → batches_below p (batches_below q bs) ≡ batches_below p bs
below_below p q [] le = refl
below_below p q (b ∷ bs) le = elim (cases_lt b.first q) [
  | inl lt ↦ ap (batches_below p) (below_more q b bs lt) ∙ elim (cases_lt b.first p) [
    | inl early ↦ below_more p b (batches_below q bs) early ∙ ap (λ l. b ∷ l) (below_below p q bs le) ∙ sym (below_more p b bs early)
    | inr late ↦ below_less p b (batches_below q bs) late ∙ below_below p q bs le ∙ sym (below_less p b bs late)
  ]
  | inr ge ↦ ap (batches_below p) (below_less q b bs ge) ∙ below_below p q bs le ∙ sym (below_less p b bs (omega arith))
]

-- one that begins at the time or later is none of them
pub below_next : (p : ℕ) (bs : List Batch) (b : Batch) → p ≤ b.first → batches_below p (bs ++ b ∷ []) ≡ batches_below p bs
below_next p [] b le = below_less p b [] le
below_next p (a ∷ bs) b le = elim (cases_lt a.first p) [
  | inl lt ↦ below_more p a (bs ++ b ∷ []) lt ∙ ap (λ l. a ∷ l) (below_next p bs b le) ∙ sym (below_more p a bs lt)
  | inr ge ↦ below_less p a (bs ++ b ∷ []) ge ∙ below_next p bs b le ∙ sym (below_less p a bs ge)
]

-- a time that cuts none of the list cuts none of these
pub below_uncut : (p s : ℕ) (bs : List Batch) → IsUncut bs s → IsUncut (batches_below p bs) s
below_uncut p s [] h = tt
below_uncut p s (b ∷ bs) h = elim (cases_lt b.first p) [
  | inl lt ↦ subst (λ l. IsUncut l s) (sym (below_more p b bs lt)) (h.0, below_uncut p s bs h.1)
  | inr ge ↦ subst (λ l. IsUncut l s) (sym (below_less p b bs ge)) (below_uncut p s bs h.1)
]

-- one that begins below the time is among them
pub below_listed : (p : ℕ) (bs : List Batch) (b : Batch) → b.first < p → IsListed bs b → IsListed (batches_below p bs) b
below_listed p [] b lt h = absurd h
below_listed p (a ∷ bs) b lt (inl same) = let early = ap (λ (x : Batch). x.first) same in
    subst (λ l. IsListed l b) (sym (below_more p a bs (omega arith))) (inl same)
below_listed p (a ∷ bs) b lt (inr rest) = elim (cases_lt a.first p) [
  | inl early ↦ subst (λ l. IsListed l b) (sym (below_more p a bs early)) (inr (below_listed p bs b lt rest))
  | inr late ↦ subst (λ l. IsListed l b) (sym (below_less p a bs late)) (below_listed p bs b lt rest)
]

-- ---- batches in turn

-- one of them has a member
pub in_turn_some : (from : ℕ) (bs : List Batch) (n : ℕ) (b : Batch) → AreInTurn from bs n → IsListed bs b → 0 < b.size
in_turn_some from [] n b h is = absurd is
in_turn_some from (a ∷ bs) n b h (inl same) = let e = ap (λ (x : Batch). x.size) same in let some = h.1 in omega arith
in_turn_some from (a ∷ bs) n b h (inr rest) = in_turn_some (a.first + a.size) bs n b h.2 rest

-- none that come from a time on begin below it
none_below : (p from : ℕ) (bs : List Batch) (n : ℕ) → p ≤ from → AreInTurn from bs n → batches_below p bs ≡ []
none_below p from [] n le h = refl
none_below p from (b ∷ bs) n le h = let at = h.0 in below_less p b bs (omega arith) ∙ none_below p (b.first + b.size) bs n (omega arith) h.2

-- those below an uncut time are in turn up to it
pub in_turn_below : (from : ℕ) (bs : List Batch) (n p : ℕ) → from ≤ p → IsUncut bs p → AreInTurn from bs n → AreInTurn from (batches_below p bs) p
in_turn_below from [] n p le uncut h = le
in_turn_below from (b ∷ bs) n p le uncut h = elim (cases_lt b.first p) [
  | inl lt ↦ elim (cases_lt p (b.first + b.size)) [
    | inl cut ↦ absurd (uncut.0 (lt, cut))
    | inr past ↦ subst (λ l. AreInTurn from l p) (sym (below_more p b bs lt)) (h.0, h.1, in_turn_below (b.first + b.size) bs n p past uncut.1 h.2)
  ]
  | inr ge ↦ subst (λ l. AreInTurn from l p) (sym (below_less p b bs ge ∙ none_below p (b.first + b.size) bs n (omega arith) h.2)) le
]

-- batches in turn up to a time all begin below it
pub in_turn_all : (from : ℕ) (bs : List Batch) (n : ℕ) → AreInTurn from bs n → batches_below n bs ≡ bs
in_turn_all from bs n h = all from bs h where
  within : (from : ℕ) (bs : List Batch) → AreInTurn from bs n → from ≤ n
  within from [] h = h
  within from (b ∷ bs) h = let a = h.0 in let rest = within (b.first + b.size) bs h.2 in omega arith

  all : (from : ℕ) (bs : List Batch) → AreInTurn from bs n → batches_below n bs ≡ bs
  all from [] h = refl
  all from (b ∷ bs) h = let some = h.1 in let rest = within (b.first + b.size) bs h.2 in below_more n b bs (omega arith)
      ∙ ap (λ l. b ∷ l) (all (b.first + b.size) bs h.2)

-- ---- beginnings

pub prefix_trans : (a b c : List Slot) → IsPrefix a b → IsPrefix b c → IsPrefix a c
prefix_trans a b c h k = (h.0 ++ k.0, sym (append_assoc a h.0 k.0) ∙ ap (λ (l : List Slot). l ++ k.0) h.1 ∙ k.1)

pub prefix_length : (a b : List Slot) → IsPrefix a b → length a ≤ length b
prefix_length a b h = let both = length-append a h.0 in let same = ap (λ (l : List Slot). length l) h.1 in omega arith

-- each history is a beginning of itself
pub begins_self : (h : History) → IsBeginning h h
begins_self h = record { slots = ([], append-nil h.slots); batches = refl }

pub begins_trans : (a b c : History) → IsBeginning a b → IsBeginning b c → IsBeginning a c
begins_trans a b c h k = record {
  slots = prefix_trans a.slots b.slots c.slots h.slots k.slots;
  batches =
      let le = prefix_length a.slots b.slots h.slots in
      h.batches ∙ sym (below_below (end_of a) (end_of b) b.batches le) ∙ ap (batches_below (end_of a)) k.batches
      ∙ below_below (end_of a) (end_of b) c.batches le;
}

-- two beginnings of one length, whose batches all begin below its end, list the same batches
pub begins_same : (a b : History) → IsBeginning a b → end_of b ≡ end_of a → AreInTurn 0 a.batches (end_of a) → AreInTurn 0 b.batches (end_of b) → b.batches
    ≡ a.batches
begins_same a b h e turn turn' =
    sym (in_turn_all 0 b.batches (end_of b) turn') ∙ ap (λ (n : ℕ). batches_below n b.batches) e ∙ sym h.batches ∙ in_turn_all 0 a.batches (end_of a) turn
