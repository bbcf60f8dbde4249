-- Seats in a list.
use Rattle.std.proofs.Common.{◌≡◌, ◌≢◌, ℕ, ◌<◌, ◌≤◌, ◌⊎◌, List, [], ◌∷◌, ◌++◌, length, get_or, set, refl, ap, ◌∙◌, sym, inl, inr, arith, length-set}
use Rattle.std.proofs.Common.{length-append, get_or-set_same, get_or-set_other}
use mathlib.Core.Logic.{dite}
use mathlib.Core.List.{IsPrefix}
use native.Mathlib.Decide.{ℕ_discrete}
use Rattle.std.proofs.lemmas.List.Elements.{All-get_or, All-from_get_or}
use Rattle.std.proofs.lemmas.List.{append-nil, get_or_default, set-get_or}
use Rattle.clsm_model.specs.declared.slot.Slot.{Slot}
use Rattle.clsm_model.specs.History.{History, AreInTurn, IsBeginning, end_of}
use Rattle.clsm_model.proofs.Batches.{begins_same, prefix_length}
use Rattle.clsm_store.specs.Headline.{IsAt}
use Rattle.clsm_store.specs.Meetings.{AreOf}
use Rattle.clsm_store_calls.specs.Seats.{SeatState, StoreId, newcomer}

pub at_get : (l : List SeatState) (i : ℕ) (d : SeatState) → i < length l → IsAt l i (get_or l i d)
at_get l i d lt = (lt, get_or_default l i (get_or l i d) d lt)

pub at_one : (l : List SeatState) (i : ℕ) (s s' : SeatState) → IsAt l i s → IsAt l i s' → s ≡ s'
at_one l i s s' a b = sym a.1 ∙ get_or_default l i s s' a.0 ∙ b.1

pub set_back : (l : List SeatState) (i : ℕ) (s : SeatState) → IsAt l i s → set l i s ≡ l
set_back l i s a = ap (λ (x : SeatState). set l i x) (sym a.1) ∙ set-get_or l i s

pub at_set : (l : List SeatState) (i : ℕ) (x : SeatState) (j : ℕ) (s : SeatState) → IsAt (set l i x) j s → ((j ≡ i) × (s ≡ x)) ⊎ ((j ≢ i) × IsAt l j s)
at_set l i x j s a = let lt : j < length l = let e = length-set l i x in let b = a.0 in omega arith in dite (ℕ_discrete j i)
    (λ (e : j ≡ i). inl (e, sym a.1 ∙ ap (λ (k : ℕ). get_or (set l i x) k s) e ∙ get_or-set_same l i x s (omega arith)))
    (λ ne. inr (ne, (lt, sym (get_or-set_other l i j x s ne) ∙ a.1)))

-- the seat at i was put there, and is read and put back as it is
module _ (l : List SeatState) (i : ℕ) (inside : i < length l) (x y z : SeatState) (read : z ≡ get_or (set l i x) i z) where
  pub read_is : z ≡ x
  read_is = read ∙ get_or-set_same l i x z inside

  pub put_again : y ≡ z → set (set l i x) i y ≡ set l i x
  put_again e = ap (λ (s : SeatState). set (set l i x) i s) e ∙ set_back (set l i x) i z ((let k = length-set l i x in omega arith), sym read)

-- what holds at each place holds of each
pub each : (P : SeatState → Type 0) (l : List SeatState) → ((i : ℕ) (s : SeatState) → IsAt l i s → P s) → (k : ℕ) (d : SeatState) → k < length l
    → P (get_or l k d)
each P l f k d lt = f k (get_or l k d) (at_get l k d lt)

pub at_all : (store : StoreId) (l : List SeatState) → AreOf store l → (i : ℕ) (s : SeatState) → IsAt l i s → s.store ≡ store
at_all store l all i s at = ap (λ (z : SeatState). z.store) (sym at.1) ∙ All-get_or (λ (z : SeatState). z.store ≡ store) l i s at.0 all

pub all_at : (store : StoreId) (l : List SeatState) → ((i : ℕ) (s : SeatState) → IsAt l i s → s.store ≡ store) → AreOf store l
all_at store l f = All-from_get_or (λ (z : SeatState). z.store ≡ store) l (newcomer store 0) (λ i lt. f i _ (at_get l i (newcomer store 0) lt))

-- ---- beginnings of histories

none_left : (r : List Slot) → length r ≤ 0 → r ≡ []
none_left [] le = refl
none_left (x ∷ xs) le = absurd (omega arith)

-- a beginning that is as long is all
prefix_all : (a b : List Slot) → IsPrefix a b → length b ≤ length a → a ≡ b
prefix_all a b p le = let l = length-append a p.0 in let e = ap length p.1 in let n : p.0 ≡ [] = none_left p.0 (omega arith) in
    sym (append-nil a) ∙ ap (λ (r : List Slot). a ++ r) (sym n) ∙ p.1

pub begins_length : (a b : History) → IsBeginning a b → end_of a ≤ end_of b
begins_length a b begins = prefix_length a.slots b.slots begins.slots

pub begins_all : (a b : History) → IsBeginning a b → end_of b ≤ end_of a → AreInTurn 0 a.batches (end_of a) → AreInTurn 0 b.batches (end_of b) → a ≡ b
begins_all a b begins le turn turn' =
    let slots = prefix_all a.slots b.slots begins.slots le in
    let batches = begins_same a b begins (ap (λ (l : List Slot). length l) (sym slots)) turn turn' in
    λ i. record { slots = slots i; batches = sym batches i }
