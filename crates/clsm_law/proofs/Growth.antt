-- What an open step of a seat never takes back: decided slots stay, the history grows, and the
-- pasts with it.
use Rattle.std.proofs.Common.{◌≡◌, ℕ, ◌+◌, ◌<◌, ◌≤◌, cond, [], ◌∷◌, ◌++◌, length, set, refl, subst, ◌∙◌, arith, ⊎_elim, Option, Some, None, length-set, List}
use Rattle.std.proofs.Common.{length-append, sym}
use Rattle.clsm_model.specs.declared.slot.Slot.{Slot}
use Rattle.clsm_model.specs.declared.slot.Slot.TheVariants.{Nothing, Wrote}
use Rattle.clsm_model.specs.Right.{write_by}
use Rattle.clsm_law.specs.declared.step.Step.{Step}
use Rattle.clsm_law.specs.declared.step.Step.TheVariants.{Draw, Decide, Cancel}
use Rattle.clsm_law.specs.declared.word.Word.TheVariants.{State}
use Rattle.clsm_law.specs.declared.view.Mode.TheVariants.{Shared}
use Rattle.clsm_law.specs.Memory.{cell_of}
use Rattle.clsm_law.specs.Views.{IsBelow}
use Rattle.clsm_law.specs.OpenSteps.{HoldsFrom}
use Rattle.clsm_law.specs.Worlds.{outcome_at}
use Rattle.clsm_law.specs.Law.{Shows, first_shown}
use Rattle.clsm_law.proofs.Cases.{by_test}
use Rattle.clsm_law.proofs.Frames.{at_each, puts_slot, slots_grown, keep1}
use Rattle.clsm_law.proofs.Setting.{Setting, v, x, S, Opens, undecided, drawn_shown, held_shown, shown_below_merged, clock_below}

-- the time of an open Cancel is shown
pub cancels_shown : (s : Setting) (t : ℕ) → Opens s (Cancel t) → (first_shown s.z s.merger ≤ t) × (t < length s.slots)
cancels_shown s t o = ⊎_elim
    (λ (e : ((v s).drawn ≡ Some t) × ((v s).mode ≡ Shared)). let p = drawn_shown s.ground s.me t e.0 in
    (let a = shown_below_merged s.ground in let b = p.0 in omega arith, p.1))
    (λ h. (from (v s).held refl h.0, until (v s).clock refl h.1)) o
  where
    from : (o : Option ℕ) → (v s).held ≡ o → HoldsFrom s.z o t → first_shown s.z s.merger ≤ t
    from None e h = absurd h
    from (Some m) e h = let a = held_shown s.ground s.me m s.inside e in omega arith

    until : (o : Option ℕ) → (v s).clock ≡ o → IsBelow t o → t < length s.slots
    until None e h = absurd h
    until (Some n) e h = let a = s.law.clocks s.me n e in let b = clock_below s.ground in omega arith

-- the slot of a Decide or a Cancel that wins was undecided
pub decides_undecided : (s : Setting) (t : ℕ) → (v s).drawn ≡ Some t → s.memory (State (cell_of s.z t)) ≡ 0 → outcome_at s.slots t ≡ None
decides_undecided s t e empty = let p = drawn_shown s.ground s.me t e in
    undecided s.ground t (let a = shown_below_merged s.ground in let b = p.0 in omega arith) p.1 empty

pub cancels_undecided : (s : Setting) (t : ℕ) → Opens s (Cancel t) → s.memory (State (cell_of s.z t)) ≡ 0 → outcome_at s.slots t ≡ None
cancels_undecided s t o empty = let p = cancels_shown s t o in undecided s.ground t p.0 p.1 empty

-- and the state of an undecided drawn time is empty
pub undecided_empty : (s : Setting) (t : ℕ) → (v s).drawn ≡ Some t → outcome_at s.slots t ≡ None → s.memory (State (cell_of s.z t)) ≡ 0
undecided_empty s t e none = let p = drawn_shown s.ground s.me t e in
    subst (Shows s.memory (cell_of s.z t)) none (s.law.shown t (let a = shown_below_merged s.ground in let b = p.0 in omega arith) p.1)

stays_but : (s : Setting) (t : ℕ) (a : Option Slot) → t < length s.slots → outcome_at s.slots t ≡ None → (u : ℕ) (b : Slot) → outcome_at s.slots u ≡ Some b
    → outcome_at (set s.slots t a) u ≡ Some b
stays_but s t a lt none u b = at_each (λ u. outcome_at s.slots u ≡ Some b → outcome_at (set s.slots t a) u ≡ Some b) t (λ e. absurd (cc (e, none)))
    (λ u ne e. (puts_slot s.slots t a lt).other u ne ∙ e) u

-- what is decided stays
pub slots_stay : (s : Setting) (step : Step) → Opens s step → (u : ℕ) (b : Slot) → outcome_at s.slots u ≡ Some b → outcome_at (S s step) u ≡ Some b
slots_stay s (Draw t) o = λ u b e. by_test (λ c. outcome_at (cond c (s.slots ++ None ∷ []) s.slots) u ≡ Some b) (x s (Draw t)) t
    (λ _. (λ k. slots_grown s.slots k u) ∙ e) (λ _. e)
slots_stay s (Decide t deed) o = λ u b e. by_test (λ c. outcome_at (cond c (set s.slots t (write_by s.me deed)) s.slots) u ≡ Some b) (x s (Decide t deed)) 0
    (λ z. stays_but s t _ (drawn_shown s.ground s.me t o.0).1 (decides_undecided s t o.0 z) u b e) (λ _. e)
slots_stay s (Cancel t) o = λ u b e. by_test (λ c. outcome_at (cond c (set s.slots t (Some Nothing)) s.slots) u ≡ Some b) (x s (Cancel t)) 0
    (λ z. stays_but s t _ (cancels_shown s t o).1 (cancels_undecided s t o z) u b e) (λ _. e)
slots_stay s step o = λ u b e. e

-- and so does the length, or it grows by the drawn time
pub longer : (s : Setting) (step : Step) → length s.slots ≤ length (S s step)
longer s (Draw t) = by_test (λ c. length s.slots ≤ length (cond c (s.slots ++ None ∷ []) s.slots)) (x s (Draw t)) t
    (λ _. let l : length (s.slots ++ None ∷ []) ≡ length s.slots + 1 = length-append s.slots (None ∷ []) in omega arith) (λ _. omega arith)
longer s (Decide t deed) = by_test (λ c. length s.slots ≤ length (cond c (set s.slots t (write_by s.me deed)) s.slots)) (x s (Decide t deed)) 0
    (λ _. let l = length-set s.slots t (write_by s.me deed) in omega arith) (λ _. omega arith)
longer s (Cancel t) = by_test (λ c. length s.slots ≤ length (cond c (set s.slots t (Some Nothing)) s.slots)) (x s (Cancel t)) 0
    (λ _. let l = length-set s.slots t (Some Nothing) in omega arith) (λ _. omega arith)
longer s step = omega arith

-- ---- a fact of each write

-- it holds of each write of a row of slots from a time on
abbrev pub OfWrites : ℕ → (ℕ → Option Slot) → (ℕ → ℕ → Option (List ℕ) → Type 0) → Type 0
OfWrites from slot P = (t i key : ℕ) (written : Option (List ℕ)) → from ≤ t → slot t ≡ Some (Wrote i key written) → P t key written

-- and of the one that a Decide makes
abbrev pub OfDecided : Setting → (ℕ → ℕ → Option (List ℕ) → Type 0) → Step → Type 0
OfDecided s P (Decide t deed) = (i key : ℕ) (written : Option (List ℕ)) → write_by s.me deed ≡ Some (Wrote i key written) → P t key written
OfDecided s P step = Unit {0}

writes_settled : (slots : List (Option Slot)) (t : ℕ) (a : Option Slot) (from : ℕ) (P : ℕ → ℕ → Option (List ℕ) → Type 0) → t < length slots
    → ((i key : ℕ) (written : Option (List ℕ)) → a ≡ Some (Wrote i key written) → P t key written) → OfWrites from (outcome_at slots) P
    → OfWrites from (outcome_at (set slots t a)) P
writes_settled slots t a from P lt now was u i key written le e = let p = puts_slot slots t a lt in
    at_each (λ u. from ≤ u → outcome_at (set slots t a) u ≡ Some (Wrote i key written) → P u key written) t
    (λ _ e. now i key written (sym p.here ∙ e)) (λ u ne le e. was u i key written le (sym (p.other u ne) ∙ e)) u le e

-- so it holds of each write after the step
pub writes_kept : (s : Setting) (step : Step) → Opens s step → (from : ℕ) (P : ℕ → ℕ → Option (List ℕ) → Type 0) → OfDecided s P step
    → OfWrites from (outcome_at s.slots) P → OfWrites from (outcome_at (S s step)) P
writes_kept s (Draw t) o from P now was = by_test (λ b. OfWrites from (outcome_at (cond b (s.slots ++ None ∷ []) s.slots)) P) (x s (Draw t)) t
    (λ _. keep1 (λ (f : ℕ → Option Slot). OfWrites from f P) (slots_grown s.slots) was) (λ _. was)
writes_kept s (Decide t deed) o from P now was = by_test (λ b. OfWrites from (outcome_at (cond b (set s.slots t (write_by s.me deed)) s.slots)) P)
    (x s (Decide t deed)) 0 (λ _. writes_settled s.slots t (write_by s.me deed) from P (drawn_shown s.ground s.me t o.0).1 now was) (λ _. was)
writes_kept s (Cancel t) o from P now was = by_test (λ b. OfWrites from (outcome_at (cond b (set s.slots t (Some Nothing)) s.slots)) P) (x s (Cancel t)) 0
    (λ _. writes_settled s.slots t (Some Nothing) from P (cancels_shown s t o).1 (λ i key written e. absurd cc) was) (λ _. was)
writes_kept s step o from P now was = was
