-- How the clauses on drawn times are kept: who drew a time holds the lock, the time is of the
-- current epoch, it is one seat's, and the filled parts are in its cell.
use Rattle.std.proofs.Common.{◌≡◌, ◌≢◌, ℕ, zero, suc, ◌+◌, ◌<◌, ◌≤◌, ◌==◌, ◌⊎◌, Bool, true, false, cond, List, [], ◌∷◌, ◌++◌, length, set, get_or, sym}
use Rattle.std.proofs.Common.{refl, ap, ◌∙◌, subst, arith, inl, inr, ⊎_elim, Option, Some, None, length-set, length-append, get_or-set_other}
use mathlib.Core.Logic.{dite}
use native.Mathlib.Decide.{ℕ_discrete}
use Rattle.std.proofs.lemmas.Bool.{cases_lt}
use Rattle.clsm_model.specs.declared.slot.Slot.{Slot}
use Rattle.clsm_model.specs.declared.slot.Slot.TheVariants.{Nothing}
use Rattle.clsm_model.specs.declared.record.Deed.{Deed}
use Rattle.clsm_model.specs.Right.{write_by}
use Rattle.clsm_law.specs.declared.layout.Layout.{Layout}
use Rattle.clsm_law.specs.declared.word.Word.{Word}
use Rattle.clsm_law.specs.declared.word.Word.TheVariants.{Lock, Limit, Cell}
use Rattle.clsm_law.specs.declared.word.Part.{Part}
use Rattle.clsm_law.specs.declared.word.Part.TheVariants.{Key, Length, Value, Next}
use Rattle.clsm_law.specs.declared.step.Step.{Step}
use Rattle.clsm_law.specs.declared.step.Step.TheVariants.{EnterShared, LeaveShared, EnterExclusive, LeaveExclusive, Draw, Fill, Decide, Cancel, Look}
use Rattle.clsm_law.specs.declared.step.Step.TheVariants.{WriteRun, ExtendClock, ExtendLimit}
use Rattle.clsm_law.specs.declared.view.View.{View}
use Rattle.clsm_law.specs.declared.view.Mode.TheVariants.{Free, Shared}
use Rattle.clsm_law.specs.Memory.{Memory, cell_of, put}
use Rattle.clsm_law.specs.Views.{blank}
use Rattle.clsm_law.specs.Relation.{after_draw, given_up, looked, filled, taken}
use Rattle.clsm_law.specs.Merging.{epoch_end}
use Rattle.clsm_law.specs.Worlds.{outcome_at}
use Rattle.clsm_law.specs.Law.{each, part_of, AreHolding, ArePending, AreOwned, AreAlone, AreFilled}
use Rattle.clsm_law.proofs.Cases.{by_test, by_bool}
use Rattle.clsm_law.proofs.Frames.{keep1, puts_each, puts_slot, slots_grown, past_end, put_here, put_other, looked_leaves, filled_leaves, not_given_up}
use Rattle.clsm_law.proofs.Clock.Times.{apart}
use Rattle.clsm_law.proofs.Setting.{Setting, Ground, v, x, w, M, V, S, Opens, OpensTo, memory', slots', own, own_drawn, looked_same, by_seat}
use Rattle.clsm_law.proofs.Setting.{merger_looked_same, drawn_live, none_drawn, clock_below, clock_shared}
use Rattle.clsm_law.proofs.Growth.{cancels_shown, slots_stay}
use Rattle.clsm_law.proofs.GrowthMerger.{passed_before, passed_behind, length_passed}
use Rattle.clsm_law.proofs.Decided.Kept.{decide_settles, cancel_settles, run_other}

-- a clause over the views after a Draw
pub by_draw : (s : Setting) (P : Bool → List View → Type 0) (t : ℕ) → (v s).mode ≡ Shared
    → (length s.slots ≡ t → P true (set s.views s.me (taken (v s) t))) → P false (set s.views s.me (after_draw false (v s) t))
    → P (x s (Draw t) == t) (V s (Draw t))
by_draw s P t shared hit miss = by_test (λ b. P b (set s.views s.me (after_draw b (v s) t))) (x s (Draw t)) t
    (λ e. hit (sym (clock_shared s.ground s.me shared) ∙ e)) (λ _. miss)

-- all but a Draw that wins leave a seat no more than it had drawn
abbrev pub Keeps : Step → Type 0
Keeps (Draw t) = ⊥
Keeps _ = Unit {0}

abbrev pub Fewer : Setting → View → Type 0
Fewer s y = (u : ℕ) → y.drawn ≡ Some u → (v s).drawn ≡ Some u

-- so it is for every step but a Draw
pub fewer_after : (s : Setting) (step : Step) → Keeps step → Fewer s (w s step)
fewer_after s (Draw t) no_draw = absurd no_draw
fewer_after s (Decide t deed) no_draw = λ u e. absurd cc
fewer_after s (Cancel t) no_draw = not_given_up (v s).drawn t
fewer_after s (Look c) no_draw = λ u e. sym (looked_leaves s.z (v s) c (x s (Look c))).1 ∙ e
fewer_after s (Fill part y) no_draw = λ u e. sym (filled_leaves (v s) part y).1 ∙ e
fewer_after s step no_draw = λ u e. e

-- ---- who has drawn a time holds the lock
pub holding_by : (s : Setting) (y : View) → ((t : ℕ) → y.drawn ≡ Some t → y.mode ≢ Free)
    → AreHolding (each s.z View.drawn (set s.views s.me y)) (each s.z View.mode (set s.views s.me y))
holding_by s y here = by_seat s y (λ i u. (t : ℕ) → u.drawn ≡ Some t → u.mode ≢ Free) here (λ i ne t e. s.law.holding i t e)

holding_after : (s : Setting) (step : Step) → Opens s step → (t : ℕ) → (w s step).drawn ≡ Some t → (w s step).mode ≢ Free
holding_after s (EnterShared l) o = λ t e free. s.law.holding s.me t e o.0
holding_after s EnterExclusive o = λ t e free. s.law.holding s.me t e o
holding_after s LeaveShared o = λ t e. absurd (let none = o.1 in cc)
holding_after s LeaveExclusive o = λ t e. absurd (let none = o.1 in cc)
holding_after s (Draw t) o = λ u e free. absurd (let shared = o.0 in cc)
holding_after s (Look c) o = λ t e free. s.law.holding s.me t (fewer_after s (Look c) tt t e)
    (sym (looked_leaves s.z (v s) c (x s (Look c))).0 ∙ free)
holding_after s (Fill part y) o = λ t e free. s.law.holding s.me t (fewer_after s (Fill part y) tt t e) (sym (filled_leaves (v s) part y).0 ∙ free)
holding_after s step o = λ t e. s.law.holding s.me t (fewer_after s step tt t e)

pub holding_kept : (s : Setting) (step : Step) → Opens s step → AreHolding (each s.z View.drawn (V s step)) (each s.z View.mode (V s step))
holding_kept s step o = holding_by s (w s step) (holding_after s step o)

pub holding_merged : (g : Ground) (step : Step) → OpensTo g step → AreHolding (each g.z View.drawn g.views) (each g.z View.mode g.views)
holding_merged g step o = g.law.holding

-- ---- a drawn time is of the current epoch, and undecided, or another seat cancelled it
abbrev Pends : Layout → ℕ → ℕ → (ℕ → Option Slot) → ℕ → Type 0
Pends z limit clock slot t = (limit ≤ t + z.cells) × (t < clock) × ((slot t ≡ None) ⊎ (slot t ≡ Some Nothing))

-- over the same slots, with no more drawn
fewer_pending : (s : Setting) (y : View) → Fewer s y → ArePending s.z (s.memory Limit) (each s.z View.drawn (set s.views s.me y)) (length s.slots)
    (outcome_at s.slots)
fewer_pending s y less = by_seat s y (λ i a. (u : ℕ) → a.drawn ≡ Some u → Pends s.z (s.memory Limit) (length s.slots) (outcome_at s.slots) u)
    (λ u e. s.law.pending s.me u (less u e)) (λ i ne u e. s.law.pending i u e)

-- the new time is the last, and undecided
pub drew_pending : (s : Setting) (t : ℕ) → length s.slots ≡ t → ArePending s.z (s.memory Limit) (each s.z View.drawn (set s.views s.me (taken (v s) t)))
    (length (s.slots ++ None ∷ [])) (outcome_at (s.slots ++ None ∷ []))
drew_pending s t is = let len : length (s.slots ++ None ∷ []) ≡ length s.slots + 1 = length-append s.slots (None ∷ []) in let current = s.law.current in
    let below = clock_below s.ground in
    keep1 (λ (f : ℕ → Option Slot). ArePending s.z (s.memory Limit) (each s.z View.drawn (set s.views s.me (taken (v s) t))) (length (s.slots ++ None ∷ [])) f)
    (slots_grown s.slots)
    (by_seat s (taken (v s) t) (λ i a. (u : ℕ) → a.drawn ≡ Some u → Pends s.z (s.memory Limit) (length (s.slots ++ None ∷ [])) (outcome_at s.slots) u)
    (λ u e. let same : t ≡ u = cc in (omega arith, omega arith, inl (subst (λ (k : ℕ). outcome_at s.slots k ≡ None) (is ∙ same) (past_end s.slots))))
    (λ i ne u e. let q = s.law.pending i u e in (q.0, let k = q.1 in omega arith, q.2)))

-- a slot becomes Nothing, or one that nobody has drawn any longer is settled
settled_pending : (s : Setting) (y : View) (t : ℕ) (a : Option Slot) → Fewer s y → t < length s.slots → (a ≡ Some Nothing)
    ⊎ ((i : ℕ) → each s.z View.drawn (set s.views s.me y) i ≢ Some t)
    → ArePending s.z (s.memory Limit) (each s.z View.drawn (set s.views s.me y)) (length (set s.slots t a)) (outcome_at (set s.slots t a))
settled_pending s y t a less lt c i u e = let q = fewer_pending s y less i u e in let p = puts_slot s.slots t a lt in let len = length-set s.slots t a in (
  q.0,
  let k = q.1 in omega arith,
  dite (ℕ_discrete u t)
      (λ (same : u ≡ t). ⊎_elim (λ (n : a ≡ Some Nothing). inr (ap (outcome_at (set s.slots t a)) same ∙ p.here ∙ n))
      (λ (no : (i : ℕ) → each s.z View.drawn (set s.views s.me y) i ≢ Some t). absurd (no i (e ∙ ap (λ (k : ℕ). Some k) same))) c)
      (λ ne. ⊎_elim (λ (f : outcome_at s.slots u ≡ None). inl (p.other u ne ∙ f)) (λ (f : outcome_at s.slots u ≡ Some Nothing). inr (p.other u ne ∙ f)) q.2),
)

-- who decides a time gives it up, and no other seat had drawn it
decided_by_none : (s : Setting) (t : ℕ) (deed : Deed) → (v s).drawn ≡ Some t → (i : ℕ) → each s.z View.drawn (V s (Decide t deed)) i ≢ Some t
decided_by_none s t deed mine = by_seat s (w s (Decide t deed)) (λ i a. a.drawn ≢ Some t) (λ e. absurd cc) (λ i ne e. ne (s.law.alone i s.me t e mine))

pub pending_kept : (s : Setting) (step : Step) → Opens s step → ArePending s.z (M s step Limit) (each s.z View.drawn (V s step)) (length (S s step))
    (outcome_at (S s step))
pending_kept s (Draw t) o = by_draw s (λ b vs. ArePending s.z (s.memory Limit) (each s.z View.drawn vs) (length (cond b (s.slots ++ None ∷ []) s.slots))
    (outcome_at (cond b (s.slots ++ None ∷ []) s.slots))) t o.0 (drew_pending s t) (fewer_pending s (after_draw false (v s) t) (λ u e. e))
pending_kept s (Decide t deed) o =
    by_test (λ b. ArePending s.z (s.memory Limit) (each s.z View.drawn (V s (Decide t deed))) (length (cond b (set s.slots t (write_by s.me deed)) s.slots))
    (outcome_at (cond b (set s.slots t (write_by s.me deed)) s.slots))) (x s (Decide t deed)) 0
    (λ _. settled_pending s (w s (Decide t deed)) t (write_by s.me deed) (λ u e. absurd cc) (s.law.pending s.me t o.0).1 (inr (decided_by_none s t deed o.0)))
    (λ _. fewer_pending s (w s (Decide t deed)) (λ u e. absurd cc))
pending_kept s (Cancel t) o = by_test (λ b. ArePending s.z (s.memory Limit) (each s.z View.drawn (V s (Cancel t)))
    (length (cond b (set s.slots t (Some Nothing)) s.slots)) (outcome_at (cond b (set s.slots t (Some Nothing)) s.slots))) (x s (Cancel t)) 0
    (λ _. settled_pending s (w s (Cancel t)) t (Some Nothing) (not_given_up (v s).drawn t) (cancels_shown s t o).1 (inl refl))
    (λ _. fewer_pending s (w s (Cancel t)) (not_given_up (v s).drawn t))
pending_kept s (Look c) o = keep1 (λ (m : Memory). ArePending s.z (m Limit) (each s.z View.drawn (V s (Look c))) (length s.slots) (outcome_at s.slots))
    (looked_same s c) (fewer_pending s (w s (Look c)) (fewer_after s (Look c) tt))
pending_kept s step o = fewer_pending s (w s step) (fewer_after s step tt)

pub pending_merged : (g : Ground) (step : Step) → OpensTo g step → ArePending g.z (memory' g step Limit) (each g.z View.drawn g.views)
    (length (slots' g step)) (outcome_at (slots' g step))
pending_merged g ExtendClock o = λ i t e. absurd (none_drawn g o.0 i t e)
pending_merged g ExtendLimit o = λ i t e. absurd (none_drawn g o.0 i t e)
pending_merged g (Look c) o = keep1 (λ (m : Memory). ArePending g.z (m Limit) (each g.z View.drawn g.views) (length g.slots) (outcome_at g.slots))
    (merger_looked_same g c) g.law.pending
pending_merged g (WriteRun word y) o = keep1 (λ (limit : ℕ). ArePending g.z limit (each g.z View.drawn g.views) (length g.slots) (outcome_at g.slots))
    (run_other g.memory word Limit y o.1 (λ h. h)) g.law.pending
pending_merged g step o = g.law.pending

-- ---- an undecided time has an owner
still_owned : (s : Setting) (y : View) (u : ℕ) → ((v s).drawn ≡ Some u → y.drawn ≡ Some u) → (i : ℕ) × (each s.z View.drawn s.views i ≡ Some u) → (i : ℕ)
    × (each s.z View.drawn (set s.views s.me y) i ≡ Some u)
still_owned s y u here h = (h.0, by_seat s y (λ i a. each s.z View.drawn s.views i ≡ Some u → a.drawn ≡ Some u) here (λ i ne e. e) h.0 h.1)

-- what is undecided after a step was undecided before
undecided_before : (s : Setting) (step : Step) → Opens s step → (u : ℕ) → outcome_at (S s step) u ≡ None → outcome_at s.slots u ≡ None
undecided_before s step o u none = is (outcome_at s.slots u) refl where
  is : (a : Option Slot) → outcome_at s.slots u ≡ a → outcome_at s.slots u ≡ None
  is None e = e
  is (Some b) e = absurd (cc (none, slots_stay s step o u b e))

-- the new time is the own
pub drew_owned : (s : Setting) (t : ℕ) → (v s).drawn ≡ None → length s.slots ≡ t
    → AreOwned (each s.z View.drawn (set s.views s.me (taken (v s) t))) (length (s.slots ++ None ∷ [])) (outcome_at (s.slots ++ None ∷ []))
drew_owned s t free is u lt none = let len : length (s.slots ++ None ∷ []) ≡ length s.slots + 1 = length-append s.slots (None ∷ []) in
    elim (cases_lt u (length s.slots)) [
      | inl old ↦ still_owned s (taken (v s) t) u (λ e. absurd cc) (s.law.owned u old (sym (λ k. slots_grown s.slots k u) ∙ none))
      | inr new ↦ let same : t ≡ u = omega arith in (s.me, (puts_each s.z View.drawn s.views s.me (taken (v s) t) s.inside).here ∙ ap (λ (k : ℕ). Some k) same)
    ]

-- another time than the one given up stays drawn
still_drawn : (d : Option ℕ) (t u : ℕ) → t ≢ u → d ≡ Some u → given_up d t ≡ Some u
still_drawn None t u ne e = e
still_drawn (Some y) t u ne e = by_test (λ b. cond b None (Some y) ≡ Some u) y t (λ same. absurd (ne (sym same ∙ (let is : y ≡ u = cc in is)))) (λ _. e)

pub owned_kept : (s : Setting) (step : Step) → Opens s step → AreOwned (each s.z View.drawn (V s step)) (length (S s step)) (outcome_at (S s step))
owned_kept s (Draw t) o = by_draw s (λ b vs. AreOwned (each s.z View.drawn vs) (length (cond b (s.slots ++ None ∷ []) s.slots))
    (outcome_at (cond b (s.slots ++ None ∷ []) s.slots))) t o.0 (drew_owned s t o.1)
    (λ u lt none. still_owned s (after_draw false (v s) t) u (λ e. e) (s.law.owned u lt none))
owned_kept s (Decide t deed) o = λ u lt none. still_owned s (w s (Decide t deed)) u
    (λ e. let same : t ≡ u = cc (o.0, e) in absurd (decide_settles s t deed o (subst (λ (k : ℕ). outcome_at (S s (Decide t deed)) k ≡ None) (sym same) none)))
    (s.law.owned u (by_bool (λ b. u < length (cond b (set s.slots t (write_by s.me deed)) s.slots) → u < length s.slots) (x s (Decide t deed) == 0)
    (λ _ lt. let len = length-set s.slots t (write_by s.me deed) in omega arith) (λ _ lt. lt) lt) (undecided_before s (Decide t deed) o u none))
owned_kept s (Cancel t) o = λ u lt none. still_owned s (w s (Cancel t)) u
    (still_drawn (v s).drawn t u (λ same. cancel_settles s t o (subst (λ (k : ℕ). outcome_at (S s (Cancel t)) k ≡ None) (sym same) none)))
    (s.law.owned u (by_bool (λ b. u < length (cond b (set s.slots t (Some Nothing)) s.slots) → u < length s.slots) (x s (Cancel t) == 0)
    (λ _ lt. let len = length-set s.slots t (Some Nothing) in omega arith) (λ _ lt. lt) lt) (undecided_before s (Cancel t) o u none))
owned_kept s (Look c) o = λ u lt none. still_owned s (w s (Look c)) u (λ e. (looked_leaves s.z (v s) c (x s (Look c))).1 ∙ e) (s.law.owned u lt none)
owned_kept s (Fill part y) o = λ u lt none. still_owned s (w s (Fill part y)) u (λ e. (filled_leaves (v s) part y).1 ∙ e) (s.law.owned u lt none)
owned_kept s step o = λ u lt none. still_owned s (w s step) u (λ e. e) (s.law.owned u lt none)

pub owned_merged : (g : Ground) (step : Step) → OpensTo g step → AreOwned (each g.z View.drawn g.views) (length (slots' g step)) (outcome_at (slots' g step))
owned_merged g ExtendClock o = λ u lt none. elim (cases_lt u (length g.slots)) [
  | inl old ↦ g.law.owned u old (sym (passed_before g.slots (epoch_end g.z g.merger) u old) ∙ none)
  | inr new ↦ let len = length_passed g o in let some = passed_behind g.slots (epoch_end g.z g.merger) u new (omega arith) in absurd (cc (some, none))
]
owned_merged g step o = g.law.owned

-- ---- and no more than one
fewer_alone : (s : Setting) (y : View) → Fewer s y → AreAlone (each s.z View.drawn (set s.views s.me y))
fewer_alone s y less i j t e f = s.law.alone i j t (had i e) (had j f)
  where
    had : (i : ℕ) → each s.z View.drawn (set s.views s.me y) i ≡ Some t → each s.z View.drawn s.views i ≡ Some t
    had = by_seat s y (λ i a. a.drawn ≡ Some t → each s.z View.drawn s.views i ≡ Some t) (less t) (λ i ne e. e)

-- the new time is below no clock yet, so no other seat has drawn it
pub drew_alone : (s : Setting) (t : ℕ) → length s.slots ≡ t → AreAlone (each s.z View.drawn (set s.views s.me (taken (v s) t)))
drew_alone s t is i j u e f = by_seat s (taken (v s) t) (λ i a. a.drawn ≡ Some u → i ≡ j)
    (λ e. by_seat s (taken (v s) t) (λ j b. b.drawn ≡ Some u → s.me ≡ j) (λ _. refl)
    (λ j ne f. let same : t ≡ u = cc in let lt = (s.law.pending j u f).1 in absurd (omega arith)) j f)
    (λ i ne e. by_seat s (taken (v s) t) (λ j b. b.drawn ≡ Some u → i ≡ j) (λ f. let same : t ≡ u = cc in let lt = (s.law.pending i u e).1 in
    absurd (omega arith)) (λ j ne f. s.law.alone i j u e f) j f) i e

pub alone_kept : (s : Setting) (step : Step) → Opens s step → AreAlone (each s.z View.drawn (V s step))
alone_kept s (Draw t) o = by_draw s (λ _ vs. AreAlone (each s.z View.drawn vs)) t o.0 (drew_alone s t) (fewer_alone s (after_draw false (v s) t) (λ u e. e))
alone_kept s step o = fewer_alone s (w s step) (fewer_after s step tt)

pub alone_merged : (g : Ground) (step : Step) → OpensTo g step → AreAlone (each g.z View.drawn g.views)
alone_merged g step o = g.law.alone

-- ---- a part that is filled equals the word
-- views with the same four fields have the same parts
same_parts : (u v : View) → u.key ≡ v.key → u.length ≡ v.length → u.words ≡ v.words → u.next ≡ v.next → (p : Part) → part_of u p ≡ part_of v p
same_parts u v key length words next Key = key
same_parts u v key length words next Length = length
same_parts u v key length words next (Value j) = ap (λ (l : List (Option ℕ)). get_or l j None) words
same_parts u v key length words next Next = next

-- no look changes a part
pub looked_parts : (z : Layout) (v : View) (word : Word) (y : ℕ) (p : Part) → part_of (looked z v word y) p ≡ part_of v p
looked_parts z v Lock y = same_parts (looked z v Lock y) v refl refl refl refl
looked_parts z v word y = same_parts (looked z v word y) v refl refl refl refl

-- no part is filled after a Draw that won
blank_at : (n j : ℕ) → get_or (blank n) j None ≡ None
blank_at zero j = refl
blank_at (suc n) zero = refl
blank_at (suc n) (suc j) = blank_at n j

-- so each part is none
drew_parts : (s : Setting) (t : ℕ) (p : Part) → part_of (taken (v s) t) p ≡ None
drew_parts s t Key = refl
drew_parts s t Length = refl
drew_parts s t (Value j) = blank_at 8 j
drew_parts s t Next = refl

-- a number found where one was set is that one
set_at : (l : List (Option ℕ)) (j y a : ℕ) → get_or (set l j (Some y)) j None ≡ Some a → y ≡ a
set_at [] j y a e = absurd cc
set_at (o ∷ l) zero y a e = cc
set_at (o ∷ l) (suc j) y a e = set_at l j y a e

-- a part that is filled after a Fill is the one of the Fill, or was filled before
abbrev pub IsFilledBy : View → Part → ℕ → Part → ℕ → Type 0
IsFilledBy v part y p a = ((p ≡ part) × (y ≡ a)) ⊎ ((p ≢ part) × (part_of v p ≡ Some a))

-- by cases of both parts
pub filled_parts : (v : View) (part : Part) (y : ℕ) (p : Part) (a : ℕ) → part_of (filled v part y) p ≡ Some a → IsFilledBy v part y p a
filled_parts v Key y Key a e = inl (refl, cc)
filled_parts v Length y Length a e = inl (refl, cc)
filled_parts v (Value j) y (Value i) a e = dite (ℕ_discrete i j)
    (λ (same : i ≡ j). inl (ap (λ (k : ℕ). Value k) same, set_at v.words j y a (subst (λ (k : ℕ). get_or (set v.words j (Some y)) k None ≡ Some a) same e)))
    (λ ne. inr ((λ q. ne cc), sym (get_or-set_other v.words j i (Some y) None ne) ∙ e))
filled_parts v Next y Next a e = inl (refl, cc)
filled_parts v part y p a e = inr ((λ q. absurd cc), e)

-- over the same words of cells and the same parts, with no more drawn
fewer_filled : (s : Setting) (y : View) (m : Memory) → Fewer s y → ((p : Part) → part_of y p ≡ part_of (v s) p)
    → ((c : ℕ) (p : Part) → m (Cell c p) ≡ s.memory (Cell c p)) → AreFilled s.z m (each s.z View.drawn (set s.views s.me y))
    (each s.z part_of (set s.views s.me y))
fewer_filled s y m less same words = by_seat s y (λ i a. (t b : ℕ) (p : Part) → a.drawn ≡ Some t → part_of a p ≡ Some b → m (Cell (cell_of s.z t) p) ≡ b)
    (λ t b p e f. words (cell_of s.z t) p ∙ s.law.filled s.me t b p (less t e) (sym (same p) ∙ f))
    (λ i ne t b p e f. words (cell_of s.z t) p ∙ s.law.filled i t b p e f)

-- after a Draw that won nothing is filled
pub drew_filled : (s : Setting) (t : ℕ) → AreFilled s.z s.memory (each s.z View.drawn (set s.views s.me (taken (v s) t)))
    (each s.z part_of (set s.views s.me (taken (v s) t)))
drew_filled s t = by_seat s (taken (v s) t) (λ i a. (u b : ℕ) (p : Part) → a.drawn ≡ Some u → part_of a p ≡ Some b → s.memory (Cell (cell_of s.z u) p) ≡ b)
    (λ u b p e f. absurd (cc (drew_parts s t p, f)))
    (λ i ne u b p e f. s.law.filled i u b p e f)

-- a Fill of a seat's own cell: the cells of the other seats' times are others
fill_filled : (s : Setting) (part : Part) (y : ℕ) → (v s).drawn ≡ Some (own s)
    → AreFilled s.z (M s (Fill part y)) (each s.z View.drawn (V s (Fill part y))) (each s.z part_of (V s (Fill part y)))
fill_filled s part y mine = by_seat s (w s (Fill part y)) (λ i a. (t b : ℕ) (p : Part) → a.drawn ≡ Some t → part_of a p ≡ Some b
    → M s (Fill part y) (Cell (cell_of s.z t) p) ≡ b)
    (λ t b p e f. let e' : (v s).drawn ≡ Some t = fewer_after s (Fill part y) tt t e in let at : own s ≡ t = cc in
    ⊎_elim (λ (hit : (p ≡ part) × (y ≡ b)). subst (λ (q : ℕ × Part). put s.memory (Cell (cell_of s.z (own s)) part) y (Cell (cell_of s.z q.0) q.1) ≡ b)
    (λ k. (at k, sym hit.0 k)) (put_here s.memory (Cell (cell_of s.z (own s)) part) y ∙ hit.1))
    (λ (miss : (p ≢ part) × (part_of (v s) p ≡ Some b)). put_other s.memory (Cell (cell_of s.z (own s)) part) (Cell (cell_of s.z t) p) y (λ q. miss.0 cc)
    ∙ s.law.filled s.me t b p e' miss.1)
    (filled_parts (v s) part y p b f))
    (λ i ne t b p e f. put_other s.memory (Cell (cell_of s.z (own s)) part) (Cell (cell_of s.z t) p) y
    (λ q. let cell : cell_of s.z t ≡ cell_of s.z (own s) = cc in let same : t ≡ own s = apart s.z _ t (own s) (drawn_live s.ground i t e)
    (drawn_live s.ground s.me (own s) mine) cell in ne (s.law.alone i s.me t e (mine ∙ ap (λ (k : ℕ). Some k) (sym same))))
    ∙ s.law.filled i t b p e f)

pub filled_kept : (s : Setting) (step : Step) → Opens s step → AreFilled s.z (M s step) (each s.z View.drawn (V s step)) (each s.z part_of (V s step))
filled_kept s (Draw t) o = by_draw s (λ _ vs. AreFilled s.z s.memory (each s.z View.drawn vs) (each s.z part_of vs)) t o.0 (λ _. drew_filled s t)
    (fewer_filled s (after_draw false (v s) t) s.memory (λ u e. e) (same_parts (after_draw false (v s) t) (v s) refl refl refl refl) (λ c p. refl))
filled_kept s (Fill part y) o = fill_filled s part y (own_drawn s o.0)
filled_kept s (Look c) o = fewer_filled s (w s (Look c)) (M s (Look c)) (fewer_after s (Look c) tt) (looked_parts s.z (v s) c (x s (Look c)))
    (λ d p. (λ k. looked_same s c k (Cell d p)))
filled_kept s step o = fewer_filled s (w s step) (M s step) (fewer_after s step tt) (same_parts (w s step) (v s) refl refl refl refl) (λ c p. refl)

pub filled_merged : (g : Ground) (step : Step) → OpensTo g step → AreFilled g.z (memory' g step) (each g.z View.drawn g.views) (each g.z part_of g.views)
filled_merged g (Look c) o = keep1 (λ (m : Memory). AreFilled g.z m (each g.z View.drawn g.views) (each g.z part_of g.views))
    (merger_looked_same g c) g.law.filled
filled_merged g (WriteRun word y) o = λ i t a p e f. run_other g.memory word (Cell (cell_of g.z t) p) y o.1 (λ h. h) ∙ g.law.filled i t a p e f
filled_merged g step o = g.law.filled
