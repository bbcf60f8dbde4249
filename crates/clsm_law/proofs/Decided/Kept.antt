-- How the clauses on decided times are kept: times below FRONT, below the merges, and below what a
-- seat reached and RaiseFront told.
use Rattle.std.proofs.Common.{◌≡◌, ◌≢◌, ℕ, ◌+◌, ◌*◌, ◌<◌, ◌≤◌, ◌==◌, ◌&&◌, not, nat_lt, nat_le, true, cond, List, length, set, max, sym, refl, ap, ◌∙◌}
use Rattle.std.proofs.Common.{subst, arith, inl, inr, Option, Some, None}
use Rattle.std.proofs.lemmas.Bool.{cases_lt, and_parts, ltb-true, leb-true, eqb-true, eqb-false, not-true}
use Rattle.clsm_model.specs.declared.slot.Slot.{Slot}
use Rattle.clsm_model.specs.declared.slot.Slot.TheVariants.{Nothing, Wrote}
use Rattle.clsm_model.specs.declared.slot.Change.TheVariants.{Keep, Set, Remove as Erase}
use Rattle.clsm_model.specs.declared.record.Deed.{Deed}
use Rattle.clsm_model.specs.declared.record.Deed.TheVariants.{Put, Remove, Rmw}
use Rattle.clsm_model.specs.Right.{write_by}
use Rattle.clsm_law.specs.declared.layout.Layout.{Layout}
use Rattle.clsm_law.specs.declared.word.Word.{Word}
use Rattle.clsm_law.specs.declared.word.Word.TheVariants.{Limit, Front, Merged, Pin as PinOf, Snap, State}
use Rattle.clsm_law.specs.declared.word.Part.{Part}
use Rattle.clsm_law.specs.declared.word.Part.TheVariants.{Key}
use Rattle.clsm_law.specs.declared.step.Step.{Step}
use Rattle.clsm_law.specs.declared.step.Step.TheVariants.{Fill, Decide, Cancel, Look, RaiseFront, WriteRun, Publish}
use Rattle.clsm_law.specs.declared.view.View.{View}
use Rattle.clsm_law.specs.declared.merger.MergerView.{MergerView}
use Rattle.clsm_law.specs.Memory.{Memory, cell_of, put}
use Rattle.clsm_law.specs.Views.{SaysWrite, is_below}
use Rattle.clsm_law.specs.Relation.{is_seen, is_seen_of, takes_hold, filled, reached_after, reached_by_state}
use Rattle.clsm_law.specs.Merging.{is_frozen, IsRunWord, merger_looked}
use Rattle.clsm_law.specs.Worlds.{outcome_at}
use Rattle.clsm_law.specs.Law.{each, IsDecidedBelow, AreDecidedBelow, first_shown}
use Rattle.clsm_law.proofs.Cases.{by_test, by_bool}
use Rattle.clsm_law.proofs.Frames.{keep1, puts_slot, put_other, some_of, looked_leaves, filled_leaves}
use Rattle.clsm_law.proofs.Setting.{Setting, Ground, v, x, w, M, V, S, Opens, OpensTo, found, memory', merger', slots', looked_same, by_seat}
use Rattle.clsm_law.proofs.Setting.{merger_looked_same, decided, drawn_shown, held_shown, shown_below_merged, clock_below}
use Rattle.clsm_law.proofs.Growth.{cancels_shown, slots_stay}
use Rattle.clsm_law.proofs.GrowthMerger.{slots_stay'}

-- ---- what is decided stays decided
-- under a caller's step
pub decided_stay : (s : Setting) (step : Step) → Opens s step → (t : ℕ) → outcome_at s.slots t ≢ None → outcome_at (S s step) t ≢ None
decided_stay s step o t ne e = let b = some_of (outcome_at s.slots t) ne in absurd (cc (e, slots_stay s step o t b.0 b.1))

-- and under the merger's
pub decided_stay' : (g : Ground) (step : Step) → OpensTo g step → (t : ℕ) → outcome_at g.slots t ≢ None → outcome_at (slots' g step) t ≢ None
decided_stay' g step o t ne e = let b = some_of (outcome_at g.slots t) ne in absurd (cc (e, slots_stay' g step o t b.0 b.1))

-- a write of a run leaves the other words
pub run_other : (memory : Memory) (word v : Word) (y : ℕ) → IsRunWord word → ¬ IsRunWord v → put memory word y v ≡ memory v
run_other memory word v y run other = put_other memory word v y (λ e. other (subst IsRunWord (sym e) run))

-- ---- FRONT
pub front_kept : (s : Setting) (step : Step) → Opens s step → IsDecidedBelow (outcome_at (S s step)) (M s step Front)
front_kept s (RaiseFront t) o = λ u lt. elim (cases_lt u (s.memory Front)) [
  | inl old ↦ s.law.front u old
  | inr le ↦ s.law.reached s.me u (let a = o.0 in omega arith)
]
front_kept s (Look c) o = keep1 (λ (m : Memory). IsDecidedBelow (outcome_at s.slots) (m Front)) (looked_same s c) s.law.front
front_kept s step o = λ u lt. decided_stay s step o u (s.law.front u lt)

pub front_merged : (g : Ground) (step : Step) → OpensTo g step → IsDecidedBelow (outcome_at (slots' g step)) (memory' g step Front)
front_merged g (Look c) o = keep1 (λ (m : Memory). IsDecidedBelow (outcome_at g.slots) (m Front)) (merger_looked_same g c) g.law.front
front_merged g (WriteRun word y) o = keep1 (IsDecidedBelow (outcome_at g.slots)) (run_other g.memory word Front y o.1 (λ h. h)) g.law.front
front_merged g step o = λ u lt. decided_stay' g step o u (g.law.front u lt)

-- ---- the times of the merges
pub merged_decided_kept : (s : Setting) (step : Step) → Opens s step → IsDecidedBelow (outcome_at (S s step)) (s.merger.merged * s.z.cells)
merged_decided_kept s step o u lt = decided_stay s step o u (s.law.merged_decided u lt)

-- no look changes the number of merges
looked_merged : (z : Layout) (m : MergerView) (word : Word) (y : ℕ) → (merger_looked z m word y).merged ≡ m.merged
looked_merged z m (Snap i) y = refl
looked_merged z m (PinOf i) y = refl
looked_merged z m word y = refl

-- the epoch that a merge takes up is decided: a time of it that is not would be drawn, and drawn
-- times are of the epoch behind
pub frozen_decided : (g : Ground) → is_frozen g.merger.phase ≡ true → IsDecidedBelow (outcome_at g.slots) ((g.merger.merged + 1) * g.z.cells)
frozen_decided g frozen t lt none =
    let limit : g.memory Limit ≡ (g.merger.merged + 2) * g.z.cells = g.law.limit ∙ rw frozen refl in
    let current = g.law.current in let below = clock_below g in
    let i = g.law.owned t (omega arith) none in
    let p = (g.law.pending i.0 t i.1).0 in absurd (omega arith)

pub merged_decided_merged : (g : Ground) (step : Step) → OpensTo g step → IsDecidedBelow (outcome_at (slots' g step)) ((merger' g step).merged * g.z.cells)
merged_decided_merged g (Look c) o = keep1 (λ (n : ℕ). IsDecidedBelow (outcome_at g.slots) (n * g.z.cells))
    (looked_merged g.z g.merger c (found g (Look c))) g.law.merged_decided
merged_decided_merged g Publish o = frozen_decided g o.0
merged_decided_merged g step o = λ u lt. decided_stay' g step o u (g.law.merged_decided u lt)

-- ---- a bound of each seat
module _ (s : Setting) (step : Step) (o : Opens s step) (bound : View → ℕ) (h : AreDecidedBelow (outcome_at s.slots) (each s.z bound s.views)) where
  -- the seat's own bound after the step is the one thing to be seen
  by_own : ((t : ℕ) → t < bound (w s step) → outcome_at (S s step) t ≢ None) → AreDecidedBelow (outcome_at (S s step)) (each s.z bound (V s step))
  by_own own = by_seat s (w s step) (λ i u. (t : ℕ) → t < bound u → outcome_at (S s step) t ≢ None) own
      (λ i ne t lt. decided_stay s step o t (h i t lt))

  same_own : bound (w s step) ≡ bound (v s) → AreDecidedBelow (outcome_at (S s step)) (each s.z bound (V s step))
  same_own e = by_own (λ t lt. decided_stay s step o t (h s.me t (omega arith)))

pub past_kept : (s : Setting) (step : Step) → Opens s step → AreDecidedBelow (outcome_at (S s step)) (each s.z View.past (V s step))
past_kept s (RaiseFront t) o = by_own s (RaiseFront t) o View.past s.law.past (λ u lt. elim (cases_lt u (v s).past) [
  | inl old ↦ s.law.past s.me u old
  | inr le ↦ s.law.reached s.me u (let a = o.0 in omega arith)
])
past_kept s (Look c) o = same_own s (Look c) o View.past s.law.past (looked_leaves s.z (v s) c (x s (Look c))).2
past_kept s (Fill part y) o = same_own s (Fill part y) o View.past s.law.past (filled_leaves (v s) part y).2
past_kept s step o = same_own s step o View.past s.law.past refl

pub past_merged : (g : Ground) (step : Step) → OpensTo g step → AreDecidedBelow (outcome_at (slots' g step)) (each g.z View.past g.views)
past_merged g step o i u lt = decided_stay' g step o u (g.law.past i u lt)

-- ---- how far a seat reached
-- no Fill changes how far a seat reached
filled_reached : (v : View) (part : Part) (y : ℕ) → (filled v part y).reached ≡ v.reached
filled_reached v Key y = refl
filled_reached v part y = refl

-- a time of the held component, below a clock looked at, is shown
module _ (s : Setting) (t : ℕ) where
  below_clock : (c : Option ℕ) → (v s).clock ≡ c → is_below t c ≡ true → t < length s.slots
  below_clock None e below = absurd cc
  below_clock (Some n) e below = let a = s.law.clocks s.me n e in let c = clock_below s.ground in let b = ltb-true t n below in omega arith

  of_held : (h : Option ℕ) → (v s).held ≡ h → is_seen_of s.z h (v s).clock t ≡ true → (first_shown s.z s.merger ≤ t) × (t < length s.slots)
  of_held None e seen = absurd cc
  of_held (Some m) e seen =
      let both = and_parts (nat_le (m * s.z.cells) t && nat_lt t ((m + 2) * s.z.cells)) (is_below t (v s).clock) seen in
      let a = leb-true (m * s.z.cells) t (and_parts (nat_le (m * s.z.cells) t) (nat_lt t ((m + 2) * s.z.cells)) both.0).0 in
      let b = held_shown s.ground s.me m s.inside e in
      (omega arith, below_clock (v s).clock refl both.1)

  pub seen_shown : is_seen s.z (v s) t ≡ true → (first_shown s.z s.merger ≤ t) × (t < length s.slots)
  seen_shown = of_held (v s).held refl

-- a seat reaches past the time t where it had come to t, which is decided by then
reached_past : (s : Setting) (t : ℕ) (slots : List (Option Slot)) → ((u : ℕ) → outcome_at s.slots u ≢ None → outcome_at slots u ≢ None)
    → (is_seen s.z (v s) t ≡ true → outcome_at slots t ≢ None) → (u : ℕ) → u < reached_after s.z (v s) t → outcome_at slots u ≢ None
reached_past s t slots stay here u lt = by_bool (λ b. (t == (v s).reached && is_seen s.z (v s) t) ≡ b → u < cond b ((v s).reached + 1) (v s).reached
    → outcome_at slots u ≢ None) (t == (v s).reached && is_seen s.z (v s) t)
    (λ _ e lt. let both = and_parts (t == (v s).reached) (is_seen s.z (v s) t) e in let is : t ≡ (v s).reached = eqb-true t (v s).reached both.0 in
    elim (cases_lt u (v s).reached) [
      | inl old ↦ stay u (s.law.reached s.me u old)
      | inr le ↦ let same : t ≡ u = omega arith in subst (λ (k : ℕ). outcome_at slots k ≢ None) same (here both.1)
    ])
    (λ _ _ lt. stay u (s.law.reached s.me u lt)) refl lt

-- who decides a time knows that it is a write
pub says_write : (y : View) (deed : Deed) (i : ℕ) → SaysWrite y (write_by 0 deed) → (key : ℕ) × (written : Option (List ℕ))
    × (write_by 0 deed ≡ Some (Wrote 0 key written)) × (write_by i deed ≡ Some (Wrote i key written))
says_write y (Put key written) i says = (key, Some written, refl, refl)
says_write y (Remove key) i says = (key, None, refl, refl)
says_write y (Rmw key old Keep) i says = absurd says
says_write y (Rmw key old (Set written)) i says = (key, Some written, refl, refl)
says_write y (Rmw key old Erase) i says = (key, None, refl, refl)
says_write y deed i says = absurd says

-- after a Decide or a Cancel, won or lost, the time is decided
pub decide_settles : (s : Setting) (t : ℕ) (deed : Deed) → Opens s (Decide t deed) → outcome_at (S s (Decide t deed)) t ≢ None
decide_settles s t deed o = let p = drawn_shown s.ground s.me t o.0 in
    by_test (λ b. outcome_at (cond b (set s.slots t (write_by s.me deed)) s.slots) t ≢ None) (x s (Decide t deed)) 0
    (λ _ e. let write = says_write (v s) deed s.me o.2 in let here = (puts_slot s.slots t (write_by s.me deed) p.1).here in absurd (cc (write.3, here, e)))
    (λ ne. decided s.ground t (let a = shown_below_merged s.ground in let b = p.0 in omega arith) p.1 ne)

-- of a Cancel, whoever drew the time
pub cancel_settles : (s : Setting) (t : ℕ) → Opens s (Cancel t) → outcome_at (S s (Cancel t)) t ≢ None
cancel_settles s t o = let p = cancels_shown s t o in by_test (λ b. outcome_at (cond b (set s.slots t (Some Nothing)) s.slots) t ≢ None) (x s (Cancel t)) 0
    (λ _ e. let here = (puts_slot s.slots t (Some Nothing) p.1).here in absurd (cc (here, e)))
    (λ ne. decided s.ground t p.0 p.1 ne)

-- a look at a state that is not 0
state_reached : (s : Setting) (cell u : ℕ) → u < reached_by_state s.z (v s) cell (s.memory (State cell)) → outcome_at s.slots u ≢ None
state_reached s cell u lt = by_bool (λ b. (not (s.memory (State cell) == 0) && cell == cell_of s.z (v s).reached) ≡ b
    → u < cond b (reached_after s.z (v s) (v s).reached) (v s).reached → outcome_at s.slots u ≢ None)
    (not (s.memory (State cell) == 0) && cell == cell_of s.z (v s).reached)
    (λ _ e. let both = and_parts (not (s.memory (State cell) == 0)) (cell == cell_of s.z (v s).reached) e in
    let own : cell ≡ cell_of s.z (v s).reached = eqb-true cell (cell_of s.z (v s).reached) both.1 in
    let some : s.memory (State cell) ≢ 0 = eqb-false (s.memory (State cell)) 0 (not-true (s.memory (State cell) == 0) both.0) in
    reached_past s (v s).reached s.slots (λ u ne. ne)
    (λ seen. let p = seen_shown s (v s).reached seen in decided s.ground (v s).reached p.0 p.1 (subst (λ (c : ℕ). s.memory (State c) ≢ 0) own some)) u)
    (λ _ _ lt. s.law.reached s.me u lt) refl lt

-- the first look at MERGED under a pin
merged_reached : (s : Setting) (u : ℕ) → u < cond (takes_hold (v s)) (max (v s).reached (s.memory Merged * s.z.cells)) (v s).reached
    → outcome_at s.slots u ≢ None
merged_reached s u = let e : s.memory Merged * s.z.cells ≡ s.merger.merged * s.z.cells = ap (λ (n : ℕ). n * s.z.cells) s.law.merged in
    by_bool (λ b. u < cond b (max (v s).reached (s.memory Merged * s.z.cells)) (v s).reached → outcome_at s.slots u ≢ None) (takes_hold (v s))
    (λ _ lt. elim (cases_lt u (v s).reached) [
      | inl old ↦ s.law.reached s.me u old
      | inr le ↦ s.law.merged_decided u (omega arith)
    ])
    (λ _ lt. s.law.reached s.me u lt)

-- a look at FRONT
front_reached : (s : Setting) (u : ℕ) → u < max (v s).reached (s.memory Front) → outcome_at s.slots u ≢ None
front_reached s u lt = elim (cases_lt u (v s).reached) [
  | inl old ↦ s.law.reached s.me u old
  | inr le ↦ s.law.front u (omega arith)
]

pub reached_kept : (s : Setting) (step : Step) → Opens s step → AreDecidedBelow (outcome_at (S s step)) (each s.z View.reached (V s step))
reached_kept s (Look Front) o = by_own s (Look Front) o View.reached s.law.reached (front_reached s)
reached_kept s (Look Merged) o = by_own s (Look Merged) o View.reached s.law.reached (merged_reached s)
reached_kept s (Look (State cell)) o = by_own s (Look (State cell)) o View.reached s.law.reached (state_reached s cell)
reached_kept s (Look c) o = same_own s (Look c) o View.reached s.law.reached refl
reached_kept s (Decide t deed) o = by_own s (Decide t deed) o View.reached s.law.reached
    (reached_past s t (S s (Decide t deed)) (decided_stay s (Decide t deed) o) (λ _. decide_settles s t deed o))
reached_kept s (Cancel t) o = by_own s (Cancel t) o View.reached s.law.reached
    (reached_past s t (S s (Cancel t)) (decided_stay s (Cancel t) o) (λ _. cancel_settles s t o))
reached_kept s (Fill part y) o = same_own s (Fill part y) o View.reached s.law.reached (filled_reached (v s) part y)
reached_kept s step o = same_own s step o View.reached s.law.reached refl

pub reached_merged : (g : Ground) (step : Step) → OpensTo g step → AreDecidedBelow (outcome_at (slots' g step)) (each g.z View.reached g.views)
reached_merged g step o i u lt = decided_stay' g step o u (g.law.reached i u lt)
