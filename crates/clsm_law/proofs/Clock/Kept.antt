-- How the clauses on the clock, its limit and the number of merges are kept.
use Rattle.std.proofs.Common.{◌≡◌, ◌≢◌, ℕ, ◌+◌, ◌*◌, ◌<◌, ◌≤◌, ◌==◌, ◌||◌, ◌^◌, Bool, true, false, cond, List, [], ◌∷◌, ◌++◌, length, set, sum_by, sym}
use Rattle.std.proofs.Common.{refl, ap, ◌∙◌, subst, arith, ⊎_elim, Option, Some, None, is_some, length-append}
use prog.Atomic.{either}
use Rattle.std.proofs.lemmas.List.Sums.{sum_by-set}
use Rattle.clsm_model.specs.declared.record.Deed.{Deed}
use Rattle.clsm_model.specs.declared.record.Deed.TheVariants.{Put, Remove, Rmw}
use Rattle.clsm_model.specs.Right.{Member, write_by}
use Rattle.clsm_law.specs.declared.layout.Layout.{Layout}
use Rattle.clsm_law.specs.declared.word.Word.{Word}
use Rattle.clsm_law.specs.declared.word.Word.TheVariants.{Lock, Clock, Limit, Merged, Snap}
use Rattle.clsm_law.specs.declared.word.Part.{Part}
use Rattle.clsm_law.specs.declared.word.Part.TheVariants.{Key}
use Rattle.clsm_law.specs.declared.step.Step.{Step}
use Rattle.clsm_law.specs.declared.step.Step.TheVariants.{EnterShared, LeaveShared, EnterExclusive, LeaveExclusive, Draw, Fill, Decide, Cancel, Commit}
use Rattle.clsm_law.specs.declared.step.Step.TheVariants.{Look, WriteRun, ClearState, Publish, ExtendClock, ExtendLimit}
use Rattle.clsm_law.specs.declared.view.View.{View}
use Rattle.clsm_law.specs.declared.view.Mode.{Mode}
use Rattle.clsm_law.specs.declared.view.Mode.TheVariants.{Free, Shared, Exclusive}
use Rattle.clsm_law.specs.declared.merger.MergerView.{MergerView}
use Rattle.clsm_law.specs.declared.merger.Phase.{Phase}
use Rattle.clsm_law.specs.declared.merger.Phase.TheVariants.{Clean, Frozen, Retired}
use Rattle.clsm_law.specs.Memory.{Memory}
use Rattle.clsm_law.specs.Views.{IsBelow, SaysWrite, idle, is_exclusive, or_zero}
use Rattle.clsm_law.specs.Relation.{looked, filled, given_up, member_of}
use Rattle.clsm_law.specs.Merging.{is_frozen, is_retired, epoch_end, merger_looked}
use Rattle.clsm_law.specs.Law.{first_free, taken_by, AreAtMost, each}
use Rattle.clsm_law.specs.Worlds.{view_at}
use Rattle.clsm_law.proofs.Cases.{by_test, by_bool}
use Rattle.clsm_law.proofs.Setting.{Setting, v, x, w, M, V, S, Opens, looked_same, Ground, facts, found, merger', memory', slots', OpensTo, by_seat}
use Rattle.clsm_law.proofs.Setting.{merger_looked_same, merged_below_limit, clock_below, clock_shared, clock_merger}
use Rattle.clsm_law.proofs.Growth.{undecided_empty}
use Rattle.clsm_law.proofs.GrowthMerger.{clock_held, length_passed}
use Rattle.clsm_law.proofs.Decided.Kept.{run_other}
use Rattle.clsm_law.proofs.Lock.Kept.{decide_length, cancel_length}
use Rattle.clsm_law.proofs.Phases.{frozen_not_clean}

-- ---- words that a step leaves

-- no caller's step writes LIMIT or MERGED
pub limit_same : (s : Setting) (step : Step) → M s step Limit ≡ s.memory Limit
limit_same s (Look word) = ap (λ (m : Memory). m Limit) (looked_same s word)
limit_same s step = refl

pub merged_same : (s : Setting) (step : Step) → M s step Merged ≡ s.memory Merged
merged_same s (Look word) = ap (λ (m : Memory). m Merged) (looked_same s word)
merged_same s step = refl

-- what a look of the merger leaves
pub phase_looked : (z : Layout) (m : MergerView) (word : Word) (n : ℕ) → (merger_looked z m word n).phase ≡ m.phase
phase_looked z m (Snap i) n = refl
phase_looked z m word n = refl

pub merged_looked : (z : Layout) (m : MergerView) (word : Word) (n : ℕ) → (merger_looked z m word n).merged ≡ m.merged
merged_looked z m (Snap i) n = refl
merged_looked z m word n = refl

pub free_looked : (z : Layout) (m : MergerView) (word : Word) (n : ℕ) → first_free z (merger_looked z m word n) ≡ first_free z m
free_looked z m (Snap i) n = refl
free_looked z m word n = refl

-- ---- the clock

-- what a look and a fill leave of what is taken for a batch
taken_looked : (z : Layout) (y : View) (word : Word) (n : ℕ) → taken_by (looked z y word n) ≡ taken_by y
taken_looked z y Lock n = refl
taken_looked z y word n = refl

taken_filled : (y : View) (part : Part) (n : ℕ) → taken_by (filled y part n) ≡ taken_by y
taken_filled y Key n = refl
taken_filled y part n = refl

-- of a hold of another kind nothing is taken
abbrev takes_by : Mode → ℕ → ℕ
takes_by m n = cond (is_exclusive m) n 0

-- a deed that writes is one member
pub one_member : (y : View) (deed : Deed) → SaysWrite y (write_by 0 deed) → length (member_of deed) ≡ 1
one_member y (Put key written) says = refl
one_member y (Remove key) says = refl
one_member y (Rmw key old change) says = refl
one_member y deed says = absurd says

module _ (s : Setting) where
  -- the times taken after the step: those of the seat's old view are taken out and its new ones
  -- counted
  pub counted : (y : View) → sum_by taken_by (set s.views s.me y) + taken_by (v s) ≡ sum_by taken_by s.views + taken_by y
  counted y = sum_by-set taken_by s.views s.me y (idle s.z) s.inside

  -- a step that leaves the clock, the slots and what is taken
  clock_same : (y : View) → taken_by y ≡ taken_by (v s) → s.memory Clock + sum_by taken_by (set s.views s.me y) ≡ length s.slots
  clock_same y e = let a = counted y in let b = s.law.clock in omega arith

  -- who does not hold the lock exclusively has taken nothing
  taken_else : (y : View) (m : Mode) → y.mode ≡ m → is_exclusive m ≡ false → taken_by y ≡ 0
  taken_else y m e f = ap (λ (k : Mode). takes_by k (length y.staged + cond (is_some y.drawn) 1 0)) e
      ∙ ap (λ b. cond b (length y.staged + cond (is_some y.drawn) 1 0) 0) f

  -- an entry into the lock takes nothing yet
  pub free_staged : (v s).mode ≡ Free → (v s).staged ≡ []
  free_staged free = (s.law.staging s.me).shut (λ e. absurd cc)

  pub free_drawn : (v s).mode ≡ Free → (v s).drawn ≡ None
  free_drawn free = is (v s).drawn refl where
    is : (o : Option ℕ) → (v s).drawn ≡ o → (v s).drawn ≡ None
    is None e = e
    is (Some t) e = absurd (s.law.holding s.me t e free)

  taken_free : (m : Mode) → (v s).mode ≡ Free → takes_by m (length (v s).staged + cond (is_some (v s).drawn) 1 0) ≡ 0
  taken_free m free = subst (λ (n : ℕ). takes_by m n ≡ 0) (sym (rw (free_staged free, free_drawn free) refl)) (none m) where
    none : (m : Mode) → takes_by m 0 ≡ 0
    none Free = refl
    none Shared = refl
    none Exclusive = refl

  -- who holds the lock exclusively and writes no cell has taken those of the members
  pub taken_undrawn : (v s).mode ≡ Exclusive → (v s).drawn ≡ None → taken_by (v s) ≡ length (v s).staged
  taken_undrawn m d = ap (λ (k : Mode). takes_by k (length (v s).staged + cond (is_some (v s).drawn) 1 0)) m
      ∙ ap (λ (o : Option ℕ). length (v s).staged + cond (is_some o) 1 0) d ∙ zero_more (length (v s).staged) where
        zero_more : (n : ℕ) → n + 0 ≡ n
        zero_more n = omega arith

  -- the clock that a commit moves is the one that it looked at
  pub commits_at : (members : List Member) → Opens s (Commit members) → or_zero (v s).hold_clock ≡ s.memory Clock
  commits_at members o = (s.law.staging s.me).same o.0 o.2 (or_zero (v s).hold_clock) (is (v s).hold_clock o.3) where
    is : (o : Option ℕ) → o ≢ None → o ≡ Some (or_zero o)
    is None ne = absurd (ne refl)
    is (Some c) ne = refl

  -- the seat's own time in an exclusive hold is beyond the clock, and undecided
  pub alone_decides : (t : ℕ) (deed : Deed) → Opens s (Decide t deed) → (v s).mode ≡ Exclusive → x s (Decide t deed) ≡ 0
  alone_decides t deed o e = undecided_empty s t o.0 ((s.law.staging s.me).own e t o.0).1

  pub alone_keeps : (t : ℕ) → Opens s (Cancel t) → (v s).mode ≡ Exclusive → given_up (v s).drawn t ≡ (v s).drawn
  alone_keeps t o e = ⊎_elim (λ (own : ((v s).drawn ≡ Some t) × ((v s).mode ≡ Shared)). absurd (let shared = own.1 in cc))
      (λ h. stays (v s).drawn refl (until (v s).clock refl h.1)) o
    where
      until : (o : Option ℕ) → (v s).clock ≡ o → IsBelow t o → t < s.memory Clock
      until None e h = absurd h
      until (Some n) e h = let a = s.law.clocks s.me n e in omega arith

      stays : (d : Option ℕ) → (v s).drawn ≡ d → t < s.memory Clock → given_up d t ≡ d
      stays None d lt = refl
      stays (Some u) d lt = let own = ((s.law.staging s.me).own e u d).0 in
          by_test (λ b. cond b None (Some u) ≡ Some u) u t (λ same. absurd (omega arith)) (λ _. refl)

  taken_decided : (t : ℕ) (deed : Deed) → Opens s (Decide t deed) → (m : Mode) → (v s).mode ≡ m
      → takes_by m (length (cond (is_exclusive m) (cond (x s (Decide t deed) == 0) ((v s).staged ++ member_of deed) (v s).staged) (v s).staged) + 0)
      ≡ takes_by m (length (v s).staged + cond (is_some (v s).drawn) 1 0)
  taken_decided t deed o Free e = refl
  taken_decided t deed o Shared e = refl
  taken_decided t deed o Exclusive e = let won = alone_decides t deed o e in let one = one_member (v s) deed o.2 in let len =
      length-append (v s).staged (member_of deed) in
      rw (won, o.0) (omega arith)

  taken_cancelled : (t : ℕ) → Opens s (Cancel t) → (m : Mode) → (v s).mode ≡ m
      → takes_by m (length (v s).staged + cond (is_some (given_up (v s).drawn t)) 1 0) ≡ takes_by m (length (v s).staged + cond (is_some (v s).drawn) 1 0)
  taken_cancelled t o Free e = refl
  taken_cancelled t o Shared e = refl
  taken_cancelled t o Exclusive e = ap (λ (d : Option ℕ). length (v s).staged + cond (is_some d) 1 0) (alone_keeps t o e)

pub clock_kept : (s : Setting) (step : Step) → Opens s step → M s step Clock + sum_by taken_by (V s step) ≡ length (S s step)
clock_kept s (Draw t) o = let a = counted s (w s (Draw t)) in let old = taken_else s (v s) Shared o.0 refl in let new =
    taken_else s (w s (Draw t)) Shared o.0 refl in let same = s.law.clock in
    by_test (λ b. either b (t + 1) (s.memory Clock) + sum_by taken_by (V s (Draw t)) ≡ length (cond b (s.slots ++ None ∷ []) s.slots)) (x s (Draw t)) t
    (λ e. let l : length (s.slots ++ None ∷ []) ≡ length s.slots + 1 = length-append s.slots (None ∷ []) in omega arith) (λ _. omega arith)
clock_kept s (EnterShared l) o = clock_same s (w s (EnterShared l)) (taken_free s (cond (x s (EnterShared l) == l) Shared (v s).mode) o.0
    ∙ sym (taken_else s (v s) Free o.0 refl))
clock_kept s EnterExclusive o = clock_same s (w s EnterExclusive) (taken_free s (cond (x s EnterExclusive == 0) Exclusive (v s).mode) o
    ∙ sym (taken_else s (v s) Free o refl))
clock_kept s LeaveShared o = clock_same s (w s LeaveShared) (sym (taken_else s (v s) Shared o.0 refl))
clock_kept s LeaveExclusive o = clock_same s (w s LeaveExclusive) (sym (taken_undrawn s o.0 o.1 ∙ ap (λ (l : List Member). length l) o.2))
clock_kept s (Commit members) o = let a = counted s (w s (Commit members)) in let at = commits_at s members o in let old = taken_undrawn s o.0 o.1 in
    let len : length (v s).staged ≡ length members = ap (λ (l : List Member). length l) o.4 in
    let new : taken_by (w s (Commit members)) ≡ 0 = ap (λ (o : Option ℕ). takes_by (v s).mode (0 + cond (is_some o) 1 0)) o.1 ∙ none (v s).mode in let b =
    s.law.clock in omega arith
  where
    none : (m : Mode) → takes_by m 0 ≡ 0
    none Free = refl
    none Shared = refl
    none Exclusive = refl
clock_kept s (Decide t deed) o = let l = decide_length s t deed in let a = clock_same s (w s (Decide t deed)) (taken_decided s t deed o (v s).mode refl) in
    omega arith
clock_kept s (Cancel t) o = let l = cancel_length s t in let a = clock_same s (w s (Cancel t)) (taken_cancelled s t o (v s).mode refl) in omega arith
clock_kept s (Fill part n) o = clock_same s (w s (Fill part n)) (taken_filled (v s) part n)
clock_kept s (Look word) o = ap (λ (m : Memory). m Clock + sum_by taken_by (V s (Look word))) (looked_same s word)
    ∙ clock_same s (w s (Look word)) (taken_looked s.z (v s) word (x s (Look word)))
clock_kept s step o = clock_same s (w s step) refl

pub clock_merged : (g : Ground) (step : Step) → OpensTo g step → memory' g step Clock + sum_by taken_by g.views ≡ length (slots' g step)
clock_merged g ExtendClock o = let a = length_passed g o in let b = g.law.clock in let c = clock_merger g o.0 in omega arith
clock_merged g (Look word) o = ap (λ (m : Memory). m Clock + sum_by taken_by g.views) (merger_looked_same g word) ∙ g.law.clock
clock_merged g (WriteRun word n) o = ap (λ (k : ℕ). k + sum_by taken_by g.views) (run_other g.memory word Clock n o.1 (λ r. r)) ∙ g.law.clock
clock_merged g step o = g.law.clock

-- the clock never falls
pub clock_grows : (s : Setting) (step : Step) → Opens s step → s.memory Clock ≤ M s step Clock
clock_grows s (Draw t) o = by_test (λ b. s.memory Clock ≤ either b (t + 1) (s.memory Clock)) (x s (Draw t)) t (λ e. omega arith) (λ _. omega arith)
clock_grows s (Commit members) o = let at = commits_at s members o in omega arith
clock_grows s (Look word) o = let a = ap (λ (m : Memory). m Clock) (looked_same s word) in omega arith
clock_grows s step o = omega arith

-- a time of each seat's that is not beyond the clock stays so, if that of the seat that made the
-- step does
pub below_clock : (s : Setting) (step : Step) → Opens s step → (f : View → ℕ) → AreAtMost (each s.z f s.views) (s.memory Clock) → f (w s step) ≤ M s step Clock
    → AreAtMost (each s.z f (V s step)) (M s step Clock)
below_clock s step o f was own = by_seat s (w s step) (λ i u. f u ≤ M s step Clock) own
    (λ i ne. let a = clock_grows s step o in let b : f (view_at s.z s.views i) ≤ s.memory Clock = was i in omega arith)

pub clock_grows' : (g : Ground) (step : Step) → OpensTo g step → g.memory Clock ≤ memory' g step Clock
clock_grows' g ExtendClock o = let a = clock_below g in let b = clock_held g o.0 in omega arith
clock_grows' g (Look word) o = let a = ap (λ (m : Memory). m Clock) (merger_looked_same g word) in omega arith
clock_grows' g (WriteRun word n) o = let a = run_other g.memory word Clock n o.1 (λ r. r) in omega arith
clock_grows' g step o = omega arith

-- and under a step of the merger it stays so
pub below_clock' : (g : Ground) (step : Step) → OpensTo g step → (f : View → ℕ) → AreAtMost (each g.z f g.views) (g.memory Clock)
    → AreAtMost (each g.z f g.views) (memory' g step Clock)
below_clock' g step o f was i = let a = clock_grows' g step o in let b : f (view_at g.z g.views i) ≤ g.memory Clock = was i in omega arith

-- ---- the limit

pub limit_kept : (s : Setting) (step : Step) → Opens s step → M s step Limit ≡ first_free s.z s.merger
limit_kept s step o = limit_same s step ∙ s.law.limit

-- the first time that may not be drawn, by the phase and by whether the limit is extended
module _ (n merged : ℕ) where
  abbrev free : Phase → Bool → ℕ
  free p extended = cond (is_frozen p || extended) ((merged + 2) * n) ((merged + 1) * n)

  -- where the merger leaves the lock its view says the same of the limit, now by the phase
  free_leaves : (p : Phase) (extended : Bool) → free p extended ≡ free (cond extended Frozen p) false
  free_leaves Clean true = refl
  free_leaves Frozen true = refl
  free_leaves Retired true = refl
  free_leaves Clean false = refl
  free_leaves Frozen false = refl
  free_leaves Retired false = refl

  -- the end of a cleaning leaves it
  free_clears : (p : Phase) (extended last : Bool) → is_retired p ≡ true → free p extended ≡ free (cond last Clean p) extended
  free_clears Clean extended last e = absurd cc
  free_clears Frozen extended last e = absurd cc
  free_clears Retired extended true e = refl
  free_clears Retired extended false e = refl

  -- a frozen epoch moves it an epoch on
  free_frozen : (p : Phase) (extended : Bool) → is_frozen p ≡ true → free p extended ≡ (merged + 2) * n
  free_frozen Clean extended e = absurd cc
  free_frozen Frozen extended e = refl
  free_frozen Retired extended e = absurd cc

  -- and so does the step that extends the limit
  free_extended : (p : Phase) → free p true ≡ (merged + 2) * n
  free_extended Clean = refl
  free_extended Frozen = refl
  free_extended Retired = refl

-- while an epoch is frozen its times are drawn, and the next epoch's may be
pub frozen_limit : (g : Ground) → is_frozen g.merger.phase ≡ true → g.memory Limit ≡ (g.merger.merged + 2) * g.z.cells
frozen_limit g e = g.law.limit ∙ free_frozen g.z.cells g.merger.merged g.merger.phase g.merger.limit_extended e

-- so the clock is at or above the end of the frozen epoch
pub frozen_clock : (g : Ground) → is_frozen g.merger.phase ≡ true → epoch_end g.z g.merger ≤ g.memory Clock
frozen_clock g e = let a = frozen_limit g e in let b = g.law.current in omega arith

-- the limit is not extended but in a hold
frozen_not_extended : (g : Ground) → is_frozen g.merger.phase ≡ true → g.merger.limit_extended ≡ false
frozen_not_extended g e = by_bool (λ b. g.merger.limit_extended ≡ b → b ≡ false) g.merger.limit_extended
    (λ _ f. let h = g.law.merger in absurd (frozen_not_clean g.merger.phase e (h.clean (h.extends (h.limit_after f))))) (λ _ _. refl) refl

pub limit_merged : (g : Ground) (step : Step) → OpensTo g step → memory' g step Limit ≡ first_free g.z (merger' g step)
limit_merged g LeaveExclusive o = g.law.limit ∙ free_leaves g.z.cells g.merger.merged g.merger.phase g.merger.limit_extended
limit_merged g (Look word) o = ap (λ (m : Memory). m Limit) (merger_looked_same g word) ∙ g.law.limit
    ∙ sym (free_looked g.z g.merger word (found g (Look word)))
limit_merged g (WriteRun word n) o = run_other g.memory word Limit n o.1 (λ r. r) ∙ g.law.limit
limit_merged g (ClearState cell) o = g.law.limit ∙ free_clears g.z.cells g.merger.merged g.merger.phase g.merger.limit_extended ((facts g).last cell) o.0
limit_merged g Publish o = let a = frozen_limit g o.0 in let b = frozen_not_extended g o.0 in rw b (omega arith)
limit_merged g ExtendLimit o = sym (free_extended g.z.cells g.merger.merged g.merger.phase)
limit_merged g step o = g.law.limit

-- ---- the times of the merges are drawn

pub begun_kept : (s : Setting) (step : Step) → Opens s step → s.merger.merged * s.z.cells ≤ M s step Clock
begun_kept s step o = let a = s.law.begun in let b = clock_grows s step o in omega arith

pub begun_merged : (g : Ground) (step : Step) → OpensTo g step → (merger' g step).merged * g.z.cells ≤ memory' g step Clock
begun_merged g Publish o = frozen_clock g o.0
begun_merged g (Look word) o = let a = ap (λ (k : ℕ). k * g.z.cells) (merged_looked g.z g.merger word (found g (Look word))) in let b =
    clock_grows' g (Look word) o in let c = g.law.begun in omega arith
begun_merged g (WriteRun word n) o = let a = g.law.begun in let b = clock_grows' g (WriteRun word n) o in omega arith
begun_merged g ExtendClock o = let a = g.law.begun in let b = clock_grows' g ExtendClock o in omega arith
begun_merged g step o = g.law.begun

-- ---- the clock is at most the limit

-- a time below the limit noted in a hold is below LIMIT, which does not change in this hold
pub below_limit : (s : Setting) (t : ℕ) → (v s).mode ≢ Free → IsBelow t (v s).hold_limit → t < s.memory Limit
below_limit s t holds = below (v s).hold_limit refl
  where
    below : (n : Option ℕ) → (v s).hold_limit ≡ n → IsBelow t n → t < s.memory Limit
    below None e lt = absurd lt
    below (Some n) e lt = let a = s.law.limits s.me n holds e in omega arith

pub bounded_kept : (s : Setting) (step : Step) → Opens s step → length (S s step) ≤ M s step Limit
bounded_kept s (Draw t) o = by_test (λ b. length (cond b (s.slots ++ None ∷ []) s.slots) ≤ s.memory Limit) (x s (Draw t)) t
    (λ e. let same = clock_shared s.ground s.me o.0 in let l : length (s.slots ++ None ∷ []) ≡ length s.slots + 1 = length-append s.slots (None ∷ []) in
    let lt = below_limit s t (λ free. absurd (let shared = o.0 in cc)) o.3 in omega arith) (λ _. s.law.bounded)
bounded_kept s (Decide t deed) o = let a = decide_length s t deed in let b = s.law.bounded in omega arith
bounded_kept s (Cancel t) o = let a = cancel_length s t in let b = s.law.bounded in omega arith
bounded_kept s (Look word) o = let a = limit_same s (Look word) in let b = s.law.bounded in omega arith
bounded_kept s step o = s.law.bounded

-- a step that is no extension leaves the limit
pub limit_same' : (g : Ground) (word : Word) (n : ℕ) → OpensTo g (WriteRun word n) → memory' g (WriteRun word n) Limit ≡ g.memory Limit
limit_same' g word n o = run_other g.memory word Limit n o.1 (λ r. r)

pub bounded_merged : (g : Ground) (step : Step) → OpensTo g step → length (slots' g step) ≤ memory' g step Limit
bounded_merged g ExtendClock o = let a = length_passed g o in let b = merged_below_limit g in omega arith
bounded_merged g ExtendLimit o = let a = g.law.merger.at_end o.1 in omega arith
bounded_merged g (Look word) o = let a = ap (λ (m : Memory). m Limit) (merger_looked_same g word) in let b = g.law.bounded in omega arith
bounded_merged g (WriteRun word n) o = let a = limit_same' g word n o in let b = g.law.bounded in omega arith
bounded_merged g step o = g.law.bounded

-- ---- the limit is at most an epoch ahead of the clock

pub current_kept : (s : Setting) (step : Step) → Opens s step → M s step Limit ≤ M s step Clock + s.z.cells
current_kept s step o = let a = limit_same s step in let b = clock_grows s step o in let c = s.law.current in omega arith

pub current_merged : (g : Ground) (step : Step) → OpensTo g step → memory' g step Limit ≤ memory' g step Clock + g.z.cells
current_merged g ExtendClock o = let a = clock_grows' g ExtendClock o in let b = g.law.current in omega arith
current_merged g ExtendLimit o = let a = g.law.merger.at_end o.1 in let b = clock_merger g o.0 in omega arith
current_merged g (Look word) o = let a = ap (λ (m : Memory). m Limit) (merger_looked_same g word) in let c = clock_grows' g (Look word) o in let b =
    g.law.current in omega arith
current_merged g (WriteRun word n) o = let a = limit_same' g word n o in let c = clock_grows' g (WriteRun word n) o in let b = g.law.current in omega arith
current_merged g step o = g.law.current

-- ---- the limit is at most 2^62

pub top_kept : (s : Setting) (step : Step) → Opens s step → M s step Limit ≤ 2 ^ 62
top_kept s step o = let a = limit_same s step in let b = s.law.top in omega arith

pub top_merged : (g : Ground) (step : Step) → OpensTo g step → memory' g step Limit ≤ 2 ^ 62
top_merged g ExtendLimit o = o.2
top_merged g (Look word) o = let a = ap (λ (m : Memory). m Limit) (merger_looked_same g word) in let b = g.law.top in omega arith
top_merged g (WriteRun word n) o = let a = limit_same' g word n o in let b = g.law.top in omega arith
top_merged g step o = g.law.top

-- ---- the number of merges

pub merged_kept : (s : Setting) (step : Step) → Opens s step → M s step Merged ≡ s.merger.merged
merged_kept s step o = merged_same s step ∙ s.law.merged

pub merged_merged : (g : Ground) (step : Step) → OpensTo g step → memory' g step Merged ≡ (merger' g step).merged
merged_merged g (Look word) o = ap (λ (m : Memory). m Merged) (merger_looked_same g word) ∙ g.law.merged
    ∙ sym (merged_looked g.z g.merger word (found g (Look word)))
merged_merged g (WriteRun word n) o = run_other g.memory word Merged n o.1 (λ r. r) ∙ g.law.merged
merged_merged g Publish o = refl
merged_merged g step o = g.law.merged
