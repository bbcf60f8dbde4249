-- How the clauses on what a seat noted of the limit and the clock are kept.
use Rattle.std.proofs.Common.{◌≡◌, ℕ, ◌≤◌, ◌≢◌, ◌==◌, Bool, true, false, cond, refl, arith, Option, Some, None}
use Rattle.clsm_law.specs.declared.word.Word.TheVariants.{Clock, Limit}
use Rattle.clsm_law.specs.declared.word.Part.TheVariants.{Key}
use Rattle.clsm_law.specs.declared.step.Step.{Step}
use Rattle.clsm_law.specs.declared.step.Step.TheVariants.{EnterShared, LeaveShared, EnterExclusive, LeaveExclusive, Draw, Fill, Commit, Pin, Unpin, Look}
use Rattle.clsm_law.specs.declared.step.Step.TheVariants.{WriteRun, ExtendLimit}
use Rattle.clsm_law.specs.declared.view.View.{View}
use Rattle.clsm_law.specs.declared.view.Mode.{Mode}
use Rattle.clsm_law.specs.declared.view.Mode.TheVariants.{Free, Shared, Exclusive}
use Rattle.clsm_law.specs.Memory.{Memory}
use Rattle.clsm_law.specs.Relation.{holds_lock}
use Rattle.clsm_law.specs.Law.{each, AreLimits, AreNotedBelow}
use Rattle.clsm_law.proofs.Frames.{keep1}
use Rattle.clsm_law.proofs.Setting.{Setting, v, x, w, M, V, Opens, Ground, memory', OpensTo, merger_looked_same, by_seat}
use Rattle.clsm_law.proofs.Lock.Kept.{not_both, held_free}
use Rattle.clsm_law.proofs.Clock.Kept.{limit_same, limit_same', clock_grows, clock_grows'}

-- ---- the limit of a hold

-- an entry that wins blots the note out, and one that loses leaves it
limit_entered : (s : Setting) (kind : Mode) (b : Bool) (k : ℕ) → cond b kind (v s).mode ≢ Free → cond b None (v s).hold_limit ≡ Some k → k ≡ s.memory Limit
limit_entered s kind true k m e = absurd cc
limit_entered s kind false k m e = s.law.limits s.me k m e

-- the seat's own limit after the step is the word
limit_after : (s : Setting) (step : Step) (k : ℕ) → (w s step).mode ≢ Free → (w s step).hold_limit ≡ Some k → k ≡ s.memory Limit
limit_after s (EnterShared l) = limit_entered s Shared (x s (EnterShared l) == l)
limit_after s EnterExclusive = limit_entered s Exclusive (x s EnterExclusive == 0)
limit_after s LeaveShared = λ k m e. absurd (m refl)
limit_after s LeaveExclusive = λ k m e. absurd (m refl)
limit_after s (Fill Key n) = s.law.limits s.me
limit_after s (Look Limit) = λ k m e. cc
limit_after s step = s.law.limits s.me

pub limits_kept : (s : Setting) (step : Step) → Opens s step → AreLimits (each s.z View.mode (V s step)) (each s.z View.hold_limit (V s step)) (M s step Limit)
limits_kept s step o = keep1 (AreLimits (each s.z View.mode (V s step)) (each s.z View.hold_limit (V s step))) (limit_same s step)
    (by_seat s (w s step) (λ i u. (k : ℕ) → u.mode ≢ Free → u.hold_limit ≡ Some k → k ≡ s.memory Limit) (limit_after s step) (λ i ne. s.law.limits i))

pub limits_merged : (g : Ground) (step : Step) → OpensTo g step
    → AreLimits (each g.z View.mode g.views) (each g.z View.hold_limit g.views) (memory' g step Limit)
limits_merged g ExtendLimit o = λ i k m e. absurd (not_both o.0 (held_free g i m))
limits_merged g (Look word) o = keep1 (λ (m : Memory). AreLimits (each g.z View.mode g.views) (each g.z View.hold_limit g.views) (m Limit))
    (merger_looked_same g word) g.law.limits
limits_merged g (WriteRun word n) o = keep1 (AreLimits (each g.z View.mode g.views) (each g.z View.hold_limit g.views)) (limit_same' g word n o) g.law.limits
limits_merged g step o = g.law.limits

-- ---- numbers of the clock

-- what the seat noted after the step is at most the clock, and what others noted
pub noted_by : (s : Setting) (step : Step) → Opens s step → (f : View → Option ℕ) → AreNotedBelow (each s.z f s.views) (s.memory Clock)
    → ((k : ℕ) → f (w s step) ≡ Some k → k ≤ s.memory Clock) → AreNotedBelow (each s.z f (V s step)) (M s step Clock)
noted_by s step o f h now = by_seat s (w s step) (λ i u. (k : ℕ) → f u ≡ Some k → k ≤ M s step Clock)
    (λ k e. let a = now k e in let b = clock_grows s step o in omega arith)
    (λ i ne k e. let a = h i k e in let b = clock_grows s step o in omega arith)

-- a step of the merger leaves all notes
pub noted_more : (g : Ground) (step : Step) → OpensTo g step → (f : View → Option ℕ) → AreNotedBelow (each g.z f g.views) (g.memory Clock)
    → AreNotedBelow (each g.z f g.views) (memory' g step Clock)
noted_more g step o f h i k e = let a = h i k e in let b = clock_grows' g step o in omega arith

-- a note that is blotted out, or the clock itself
blotted : (b : Bool) (n : Option ℕ) (bound : ℕ) → ((k : ℕ) → n ≡ Some k → k ≤ bound) → (k : ℕ) → cond b None n ≡ Some k → k ≤ bound
blotted true n bound h k e = absurd cc
blotted false n bound h k e = h k e

seen : (s : Setting) (b : Bool) (n : Option ℕ) → ((k : ℕ) → n ≡ Some k → k ≤ s.memory Clock) → (k : ℕ) → cond b (Some (s.memory Clock)) n ≡ Some k
    → k ≤ s.memory Clock
seen s true n h k e = let same : s.memory Clock ≡ k = cc in omega arith
seen s false n h k e = h k e

-- each note of the seat after the step
pub fresh_clock_after : (s : Setting) (step : Step) (k : ℕ) → (w s step).fresh_clock ≡ Some k → k ≤ s.memory Clock
fresh_clock_after s (EnterShared l) = blotted (x s (EnterShared l) == l) (v s).fresh_clock (s.memory Clock) (s.law.fresh_clocks s.me)
fresh_clock_after s EnterExclusive = blotted (x s EnterExclusive == 0) (v s).fresh_clock (s.memory Clock) (s.law.fresh_clocks s.me)
fresh_clock_after s LeaveShared = λ k e. absurd cc
fresh_clock_after s LeaveExclusive = λ k e. absurd cc
fresh_clock_after s (Commit members) = λ k e. absurd cc
fresh_clock_after s (Draw t) = λ k e. absurd cc
fresh_clock_after s (Fill Key n) = s.law.fresh_clocks s.me
fresh_clock_after s (Look Clock) = seen s true None (λ k e. absurd cc)
fresh_clock_after s step = s.law.fresh_clocks s.me

pub hold_clock_after : (s : Setting) (step : Step) (k : ℕ) → (w s step).hold_clock ≡ Some k → k ≤ s.memory Clock
hold_clock_after s (EnterShared l) = blotted (x s (EnterShared l) == l) (v s).hold_clock (s.memory Clock) (s.law.hold_clocks s.me)
hold_clock_after s EnterExclusive = blotted (x s EnterExclusive == 0) (v s).hold_clock (s.memory Clock) (s.law.hold_clocks s.me)
hold_clock_after s (Fill Key n) = s.law.hold_clocks s.me
hold_clock_after s (Look Clock) = seen s (holds_lock (v s)) (v s).hold_clock (s.law.hold_clocks s.me)
hold_clock_after s step = s.law.hold_clocks s.me

pub clock_after : (s : Setting) (step : Step) (k : ℕ) → (w s step).clock ≡ Some k → k ≤ s.memory Clock
clock_after s (Fill Key n) = s.law.clocks s.me
clock_after s (Look Clock) = seen s true None (λ k e. absurd cc)
clock_after s step = s.law.clocks s.me

pub pin_clock_after : (s : Setting) (step : Step) (k : ℕ) → (w s step).pin_clock ≡ Some k → k ≤ s.memory Clock
pin_clock_after s (Fill Key n) = s.law.pin_clocks s.me
pin_clock_after s Pin = λ k e. absurd cc
pin_clock_after s (Unpin end) = λ k e. absurd cc
pin_clock_after s (Look Clock) = seen s (v s).pinned (v s).pin_clock (s.law.pin_clocks s.me)
pin_clock_after s step = s.law.pin_clocks s.me
