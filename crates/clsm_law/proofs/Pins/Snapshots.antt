-- How the clauses on snapshots, on the merger's round of looks at them and on the floors are kept.
use Rattle.std.proofs.Common.{◌≡◌, ℕ, zero, suc, ◌+◌, ◌-◌, ◌*◌, ◌<◌, ◌≤◌, ◌==◌, Bool, true, false, cond, max, List, [], ◌∷◌, length, sym, refl, ap, subst}
use Rattle.std.proofs.Common.{arith, inl, inr, ⊎_elim, Option, Some, None, ne_eqb, ltb-true}
use mathlib.Core.Logic.{dite}
use native.Mathlib.Decide.{ℕ_discrete}
use Rattle.std.proofs.lemmas.Bool.{cases_lt}
use Rattle.clsm_model.specs.declared.record.Deed.TheVariants.{Snapshot}
use Rattle.clsm_model.specs.History.{History}
use Rattle.clsm_law.specs.declared.layout.Layout.{Layout}
use Rattle.clsm_law.specs.declared.word.Word.TheVariants.{Clock, Pin as PinOf, Snap}
use Rattle.clsm_law.specs.declared.word.Part.TheVariants.{Key}
use Rattle.clsm_law.specs.declared.step.Step.{Step}
use Rattle.clsm_law.specs.declared.step.Step.TheVariants.{EnterExclusive, LeaveExclusive, Fill, Pin, Unpin, Look, RaiseFront, Note, CloseSnapshot, Pad}
use Rattle.clsm_law.specs.declared.step.Step.TheVariants.{WriteRun, ClearState, Publish, ExtendClock, ExtendLimit}
use Rattle.clsm_law.specs.declared.step.End.{End}
use Rattle.clsm_law.specs.declared.step.End.TheVariants.{Recorded}
use Rattle.clsm_law.specs.declared.view.View.{View}
use Rattle.clsm_law.specs.declared.view.SnapshotState.{SnapshotState}
use Rattle.clsm_law.specs.declared.view.SnapshotState.TheVariants.{Absent, Noted, Timed, Open}
use Rattle.clsm_law.specs.declared.merger.MergerView.{MergerView}
use Rattle.clsm_law.specs.declared.merger.Round.{Round}
use Rattle.clsm_law.specs.declared.merger.Phase.{Phase}
use Rattle.clsm_law.specs.declared.merger.Phase.TheVariants.{Clean, Frozen, Retired}
use Rattle.clsm_law.specs.OpenSteps.{IsEndingWith}
use Rattle.clsm_law.specs.Relation.{ended_snapshot, timed_by}
use Rattle.clsm_law.specs.Merging.{is_frozen, is_retired, epoch_end, noted_time, least, round_on, round_by, is_whole, lesser, round_end, floor_by}
use Rattle.clsm_law.specs.Worlds.{past_of}
use Rattle.clsm_law.specs.Law.{each, IsSnapshot, AreSnapshots, note_of, IsPassed, ArePassed, AreFloors}
use Rattle.clsm_law.proofs.Cases.{by_test, by_bool}
use Rattle.clsm_law.proofs.Frames.{keep1, keep2}
use Rattle.clsm_law.proofs.Setting.{Setting, v, w, M, V, Opens, Ground, facts, merger', memory', OpensTo, past_below, by_seat}
use Rattle.clsm_law.proofs.Records.Histories.{end_of-past}
use Rattle.clsm_law.proofs.Clock.Kept.{frozen_clock, clock_grows, clock_grows'}
use Rattle.clsm_law.proofs.Phases.{clean_frozen, retired_frozen}

-- ---- each snapshot by itself

-- the floor is drawn
pub floor_below : (g : Ground) → g.merger.floor ≤ g.memory Clock
floor_below g = by_bool (λ b. is_frozen g.merger.phase ≡ b → g.merger.floor ≤ g.memory Clock) (is_frozen g.merger.phase)
    (λ _ e. let a = g.law.floors.below_end in let b = frozen_clock g e in omega arith)
    (λ _ e. let a = g.law.floors.at_rest e in let b = g.law.begun in omega arith) refl

-- the clock and the past may grow
snapshot_more : (floor n n' past past' : ℕ) (pinned : Bool) (y : SnapshotState) → n ≤ n' → past ≤ past' → IsSnapshot floor n past pinned y
    → IsSnapshot floor n' past' pinned y
snapshot_more floor n n' past past' pinned Absent a b h = tt
snapshot_more floor n n' past past' pinned (Noted k) a b h = let c = h.0 in (omega arith, h.1)
snapshot_more floor n n' past past' pinned (Timed k s) a b h = let c = h.2 in (h.0, h.1, omega arith, h.3)
snapshot_more floor n n' past past' pinned (Open k s) a b h = let c = h.2 in (h.0, h.1, omega arith)

-- a pin is begun
snapshot_pinned : (floor n past : ℕ) (pinned : Bool) (y : SnapshotState) → IsSnapshot floor n past pinned y → IsSnapshot floor n past true y
snapshot_pinned floor n past pinned Absent h = tt
snapshot_pinned floor n past pinned (Noted k) h = (h.0, refl)
snapshot_pinned floor n past pinned (Timed k s) h = (h.0, h.1, h.2, refl)
snapshot_pinned floor n past pinned (Open k s) h = h

-- a noted snapshot takes its time from the clock
snapshot_timed : (floor n past : ℕ) (pinned : Bool) (y : SnapshotState) → floor ≤ n → IsSnapshot floor n past pinned y
    → IsSnapshot floor n past pinned (timed_by y n)
snapshot_timed floor n past pinned Absent le h = h
snapshot_timed floor n past pinned (Noted k) le h = (h.0, le, omega arith, h.1)
snapshot_timed floor n past pinned (Timed k s) le h = h
snapshot_timed floor n past pinned (Open k s) le h = h

-- where a timed snapshot is recorded, its time is of the past
ends_readable : (h : History) (y : View) (k s : ℕ) (end : End) → IsEndingWith h y (Timed k s) end → s ≤ length h.slots
ends_readable h y k s (Recorded Snapshot) o = o.1.readable.reached
ends_readable h y k s (Recorded deed) o = absurd o
ends_readable h y k s end o = absurd o

-- the end of a read opens a timed snapshot
snapshot_ended : (h : History) (v : View) (end : End) (floor n past : ℕ) (pinned : Bool) (y : SnapshotState) → IsEndingWith h v y end
    → length h.slots ≤ past → IsSnapshot floor n past pinned y → IsSnapshot floor n past false (ended_snapshot y)
snapshot_ended h v end floor n past pinned Absent o le i = tt
snapshot_ended h v end floor n past pinned (Noted k) o le i = absurd o
snapshot_ended h v end floor n past pinned (Timed k s) o le i = let a = ends_readable h v k s end o in (i.0, i.1, omega arith)
snapshot_ended h v end floor n past pinned (Open k s) o le i = i

-- the seat's own snapshot after the step, and the others' as before
snapshots_by : (s : Setting) (step : Step) → Opens s step → (v s).past ≤ (w s step).past
    → IsSnapshot s.merger.floor (M s step Clock) (w s step).past (w s step).pinned (w s step).snapshot
    → AreSnapshots s.merger.floor (M s step Clock) (each s.z View.past (V s step)) (each s.z View.pinned (V s step)) (each s.z View.snapshot (V s step))
snapshots_by s step o le now = by_seat s (w s step) (λ i u. IsSnapshot s.merger.floor (M s step Clock) u.past u.pinned u.snapshot) now
    (λ i ne. snapshot_more s.merger.floor (s.memory Clock) (M s step Clock) (each s.z View.past s.views i) (each s.z View.past s.views i)
    (each s.z View.pinned s.views i) (each s.z View.snapshot s.views i) (clock_grows s step o) (omega arith) (s.law.snapshots i))

-- a step that leaves the pin and the snapshot
snapshots_same : (s : Setting) (step : Step) → Opens s step → (v s).past ≤ (w s step).past → (w s step).pinned ≡ (v s).pinned → (w s step).snapshot
    ≡ (v s).snapshot
    → AreSnapshots s.merger.floor (M s step Clock) (each s.z View.past (V s step)) (each s.z View.pinned (V s step)) (each s.z View.snapshot (V s step))
snapshots_same s step o le a b = snapshots_by s step o le (keep2 (IsSnapshot s.merger.floor (M s step Clock) (w s step).past) a b
    (snapshot_more s.merger.floor (s.memory Clock) (M s step Clock) (v s).past (w s step).past (v s).pinned (v s).snapshot (clock_grows s step o) le
    (s.law.snapshots s.me)))

pub snapshots_kept : (s : Setting) (step : Step) → Opens s step → AreSnapshots s.merger.floor (M s step Clock) (each s.z View.past (V s step))
    (each s.z View.pinned (V s step)) (each s.z View.snapshot (V s step))
snapshots_kept s Pin o = snapshots_by s Pin o (omega arith) (snapshot_pinned s.merger.floor (s.memory Clock) (v s).past (v s).pinned (v s).snapshot
    (s.law.snapshots s.me))
snapshots_kept s (Unpin end) o = snapshots_by s (Unpin end) o (omega arith)
    (snapshot_ended (past_of s.slots (v s).past) (v s) end s.merger.floor (s.memory Clock) (v s).past (v s).pinned (v s).snapshot o.1
    (let a = end_of-past s.slots (v s).past (past_below s.ground s.me) in omega arith) (s.law.snapshots s.me))
snapshots_kept s (Look Clock) o = snapshots_by s (Look Clock) o (omega arith)
    (snapshot_timed s.merger.floor (s.memory Clock) (v s).past (v s).pinned (v s).snapshot (floor_below s.ground) (s.law.snapshots s.me))
snapshots_kept s (Note b) o = snapshots_by s (Note b) o (omega arith) (s.law.pin_clocks s.me b o.2, o.1)
snapshots_kept s CloseSnapshot o = snapshots_by s CloseSnapshot o (omega arith) tt
snapshots_kept s (Fill Key n) o = snapshots_same s (Fill Key n) o (omega arith) refl refl
snapshots_kept s (RaiseFront t) o = snapshots_same s (RaiseFront t) o (omega arith) refl refl
snapshots_kept s step o = snapshots_same s step o (omega arith) refl refl

-- ---- the merger's round

-- a snapshot's time, once it has one, is at least this
abbrev IsAtLeast : ℕ → SnapshotState → Type 0
IsAtLeast floor (Timed k s) = floor ≤ s
IsAtLeast floor (Open k s) = floor ≤ s
IsAtLeast floor _ = Unit {0}

-- the least noted passes, after one more look, what it passed before
passed_left : (end : ℕ) (a b : Option ℕ) (y : SnapshotState) → IsPassed end a y → IsPassed end (least a b) y
passed_left end None None (Timed k s) h = h
passed_left end None (Some n) (Timed k s) h = inr h
passed_left end (Some m) None (Timed k s) h = h
passed_left end (Some m) (Some n) (Timed k s) h = ⊎_elim (λ (le : m ≤ s). inl (omega arith)) (λ (le : end ≤ s). inr le) h
passed_left end None None (Open k s) h = h
passed_left end None (Some n) (Open k s) h = inr h
passed_left end (Some m) None (Open k s) h = h
passed_left end (Some m) (Some n) (Open k s) h = ⊎_elim (λ (le : m ≤ s). inl (omega arith)) (λ (le : end ≤ s). inr le) h
passed_left end a b y h = tt

-- and what that look passes
passed_right : (end : ℕ) (a b : Option ℕ) (y : SnapshotState) → IsPassed end b y → IsPassed end (least a b) y
passed_right end None b y h = h
passed_right end (Some m) None (Timed k s) h = inr h
passed_right end (Some m) (Some n) (Timed k s) h = ⊎_elim (λ (le : n ≤ s). inl (omega arith)) (λ (le : end ≤ s). inr le) h
passed_right end (Some m) None (Open k s) h = inr h
passed_right end (Some m) (Some n) (Open k s) h = ⊎_elim (λ (le : n ≤ s). inl (omega arith)) (λ (le : end ≤ s). inr le) h
passed_right end (Some m) b y h = tt

-- a snapshot word says the time noted
noted_next : (b : ℕ) → noted_time (b + 1) ≡ Some b
noted_next b = let e : b + 1 - 1 ≡ b = omega arith in rw (ne_eqb (b + 1) 0 (λ h. omega arith), e) refl

-- a look at a snapshot word notes no time above the snapshot's
passed_looked : (floor n past end : ℕ) (pinned : Bool) (y : SnapshotState) → IsSnapshot floor n past pinned y → IsPassed end (noted_time (note_of y)) y
passed_looked floor n past end pinned Absent h = tt
passed_looked floor n past end pinned (Noted k) h = rw (noted_next k) tt
passed_looked floor n past end pinned (Timed k s) h = rw (noted_next k) (inl h.0)
passed_looked floor n past end pinned (Open k s) h = rw (noted_next k) (inl h.0)

-- outside a freeze no round counts
passed_unfrozen : (round : Option Round) (end : ℕ) (snapshot : ℕ → SnapshotState) → ArePassed false round end snapshot
passed_unfrozen None end snapshot = tt
passed_unfrozen (Some r) end snapshot = λ e. absurd cc

-- the clock looked at is at or above the end of the frozen epoch
passed_timed : (end n : ℕ) (a : Option ℕ) (y : SnapshotState) → end ≤ n → IsPassed end a y → IsPassed end a (timed_by y n)
passed_timed end n a (Timed k s) le h = h
passed_timed end n a (Open k s) le h = h
passed_timed end n None (Noted k) le h = le
passed_timed end n (Some m) (Noted k) le h = inr le
passed_timed end n a Absent le h = h

-- an open snapshot keeps its time
passed_ended : (end : ℕ) (a : Option ℕ) (y : SnapshotState) → IsPassed end a y → IsPassed end a (ended_snapshot y)
passed_ended end None (Timed k s) h = h
passed_ended end (Some m) (Timed k s) h = h
passed_ended end a (Open k s) h = h
passed_ended end a (Noted k) h = h
passed_ended end a Absent h = h

-- a snapshot with no time is passed by any round
passed_noted : (end : ℕ) (a : Option ℕ) (k : ℕ) → IsPassed end a (Noted k)
passed_noted end None k = tt
passed_noted end (Some m) k = tt

passed_absent : (end : ℕ) (a : Option ℕ) → IsPassed end a Absent
passed_absent end None = tt
passed_absent end (Some m) = tt

-- what the seat's own snapshot is passed by, it is passed by after the step
passed_after : (s : Setting) (step : Step) → Opens s step → is_frozen s.merger.phase ≡ true → (n : Option ℕ)
    → IsPassed (epoch_end s.z s.merger) n (v s).snapshot → IsPassed (epoch_end s.z s.merger) n (w s step).snapshot
passed_after s (Unpin end) o e n = passed_ended (epoch_end s.z s.merger) n (v s).snapshot
passed_after s (Look Clock) o e n = passed_timed (epoch_end s.z s.merger) (s.memory Clock) n (v s).snapshot (frozen_clock s.ground e)
passed_after s (Note b) o e n = λ h. passed_noted (epoch_end s.z s.merger) n b
passed_after s CloseSnapshot o e n = λ h. passed_absent (epoch_end s.z s.merger) n
passed_after s (Fill Key y) o e n = λ h. h
passed_after s step o e n = λ h. h

-- and so are the others'
passed_by : (s : Setting) (step : Step) → Opens s step → (round : Option Round)
    → ArePassed (is_frozen s.merger.phase) round (epoch_end s.z s.merger) (each s.z View.snapshot s.views)
    → ArePassed (is_frozen s.merger.phase) round (epoch_end s.z s.merger) (each s.z View.snapshot (V s step))
passed_by s step o None h = tt
passed_by s step o (Some r) h = λ e. by_seat s (w s step) (λ i u. i < r.next → IsPassed (epoch_end s.z s.merger) r.least u.snapshot)
    (λ lt. passed_after s step o e r.least (h e s.me lt)) (λ i ne lt. h e i lt)

pub passed_kept : (s : Setting) (step : Step) → Opens s step → ArePassed (is_frozen s.merger.phase) s.merger.round (epoch_end s.z s.merger)
    (each s.z View.snapshot (V s step))
passed_kept s step o = passed_by s step o s.merger.round s.law.passed

-- a look at the snapshot word of the seat i goes on with the round
module _ (g : Ground) (i : ℕ) (inside : i < g.z.seats) (frozen : is_frozen g.merger.phase ≡ true) where
  abbrev snapshots : ℕ → SnapshotState
  snapshots = each g.z View.snapshot g.views

  abbrev end : ℕ
  end = epoch_end g.z g.merger

  abbrev snap_word : ℕ
  snap_word = g.memory (Snap i)

  -- the seat looked at is passed by what its word notes
  passed_here : IsPassed end (noted_time snap_word) (snapshots i)
  passed_here = subst (λ (n : ℕ). IsPassed end (noted_time n) (snapshots i)) (sym (g.law.notes i inside))
      (passed_looked g.merger.floor (g.memory Clock) (each g.z View.past g.views i) end (each g.z View.pinned g.views i) (snapshots i) (g.law.snapshots i))

  -- and the seats before it as they were
  passed_on : (round : Option Round) → ArePassed true round end snapshots → ArePassed true (round_on round i snap_word) end snapshots
  passed_on None h = tt
  passed_on (Some r) h = by_test
      (λ b. ArePassed true (cond b (Some (record { next = i + 1; least = least r.least (noted_time snap_word) })) None) end snapshots) r.next i
      (λ same e j lt. dite (ℕ_discrete j i)
      (λ (here : j ≡ i). subst (λ (k : ℕ). IsPassed end (least r.least (noted_time snap_word)) (snapshots k)) (sym here)
      (passed_right end r.least (noted_time snap_word) (snapshots i) passed_here))
      (λ ne. passed_left end r.least (noted_time snap_word) (snapshots j) (h e j (omega arith))))
      (λ _. tt)

  -- so the round after the look has passed the seats up to this one
  round_passed : ArePassed true (round_by g.merger.round i snap_word) end snapshots
  round_passed = by_test (λ b. ArePassed true (cond b (Some (record { next = 1; least = noted_time snap_word })) (round_on g.merger.round i snap_word)) end
      snapshots) i 0
      (λ first e j lt. let here : i ≡ j = omega arith in subst (λ (k : ℕ). IsPassed end (noted_time snap_word) (snapshots k)) here passed_here)
      (λ _. passed_on g.merger.round (subst (λ b. ArePassed b g.merger.round end snapshots) frozen g.law.passed))

-- a whole round ends
passed_end : (seats : ℕ) (round : Option Round) (end : ℕ) (snapshot : ℕ → SnapshotState) → ArePassed true round end snapshot
    → ArePassed true (round_end seats round) end snapshot
passed_end seats round end snapshot h = elim (is_whole seats round) as (λ b. ArePassed true (cond b None round) end snapshot) [ true ↦ tt | false ↦ h ]

-- a freeze begins with no round
passed_leaves : (g : Ground) (b : Bool) → ArePassed (is_frozen (cond b Frozen g.merger.phase)) (cond b None g.merger.round) (epoch_end g.z g.merger)
    (each g.z View.snapshot g.views)
passed_leaves g true = tt
passed_leaves g false = g.law.passed

-- the end of a cleaning freezes nothing
retired_clears : (p : Phase) (b : Bool) → is_retired p ≡ true → is_frozen (cond b Clean p) ≡ false
retired_clears p true e = refl
retired_clears Clean false e = absurd cc
retired_clears Frozen false e = absurd cc
retired_clears Retired false e = refl

pub passed_merged : (g : Ground) (step : Step) → OpensTo g step → ArePassed (is_frozen (merger' g step).phase) (merger' g step).round
    (epoch_end g.z (merger' g step)) (each g.z View.snapshot g.views)
passed_merged g LeaveExclusive o = passed_leaves g g.merger.limit_extended
passed_merged g (Look (Snap i)) o = let n = g.memory (Snap i) in by_bool
    (λ b. is_frozen g.merger.phase ≡ b → ArePassed b (cond b (round_end g.z.seats (cond b (round_by g.merger.round i n) g.merger.round)) g.merger.round)
    (epoch_end g.z g.merger) (each g.z View.snapshot g.views)) (is_frozen g.merger.phase)
    (λ _ e. passed_end g.z.seats (round_by g.merger.round i n) (epoch_end g.z g.merger) (each g.z View.snapshot g.views)
    (round_passed g i (ltb-true i g.z.seats o) e))
    (λ _ e. passed_unfrozen g.merger.round (epoch_end g.z g.merger) (each g.z View.snapshot g.views)) refl
passed_merged g (ClearState cell) o = keep1 (λ b. ArePassed b g.merger.round (epoch_end g.z g.merger) (each g.z View.snapshot g.views))
    (retired_clears g.merger.phase ((facts g).last cell) o.0) (passed_unfrozen g.merger.round (epoch_end g.z g.merger) (each g.z View.snapshot g.views))
passed_merged g Publish o = tt
passed_merged g step o = g.law.passed

-- ---- the floor after a round

-- a time is at or above the floor
floor_of : (floor n past : ℕ) (pinned : Bool) (y : SnapshotState) → IsSnapshot floor n past pinned y → IsAtLeast floor y
floor_of floor n past pinned Absent h = tt
floor_of floor n past pinned (Noted k) h = tt
floor_of floor n past pinned (Timed k s) h = h.1
floor_of floor n past pinned (Open k s) h = h.1

-- a floor that is raised no higher than the time
snapshot_raised : (floor floor' n past : ℕ) (pinned : Bool) (y : SnapshotState) → IsAtLeast floor' y → IsSnapshot floor n past pinned y
    → IsSnapshot floor' n past pinned y
snapshot_raised floor floor' n past pinned Absent le h = tt
snapshot_raised floor floor' n past pinned (Noted k) le h = h
snapshot_raised floor floor' n past pinned (Timed k s) le h = (h.0, le, h.2, h.3)
snapshot_raised floor floor' n past pinned (Open k s) le h = (h.0, le, h.2)

-- a time that was passed is at or above the least noted or the epoch's end
raised_passed : (floor end : ℕ) (a : Option ℕ) (y : SnapshotState) → IsPassed end a y → IsAtLeast floor y → IsAtLeast (max floor (lesser end a)) y
raised_passed floor end None (Timed k s) h le = omega arith
raised_passed floor end (Some m) (Timed k s) h le = ⊎_elim (λ (b : m ≤ s). omega arith) (λ (b : end ≤ s). omega arith) h
raised_passed floor end None (Open k s) h le = omega arith
raised_passed floor end (Some m) (Open k s) h le = ⊎_elim (λ (b : m ≤ s). omega arith) (λ (b : end ≤ s). omega arith) h
raised_passed floor end a y h le = tt

-- beyond the seats there is no snapshot
no_snapshot : (z : Layout) (views : List View) (i : ℕ) → length views ≤ i → each z View.snapshot views i ≡ Absent
no_snapshot z [] i le = refl
no_snapshot z (y ∷ ys) zero le = absurd (omega arith)
no_snapshot z (y ∷ ys) (suc i) le = no_snapshot z ys i (omega arith)

-- a whole round passed every seat
raised_by : (g : Ground) (round : Option Round) → ArePassed true round (epoch_end g.z g.merger) (each g.z View.snapshot g.views) → (i : ℕ)
    → IsAtLeast (floor_by g.z g.merger round) (each g.z View.snapshot g.views i)
raised_by g None h i = floor_of g.merger.floor (g.memory Clock) (each g.z View.past g.views i) (each g.z View.pinned g.views i)
    (each g.z View.snapshot g.views i) (g.law.snapshots i)
raised_by g (Some r) h i = let now = floor_of g.merger.floor (g.memory Clock) (each g.z View.past g.views i) (each g.z View.pinned g.views i)
    (each g.z View.snapshot g.views i) (g.law.snapshots i) in
    by_test (λ b. IsAtLeast (cond b (max g.merger.floor (lesser (epoch_end g.z g.merger) r.least)) g.merger.floor) (each g.z View.snapshot g.views i)) r.next
    g.z.seats
    (λ whole. elim (cases_lt i g.z.seats) [
      | inl lt ↦ raised_passed g.merger.floor (epoch_end g.z g.merger) r.least (each g.z View.snapshot g.views i) (h refl i (omega arith)) now
      | inr le ↦ keep1 (IsAtLeast (max g.merger.floor (lesser (epoch_end g.z g.merger) r.least)))
          (no_snapshot g.z g.views i (let a = g.law.seated in omega arith)) tt
    ])
    (λ _. now)

-- so the floor is raised above no snapshot
snapshots_looked : (g : Ground) (i : ℕ) → OpensTo g (Look (Snap i)) → (j : ℕ) → IsAtLeast (merger' g (Look (Snap i))).floor (each g.z View.snapshot g.views j)
snapshots_looked g i o j = let n = g.memory (Snap i) in let y = each g.z View.snapshot g.views j in
    by_bool (λ b. is_frozen g.merger.phase ≡ b
    → IsAtLeast (cond b (floor_by g.z g.merger (cond b (round_by g.merger.round i n) g.merger.round)) g.merger.floor) y) (is_frozen g.merger.phase)
    (λ _ e. raised_by g (round_by g.merger.round i n) (round_passed g i (ltb-true i g.z.seats o) e) j)
    (λ _ e. floor_of g.merger.floor (g.memory Clock) (each g.z View.past g.views j) (each g.z View.pinned g.views j) y (g.law.snapshots j)) refl

-- a step that leaves the floor
snapshots_stay : (g : Ground) (step : Step) → OpensTo g step → AreSnapshots g.merger.floor (memory' g step Clock) (each g.z View.past g.views)
    (each g.z View.pinned g.views) (each g.z View.snapshot g.views)
snapshots_stay g step o i = let past = each g.z View.past g.views i in
    snapshot_more g.merger.floor (g.memory Clock) (memory' g step Clock) past past (each g.z View.pinned g.views i) (each g.z View.snapshot g.views i)
    (clock_grows' g step o) (omega arith) (g.law.snapshots i)

pub snapshots_merged : (g : Ground) (step : Step) → OpensTo g step → AreSnapshots (merger' g step).floor (memory' g step Clock)
    (each g.z View.past g.views) (each g.z View.pinned g.views) (each g.z View.snapshot g.views)
snapshots_merged g (Look (Snap i)) o = λ j. snapshot_raised g.merger.floor (merger' g (Look (Snap i))).floor (g.memory Clock)
    (each g.z View.past g.views j) (each g.z View.pinned g.views j) (each g.z View.snapshot g.views j) (snapshots_looked g i o j) (g.law.snapshots j)
snapshots_merged g (Look word) o = snapshots_stay g (Look word) o
snapshots_merged g (WriteRun word n) o = snapshots_stay g (WriteRun word n) o
snapshots_merged g ExtendClock o = snapshots_stay g ExtendClock o
snapshots_merged g step o = g.law.snapshots

-- ---- the floors

pub floors_kept : (s : Setting) (step : Step) → Opens s step → AreFloors s.z s.merger
floors_kept s step o = s.law.floors

-- a step that leaves the merges and the floors
floors_same : (z : Layout) (m m' : MergerView) → m'.merged ≡ m.merged → m'.floor ≡ m.floor → m'.merged_floor ≡ m.merged_floor → m'.former_floor
    ≡ m.former_floor → AreFloors z m → (is_frozen m'.phase ≡ false → m.floor ≤ m.merged * z.cells) → AreFloors z m'
floors_same z m m' a b c d h rest = record {
  below_end = keep2 (λ (p q : ℕ). p ≤ (q + 1) * z.cells) b a h.below_end;
  at_rest = λ e. keep2 (λ (p q : ℕ). p ≤ q * z.cells) b a (rest e);
  merged = keep2 (λ (p q : ℕ). p ≤ q) c b h.merged;
  former = keep2 (λ (p q : ℕ). p ≤ q) d c h.former;
  below_merged = keep2 (λ (p q : ℕ). p ≤ q * z.cells) c a h.below_merged;
  below_former = keep2 (λ (p q : ℕ). p ≤ (q - 1) * z.cells) d a h.below_former;
}

-- what a round may raise the floor to
raised_end : (z : Layout) (m : MergerView) (round : Option Round) → m.floor ≤ epoch_end z m → floor_by z m round ≤ epoch_end z m
raised_end z m None le = le
raised_end z m (Some r) le = elim (r.next == z.seats) as (λ b. cond b (max m.floor (lesser (epoch_end z m) r.least)) m.floor ≤ epoch_end z m) [
  | true ↦
      let a = lesser_end (epoch_end z m) r.least in omega arith
  | false ↦ le
]
  where
    lesser_end : (end : ℕ) (a : Option ℕ) → lesser end a ≤ end
    lesser_end end None = omega arith
    lesser_end end (Some n) = omega arith

-- and it never falls
raised_more : (z : Layout) (m : MergerView) (round : Option Round) → m.floor ≤ floor_by z m round
raised_more z m None = omega arith
raised_more z m (Some r) = elim (r.next == z.seats) as (λ b. m.floor ≤ cond b (max m.floor (lesser (epoch_end z m) r.least)) m.floor) [
  | true ↦ omega arith
  | false ↦ omega arith
]

-- a look that ends a round raises the floor within the epoch
floors_looked : (g : Ground) (i : ℕ) → AreFloors g.z (merger' g (Look (Snap i)))
floors_looked g i = let h = g.law.floors in let n = g.memory (Snap i) in let m = g.merger in let round =
    cond (is_frozen m.phase) (round_by m.round i n) m.round in
    let more : m.floor ≤ cond (is_frozen m.phase) (floor_by g.z m round) m.floor =
    elim (is_frozen m.phase) as (λ b. m.floor ≤ cond b (floor_by g.z m round) m.floor) [ true ↦ raised_more g.z m round | false ↦ omega arith ] in
    record {
      below_end = elim (is_frozen m.phase) as (λ b. cond b (floor_by g.z m round) m.floor ≤ epoch_end g.z m) [
        | true ↦ raised_end g.z m round h.below_end
        | false ↦ h.below_end
      ];
      at_rest = λ e. let same : cond (is_frozen m.phase) (floor_by g.z m round) m.floor ≡ m.floor = ap (λ b. cond b (floor_by g.z m round) m.floor) e in
          let a = h.at_rest e in omega arith;
      merged = let a = h.merged in omega arith;
      former = h.former;
      below_merged = h.below_merged;
      below_former = h.below_former;
    }

-- a merge moves the floors up by one component
floors_published : (g : Ground) → AreFloors g.z (merger' g Publish)
floors_published g = let h = g.law.floors in let m = g.merger in record {
  below_end = let a = h.below_end in omega arith;
  at_rest = λ e. h.below_end;
  merged = omega arith;
  former = h.merged;
  below_merged = h.below_end;
  below_former = let e : m.merged + 1 - 1 ≡ m.merged = omega arith in rw e h.below_merged;
}

pub floors_merged : (g : Ground) (step : Step) → OpensTo g step → AreFloors g.z (merger' g step)
floors_merged g EnterExclusive o = floors_same g.z g.merger (merger' g EnterExclusive) refl refl refl refl g.law.floors g.law.floors.at_rest
floors_merged g LeaveExclusive o = floors_same g.z g.merger (merger' g LeaveExclusive) refl refl refl refl g.law.floors
    (λ e. g.law.floors.at_rest (clean_frozen g.merger.phase (g.law.merger.clean o.0)))
floors_merged g (Look (Snap i)) o = floors_looked g i
floors_merged g (Look (PinOf i)) o = floors_same g.z g.merger (merger' g (Look (PinOf i))) refl refl refl refl g.law.floors g.law.floors.at_rest
floors_merged g (Look Clock) o = floors_same g.z g.merger (merger' g (Look Clock)) refl refl refl refl g.law.floors g.law.floors.at_rest
floors_merged g (Look word) o = g.law.floors
floors_merged g (Pad t) o = floors_same g.z g.merger (merger' g (Pad t)) refl refl refl refl g.law.floors g.law.floors.at_rest
floors_merged g (ClearState cell) o = floors_same g.z g.merger (merger' g (ClearState cell)) refl refl refl refl g.law.floors
    (λ e. g.law.floors.at_rest (retired_frozen g.merger.phase o.0))
floors_merged g Publish o = floors_published g
floors_merged g ExtendClock o = floors_same g.z g.merger (merger' g ExtendClock) refl refl refl refl g.law.floors g.law.floors.at_rest
floors_merged g ExtendLimit o = floors_same g.z g.merger (merger' g ExtendLimit) refl refl refl refl g.law.floors g.law.floors.at_rest
floors_merged g step o = g.law.floors
