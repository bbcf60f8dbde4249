-- How the clauses of the seats' records are kept: they are right in the seat's past, their writes
-- stand, each write is recorded, and the dues.
use Rattle.std.proofs.Common.{◌≡◌, ◌≢◌, ℕ, ◌+◌, ◌-◌, ◌<◌, ◌≤◌, ◌==◌, ◌⊎◌, Bool, true, false, cond, List, [], ◌∷◌, ◌++◌, length, set, sym, refl}
use Rattle.std.proofs.Common.{ap, ◌∙◌, subst, arith, inl, inr, ⊎_elim, Option, Some, None}
use prog.Atomic.{either}
use Rattle.std.specs.List.{AllByRecursion}
use Rattle.std.proofs.lemmas.Bool.{cases_lt}
use Rattle.clsm_law.specs.declared.view.View.{View}
use Rattle.clsm_model.specs.declared.slot.Slot.{Slot}
use Rattle.clsm_model.specs.declared.slot.Slot.TheVariants.{Nothing, Wrote}
use Rattle.clsm_model.specs.declared.record.Deed.{Deed}
use Rattle.clsm_model.specs.declared.record.CallRecord.{CallRecord}
use Rattle.clsm_model.specs.declared.record.Deed.TheVariants.{Close, Batch as Group}
use Rattle.clsm_model.specs.History.{History, end_of}
use Rattle.clsm_model.specs.Right.{IsRight, Member, member_write, write_by}
use Rattle.clsm_law.specs.declared.step.Step.{Step}
use Rattle.clsm_law.specs.declared.step.Step.TheVariants.{Draw, Fill, Decide, Cancel, Commit, Unpin, Look, CloseSnapshot, WriteRun, ExtendClock}
use Rattle.clsm_law.specs.declared.word.Word.TheVariants.{Clock}
use Rattle.clsm_law.specs.declared.word.Part.TheVariants.{Key}
use Rattle.clsm_law.specs.declared.view.SnapshotState.{SnapshotState}
use Rattle.clsm_law.specs.declared.view.SnapshotState.TheVariants.{Absent, Open}
use Rattle.clsm_law.specs.declared.view.Mode.{Mode}
use Rattle.clsm_law.specs.declared.view.Mode.TheVariants.{Free, Shared, Exclusive}
use Rattle.clsm_law.specs.Memory.{Memory}
use Rattle.clsm_law.specs.Views.{or_zero, is_exclusive}
use Rattle.clsm_law.specs.OpenSteps.{open_time, IsOpenSnapshot}
use Rattle.clsm_law.specs.Relation.{ended_calls, call_of}
use Rattle.clsm_law.specs.Merging.{epoch_end}
use Rattle.clsm_law.specs.Worlds.{outcome_at, past_of}
use Rattle.clsm_model.specs.Seats.{IsRightRecord, IsStandingRecord, HasWrite}
use Rattle.clsm_law.specs.Law.{each, IsSnapshot, AreRight, AreRecordsStanding, AreRecorded}
use Rattle.clsm_law.specs.Law.{AreDuesBelowOwn}
use Rattle.clsm_law.proofs.Cases.{by_test, by_bool}
use Rattle.clsm_law.proofs.Frames.{at_each, puts_each, puts_slot, slots_grown, slot_below, not_given_up}
use Rattle.clsm_law.proofs.Setting.{Setting, Ground, v, x, w, M, V, S, Opens, looked_same, merger_looked_same, drawn_shown, past_below, by_seat}
use Rattle.clsm_law.proofs.Setting.{clock_shared, clock_merger, memory', slots', OpensTo}
use Rattle.clsm_law.proofs.Clock.Kept.{commits_at, clock_grows}
use Rattle.clsm_law.proofs.Decided.Kept.{run_other}
use Rattle.clsm_law.proofs.Growth.{slots_stay, longer, cancels_shown}
use Rattle.clsm_law.proofs.GrowthMerger.{slots_stay', longer', written_before}
use Rattle.clsm_law.proofs.Records.Histories.{GoesOn, records_right-go_on, decided_past-goes_on, end_of-past}
use Rattle.clsm_law.proofs.Records.Facts.{has_before, has_last, nothing_stands, once_stands, once_written, batch_at, batch_stands}
use Rattle.clsm_law.proofs.Records.Facts.{member_writer, all_stand_stay, decided_right, writer_of, ended_right, ended_stands, ended_within}
use Rattle.clsm_levels.proofs.Every.{every-append}

-- a hold is of one kind
pub only_exclusive : (m : Mode) → is_exclusive m ≡ true → m ≡ Exclusive
only_exclusive Free e = absurd cc
only_exclusive Shared e = absurd cc
only_exclusive Exclusive e = refl

pub only_shared : (m : Mode) → m ≢ Free → is_exclusive m ≡ false → m ≡ Shared
only_shared Free ne e = absurd (ne refl)
only_shared Shared ne e = refl
only_shared Exclusive ne e = absurd cc

-- a seat's past before the step
abbrev past_in : Setting → ℕ → History
past_in s i = past_of s.slots (each s.z View.past s.views i)

-- ---- the records that a step adds to the seat's

abbrev pub added : Setting → Step → List CallRecord
added s (Decide t deed) = call_of s.me t deed ∷ []
added s (Commit members) = call_of s.me (or_zero (v s).hold_clock) (Group members) ∷ []
added s (Unpin end) = ended_calls s.me (v s) end
added s CloseSnapshot = call_of s.me (or_zero (open_time (v s).snapshot)) Close ∷ []
added s step = []

-- it adds them: a decide does where it wins
abbrev pub Adds : Setting → Step → Type 0
Adds s (Decide t deed) = x s (Decide t deed) ≡ 0
Adds s step = Unit {0}

-- a fact of each record of the seat after the step, from that of those before and of those added
pub each_record : (s : Setting) (step : Step) (P : CallRecord → Type 0) → AllByRecursion P (v s).calls → (Adds s step → AllByRecursion P (added s step))
    → AllByRecursion P (w s step).calls
each_record s (Decide t deed) P old new =
    by_bool (λ a. AllByRecursion P (cond a (v s).calls (cond (x s (Decide t deed) == 0) ((v s).calls ++ call_of s.me t deed ∷ []) (v s).calls)))
    (is_exclusive (v s).mode) (λ _. old) (λ _.
    by_test (λ b. AllByRecursion P (cond b ((v s).calls ++ call_of s.me t deed ∷ []) (v s).calls)) (x s (Decide t deed)) 0
    (λ e. every-append P (v s).calls (added s (Decide t deed)) old (new e)) (λ _. old))
each_record s (Commit members) P old new = every-append P (v s).calls (added s (Commit members)) old (new tt)
each_record s (Unpin end) P old new = every-append P (v s).calls (added s (Unpin end)) old (new tt)
each_record s CloseSnapshot P old new = every-append P (v s).calls (added s CloseSnapshot) old (new tt)
each_record s (Fill Key a) P old new = old
each_record s (Look Clock) P old new = old
each_record s step P old new = old

-- ---- the records are right in the seats' pasts

-- a past after the step goes on from the one before
pub past_on : (s : Setting) (step : Step) → Opens s step → (i p : ℕ) → each s.z View.past s.views i ≤ p → GoesOn (past_in s i) (past_of (S s step) p)
past_on s step o i p le = decided_past-goes_on s.slots (S s step) (each s.z View.past s.views i) p le (longer s step) (s.law.past i) (slots_stay s step o)

-- and the seat's past time only rises
pub past_rises : (s : Setting) (step : Step) → (v s).past ≤ (w s step).past
past_rises s (Fill Key a) = omega arith
past_rises s (Look Clock) = omega arith
past_rises s step = omega arith

-- the seat's records before the step are right in its past after it
right_before : (s : Setting) (step : Step) → Opens s step → AllByRecursion (IsRightRecord (past_of (S s step) (w s step).past)) (v s).calls
right_before s step o = records_right-go_on (past_in s s.me) (past_of (S s step) (w s step).past) (v s).calls
    (past_on s step o s.me (w s step).past (past_rises s step)) (s.law.right s.me)

-- the end of an open snapshot stands at a time of the past
close_right : (slots : List (Option Slot)) (floor clock past : ℕ) (pinned : Bool) (n : SnapshotState) → IsOpenSnapshot n
    → IsSnapshot floor clock past pinned n → past ≤ length slots → IsRight (past_of slots past) (or_zero (open_time n)) Close
close_right slots floor clock past pinned (Open b t) opened is le = let a = is.2 in let e = end_of-past slots past le in
    record { readable = record { reached = omega arith; uncut = tt }; reads = tt }
close_right slots floor clock past pinned Absent opened is le = absurd opened
close_right slots floor clock past pinned n opened is le = absurd opened

-- and so are those that it adds
added_right : (s : Setting) (step : Step) → Opens s step → AllByRecursion (IsRightRecord (past_of (S s step) (w s step).past)) (added s step)
added_right s (Decide t deed) o = (
  decided_right (past_in s s.me) (past_of (S s (Decide t deed)) (v s).past) (v s) t deed (past_on s (Decide t deed) o s.me (v s).past (omega arith)) o.2 o.3,
  tt,
)
added_right s (Commit members) o = (tt, tt)
added_right s (Unpin end) o = ended_right (past_in s s.me) s.me (v s) end o.1
added_right s CloseSnapshot o = (
  close_right s.slots s.merger.floor (s.memory Clock) (v s).past (v s).pinned (v s).snapshot o (s.law.snapshots s.me) (past_below s.ground s.me),
  tt,
)
added_right s step o = tt

pub right_kept : (s : Setting) (step : Step) → Opens s step → AreRight (λ i. past_of (S s step) (each s.z View.past (V s step) i))
    (each s.z View.calls (V s step))
right_kept s step o = by_seat s (w s step) (λ i u. AllByRecursion (IsRightRecord (past_of (S s step) u.past)) u.calls)
    (each_record s step (IsRightRecord (past_of (S s step) (w s step).past)) (right_before s step o) (λ _. added_right s step o))
    (λ i ne. records_right-go_on (past_in s i) (past_of (S s step) (each s.z View.past s.views i)) (each s.z View.calls s.views i)
    (past_on s step o i (each s.z View.past s.views i) (omega arith)) (s.law.right i))

pub right_merged : (g : Ground) (step : Step) → OpensTo g step → AreRight (λ i. past_of (slots' g step) (each g.z View.past g.views i))
    (each g.z View.calls g.views)
right_merged g step o i = let p = each g.z View.past g.views i in
    records_right-go_on (past_of g.slots p) (past_of (slots' g step) p) (each g.z View.calls g.views i)
    (decided_past-goes_on g.slots (slots' g step) p p (omega arith) (longer' g step) (g.law.past i) (slots_stay' g step o)) (g.law.right i)

-- ---- their writes stand

-- each seat's records before the step stand after it
stand_before : (s : Setting) (step : Step) → Opens s step → (i : ℕ)
    → AllByRecursion (IsStandingRecord (outcome_at (S s step)) i) (each s.z View.calls s.views i)
stand_before s step o i = all_stand_stay (outcome_at s.slots) (outcome_at (S s step)) i (each s.z View.calls s.views i) (slots_stay s step o) (s.law.stand i)

-- the slot of a Decide that wins
decides_slot : (s : Setting) (t : ℕ) (deed : Deed) → Opens s (Decide t deed) → x s (Decide t deed) ≡ 0 → outcome_at (S s (Decide t deed)) t ≡ write_by s.me deed
decides_slot s t deed o e = ap (λ (n : ℕ). outcome_at (cond (n == 0) (set s.slots t (write_by s.me deed)) s.slots) t) e
    ∙ (puts_slot s.slots t (write_by s.me deed) (drawn_shown s.ground s.me t o.0).1).here

-- the members of a commit stand at their times
pub commits_member : (s : Setting) (members : List Member) → Opens s (Commit members) → (n : ℕ) → n < length members → (member_write s.me members n ≢ None)
    × (outcome_at s.slots (or_zero (v s).hold_clock + n) ≡ member_write s.me members n)
commits_member s members o n lt = subst (λ (y : ℕ × List Member). (member_write s.me y.1 n ≢ None)
    × (outcome_at s.slots (y.0 + n) ≡ member_write s.me y.1 n)) (λ k. (sym (commits_at s members o) k, o.4 k))
    ((s.law.staging s.me).members n (subst (λ (l : List Member). n < length l) (sym o.4) lt))

-- and so do those that it adds
added_stand : (s : Setting) (step : Step) → Opens s step → Adds s step → AllByRecursion (IsStandingRecord (outcome_at (S s step)) s.me) (added s step)
added_stand s (Decide t deed) o e = ((refl, once_stands (v s) s.me t deed (outcome_at (S s (Decide t deed))) o.2 (decides_slot s t deed o e)), tt)
added_stand s (Commit members) o e =
    ((refl, batch_stands s.me (or_zero (v s).hold_clock) members (outcome_at s.slots) (λ n lt. (commits_member s members o n lt).1)), tt)
added_stand s (Unpin end) o e = ended_stands (past_in s s.me) s.me (v s) (outcome_at s.slots) end o.1
added_stand s CloseSnapshot o e = ((refl, λ t. nothing_stands (or_zero (open_time (v s).snapshot) == t) (outcome_at s.slots t)), tt)
added_stand s step o e = tt

pub stand_kept : (s : Setting) (step : Step) → Opens s step → AreRecordsStanding (outcome_at (S s step)) (each s.z View.calls (V s step))
stand_kept s step o = by_seat s (w s step) (λ i u. AllByRecursion (IsStandingRecord (outcome_at (S s step)) i) u.calls)
    (each_record s step (IsStandingRecord (outcome_at (S s step)) s.me) (stand_before s step o s.me) (added_stand s step o)) (λ i ne. stand_before s step o i)

pub stand_merged : (g : Ground) (step : Step) → OpensTo g step → AreRecordsStanding (outcome_at (slots' g step)) (each g.z View.calls g.views)
stand_merged g step o i = all_stand_stay (outcome_at g.slots) (outcome_at (slots' g step)) i (each g.z View.calls g.views i) (slots_stay' g step o)
    (g.law.stand i)

-- ---- each write is recorded

-- a seat's records stay
more_calls : (s : Setting) (step : Step) (t : ℕ) (write : Slot) → HasWrite s.me t write (v s).calls → HasWrite s.me t write (w s step).calls
more_calls s (Decide t deed) u write h =
    by_bool (λ a. HasWrite s.me u write (cond a (v s).calls (cond (x s (Decide t deed) == 0) ((v s).calls ++ call_of s.me t deed ∷ []) (v s).calls)))
    (is_exclusive (v s).mode) (λ _. h) (λ _.
    by_test (λ b. HasWrite s.me u write (cond b ((v s).calls ++ call_of s.me t deed ∷ []) (v s).calls)) (x s (Decide t deed)) 0
    (λ _. has_before s.me u write (v s).calls (call_of s.me t deed ∷ []) h) (λ _. h))
more_calls s (Commit members) u write h = has_before s.me u write (v s).calls (call_of s.me (or_zero (v s).hold_clock) (Group members) ∷ []) h
more_calls s (Unpin end) u write h = has_before s.me u write (v s).calls (ended_calls s.me (v s) end) h
more_calls s CloseSnapshot u write h = has_before s.me u write (v s).calls (call_of s.me (or_zero (open_time (v s).snapshot)) Close ∷ []) h
more_calls s (Fill Key a) u write h = h
more_calls s (Look Clock) u write h = h
more_calls s step u write h = h

-- and so does what was recorded
still_recorded : (s : Setting) (step : Step) (i t : ℕ) (write : Slot) → HasWrite i t write (each s.z View.calls s.views i)
    → HasWrite i t write (each s.z View.calls (V s step) i)
still_recorded s step i t write = by_seat s (w s step)
    (λ i u. HasWrite i t write (each s.z View.calls s.views i) → HasWrite i t write u.calls) (more_calls s step t write) (λ i ne h. h) i

-- a write below the clock
abbrev Stood : Setting → ℕ → Slot → Type 0
Stood s u write = (u < s.memory Clock) × (outcome_at s.slots u ≡ Some write)

-- a write after the step stood before it, or is the seat's and recorded
stood_or_new : (s : Setting) (step : Step) → Opens s step → (u i key : ℕ) (written : Option (List ℕ)) → u < M s step Clock → outcome_at (S s step) u
    ≡ Some (Wrote i key written)
    → Stood s u (Wrote i key written) ⊎ ((s.me ≡ i) × HasWrite s.me u (Wrote i key written) (w s step).calls)
stood_or_new s (Decide t deed) o u i key written lt = let write = Wrote i key written in
    by_bool (λ a. is_exclusive (v s).mode ≡ a → outcome_at (S s (Decide t deed)) u ≡ Some write → Stood s u write
    ⊎ ((s.me ≡ i) × HasWrite s.me u write (cond a (v s).calls (cond (x s (Decide t deed) == 0) ((v s).calls ++ call_of s.me t deed ∷ []) (v s).calls))))
    (is_exclusive (v s).mode)
    (λ _ alone. by_test (λ b. outcome_at (cond b (set s.slots t (write_by s.me deed)) s.slots) u ≡ Some write → Stood s u write
    ⊎ ((s.me ≡ i) × HasWrite s.me u write (v s).calls)) (x s (Decide t deed)) 0
    (λ _. let p = puts_slot s.slots t (write_by s.me deed) (drawn_shown s.ground s.me t o.0).1 in
    let own = ((s.law.staging s.me).own (only_exclusive (v s).mode alone) t o.0).0 in λ e. inl (lt, sym (p.other u (λ same. absurd (omega arith))) ∙ e))
    (λ _ e. inl (lt, e)))
    (λ _ shared. by_test (λ b. outcome_at (cond b (set s.slots t (write_by s.me deed)) s.slots) u ≡ Some write → Stood s u write
    ⊎ ((s.me ≡ i) × HasWrite s.me u write (cond b ((v s).calls ++ call_of s.me t deed ∷ []) (v s).calls))) (x s (Decide t deed)) 0
    (λ _. let p = puts_slot s.slots t (write_by s.me deed) (drawn_shown s.ground s.me t o.0).1 in
    at_each (λ u. u < s.memory Clock → outcome_at (set s.slots t (write_by s.me deed)) u ≡ Some write → Stood s u write
    ⊎ ((s.me ≡ i) × HasWrite s.me u write ((v s).calls ++ call_of s.me t deed ∷ []))) t
    (λ _ e. let is : write_by s.me deed ≡ Some write = sym p.here ∙ e in
    inr (writer_of s.me i key written deed is, has_last s.me t write (v s).calls (call_of s.me t deed) (once_written (v s) s.me t deed write o.2 is)))
    (λ u ne lt e. inl (lt, sym (p.other u ne) ∙ e)) u lt)
    (λ _ e. inl (lt, e)))
    refl
stood_or_new s (Cancel t) o u i key written lt = by_test (λ b. outcome_at (cond b (set s.slots t (Some Nothing)) s.slots) u ≡ Some (Wrote i key written)
    → Stood s u (Wrote i key written) ⊎ ((s.me ≡ i) × HasWrite s.me u (Wrote i key written) (v s).calls)) (x s (Cancel t)) 0
    (λ _. let p = puts_slot s.slots t (Some Nothing) (cancels_shown s t o).1 in
    at_each (λ u. u < s.memory Clock → outcome_at (set s.slots t (Some Nothing)) u ≡ Some (Wrote i key written) → Stood s u (Wrote i key written)
    ⊎ ((s.me ≡ i) × HasWrite s.me u (Wrote i key written) (v s).calls)) t
    (λ _ e. absurd (let here = p.here in cc (here, e)))
    (λ u ne lt e. inl (lt, sym (p.other u ne) ∙ e)) u lt)
    (λ _ e. inl (lt, e))
stood_or_new s (Draw t) o u i key written lt = by_test (λ b. u < either b (t + 1) (s.memory Clock)
    → outcome_at (cond b (s.slots ++ None ∷ []) s.slots) u ≡ Some (Wrote i key written) → Stood s u (Wrote i key written)
    ⊎ ((s.me ≡ i) × HasWrite s.me u (Wrote i key written) (v s).calls)) (x s (Draw t)) t
    (λ at lt e. let was : outcome_at s.slots u ≡ Some (Wrote i key written) = sym (λ k. slots_grown s.slots k u) ∙ e in
    let inside = slot_below s.slots u (λ none. absurd (cc (none, was))) in let even = clock_shared s.ground s.me o.0 in inl (omega arith, was))
    (λ _ lt e. inl (lt, e)) lt
stood_or_new s (Commit members) o u i key written lt = λ e. let at = commits_at s members o in elim (cases_lt u (s.memory Clock)) [
  | inl old ↦ inl (old, e)
  | inr new ↦
      let c = or_zero (v s).hold_clock in
      let back : c + (u - c) ≡ u = omega arith in
      let member = commits_member s members o (u - c) (omega arith) in
      let is : member_write s.me members (u - c) ≡ Some (Wrote i key written) = sym member.1 ∙ ap (outcome_at s.slots) back ∙ e in
      inr (
        member_writer s.me i key written members (u - c) is,
        has_last s.me u (Wrote i key written) (v s).calls (call_of s.me c (Group members))
            (batch_at s.me c u members (omega arith) ∙ is),
      )
]
stood_or_new s (Look word) o u i key written lt = let same = ap (λ (m : Memory). m Clock) (looked_same s word) in λ e. inl (omega arith, e)
stood_or_new s step o u i key written lt = λ e. inl (lt, e)

pub recorded_kept : (s : Setting) (step : Step) → Opens s step → AreRecorded (M s step Clock) (outcome_at (S s step)) (each s.z View.calls (V s step))
recorded_kept s step o u i key written lt e = let write = Wrote i key written in ⊎_elim
    (λ (old : Stood s u write). still_recorded s step i u write (s.law.recorded u i key written old.0 old.1))
    (λ (new : (s.me ≡ i) × HasWrite s.me u write (w s step).calls). subst (λ (j : ℕ). HasWrite j u write (each s.z View.calls (V s step) j)) new.0
    (subst (HasWrite s.me u write) (sym (puts_each s.z View.calls s.views s.me (w s step) s.inside).here) new.1))
    (stood_or_new s step o u i key written lt e)

pub recorded_merged : (g : Ground) (step : Step) → OpensTo g step
    → AreRecorded (memory' g step Clock) (outcome_at (slots' g step)) (each g.z View.calls g.views)
recorded_merged g ExtendClock o u i key written lt e = let was = written_before g.slots (epoch_end g.z g.merger - length g.slots) u i key written e in
    let inside = slot_below g.slots u (λ none. absurd (cc (none, was))) in let even = clock_merger g o.0 in g.law.recorded u i key written (omega arith) was
recorded_merged g (Look word) o u i key written lt e = let same = ap (λ (m : Memory). m Clock) (merger_looked_same g word) in
    g.law.recorded u i key written (omega arith) e
recorded_merged g (WriteRun word n) o u i key written lt e = let same = run_other g.memory word Clock n o.1 (λ r. r) in
    g.law.recorded u i key written (omega arith) e
recorded_merged g step o u i key written lt e = g.law.recorded u i key written lt e

-- ---- no due is above the clock

-- the seat's past ends within the slots
past_ends : (s : Setting) → end_of (past_in s s.me) ≤ (v s).past
past_ends s = let e = end_of-past s.slots (v s).past (past_below s.ground s.me) in omega arith

-- the due of the seat that made the step
pub own_due : (s : Setting) (step : Step) → Opens s step → (w s step).due ≤ M s step Clock
own_due s (Decide t deed) o = let due = s.law.dues s.me in let lt = (drawn_shown s.ground s.me t o.0).1 in
    by_bool (λ a. is_exclusive (v s).mode ≡ a → cond a (v s).due (cond (x s (Decide t deed) == 0) (t + 1) (v s).due) ≤ s.memory Clock)
    (is_exclusive (v s).mode) (λ _ _. due)
    (λ _ shared. let even = clock_shared s.ground s.me (only_shared (v s).mode (s.law.holding s.me t o.0) shared) in
    by_test (λ b. cond b (t + 1) (v s).due ≤ s.memory Clock) (x s (Decide t deed)) 0 (λ _. omega arith) (λ _. due)) refl
own_due s (Unpin end) o = let past = s.law.past_clock s.me in ended_within (past_in s s.me) s.me (v s) (s.memory Clock) (s.law.dues s.me) past
    (let reach = past_ends s in omega arith) (v s).snapshot end refl o.1
own_due s (Commit members) o = omega arith
own_due s (Fill Key a) o = s.law.dues s.me
own_due s (Look Clock) o = s.law.dues s.me
own_due s step o = let le = clock_grows s step o in let due = s.law.dues s.me in omega arith

-- ---- no due is above an own undecided time

-- what is undecided after the step was so before it
was_undecided : (slot slot' : ℕ → Option Slot) (t : ℕ) → ((b : Slot) → slot t ≡ Some b → slot' t ≡ Some b) → slot' t ≡ None → slot t ≡ None
was_undecided slot slot' t stays none = is (slot t) refl where
  is : (o : Option Slot) → slot t ≡ o → slot t ≡ None
  is None e = e
  is (Some b) e = absurd (let kept = stays b e in cc (kept, none))

-- each due before the step is not above an own time that is undecided after it
own_dues_before : (s : Setting) (step : Step) → Opens s step → (i u : ℕ) → each s.z View.drawn s.views i ≡ Some u → outcome_at (S s step) u ≡ None
    → each s.z View.due s.views i ≤ u
own_dues_before s step o i u d none = s.law.own_dues i u d (was_undecided (outcome_at s.slots) (outcome_at (S s step)) u (slots_stay s step o u) none)

-- and the due after it, of the seat that made the step
own_due_below : (s : Setting) (step : Step) → Opens s step → (u : ℕ) → (w s step).drawn ≡ Some u → outcome_at (S s step) u ≡ None → (w s step).due ≤ u
own_due_below s (Draw t) o u = by_test (λ b. cond b (Some t) (v s).drawn ≡ Some u → outcome_at (S s (Draw t)) u ≡ None → (v s).due ≤ u) (x s (Draw t)) t
    (λ e d none. let due = s.law.dues s.me in let same : t ≡ u = cc in omega arith)
    (λ _ d none. own_dues_before s (Draw t) o s.me u d none)
own_due_below s (Decide t deed) o u = λ d none. absurd cc
own_due_below s (Commit members) o u = λ d none. absurd (let free = o.1 in cc)
own_due_below s (Cancel t) o u = λ d none. own_dues_before s (Cancel t) o s.me u (not_given_up (v s).drawn t u d) none
own_due_below s (Unpin end) o u = λ d none. let past = past_under s.slots (v s).past u (s.law.past s.me) none in
    ended_within (past_in s s.me) s.me (v s) u (s.law.own_dues s.me u d none) past (let reach = past_ends s in omega arith) (v s).snapshot end refl o.1
  where
    -- what is undecided is not below a past
    past_under : (slots : List (Option Slot)) (past u : ℕ) → ((t : ℕ) → t < past → outcome_at slots t ≢ None) → outcome_at slots u ≡ None → past ≤ u
    past_under slots past u decided none = elim (cases_lt u past) [ inl lt ↦ absurd (decided u lt none) | inr le ↦ le ]
own_due_below s (Fill Key a) o u = own_dues_before s (Fill Key a) o s.me u
own_due_below s (Look Clock) o u = own_dues_before s (Look Clock) o s.me u
own_due_below s step o u = own_dues_before s step o s.me u

pub own_dues_kept : (s : Setting) (step : Step) → Opens s step → AreDuesBelowOwn (each s.z View.drawn (V s step)) (outcome_at (S s step))
    (each s.z View.due (V s step))
own_dues_kept s step o = by_seat s (w s step) (λ i u. (t : ℕ) → u.drawn ≡ Some t → outcome_at (S s step) t ≡ None → u.due ≤ t)
    (own_due_below s step o) (λ i ne. own_dues_before s step o i)

pub own_dues_merged : (g : Ground) (step : Step) → OpensTo g step → AreDuesBelowOwn (each g.z View.drawn g.views) (outcome_at (slots' g step))
    (each g.z View.due g.views)
own_dues_merged g step o i u d none = g.law.own_dues i u d (was_undecided (outcome_at g.slots) (outcome_at (slots' g step)) u (slots_stay' g step o u) none)
