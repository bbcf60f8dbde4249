-- How the clause of rising times is kept: each seat's calls rise to its due, and leave its snapshot
-- open or closed.
use Rattle.std.proofs.Common.{◌≡◌, ℕ, ◌+◌, ◌≤◌, ◌==◌, false, cond, List, [], ◌∷◌, ◌++◌, length, sym, refl, ap, ◌∙◌, subst, arith, Option, Some, None}
use Rattle.std.specs.Prelude.{is_some}
use Rattle.clsm_model.specs.declared.slot.Change.TheVariants.{Keep, Set, Remove as Erase}
use Rattle.clsm_model.specs.declared.record.Deed.{Deed}
use Rattle.clsm_model.specs.declared.record.Deed.TheVariants.{Put, Remove, Rmw, Get, Snapshot, Close, GetAt, Scan, Page, Batch as Group}
use Rattle.clsm_model.specs.declared.record.CallRecord.{CallRecord}
use Rattle.clsm_model.specs.History.{History, or_else}
use Rattle.clsm_model.specs.Right.{write_by}
use Rattle.clsm_law.specs.declared.step.Step.{Step}
use Rattle.clsm_law.specs.declared.step.Step.TheVariants.{Fill, Decide, Commit, Unpin, Look, Note, CloseSnapshot}
use Rattle.clsm_law.specs.declared.step.End.{End}
use Rattle.clsm_law.specs.declared.step.End.TheVariants.{Neither, Meeting, Recorded}
use Rattle.clsm_law.specs.declared.word.Word.TheVariants.{Clock}
use Rattle.clsm_law.specs.declared.word.Part.TheVariants.{Key}
use Rattle.clsm_law.specs.declared.view.View.{View}
use Rattle.clsm_law.specs.declared.view.SnapshotState.{SnapshotState}
use Rattle.clsm_law.specs.declared.view.SnapshotState.TheVariants.{Absent, Noted, Timed, Open}
use Rattle.clsm_law.specs.Views.{or_zero, is_exclusive, SaysWrite}
use Rattle.clsm_law.specs.OpenSteps.{open_time, timed, time_of_read, is_old, IsRightAt, IsMetAt, IsEndingWith, IsOpenSnapshot}
use Rattle.clsm_law.specs.Relation.{timed_by, ended_calls, ended_due, ended_snapshot, call_of}
use Rattle.clsm_law.specs.Worlds.{past_of}
use Rattle.clsm_model.specs.Seats.{IsNextRead, IsRising}
use Rattle.clsm_law.specs.Law.{each, AreRising}
use Rattle.clsm_model.proofs.Rising.{Follows, rising_later, rising_next}
use Rattle.clsm_law.proofs.Cases.{by_test, by_bool}
use Rattle.clsm_law.proofs.Setting.{Setting, Ground, v, x, w, V, Opens, OpensTo, by_seat}
use Rattle.clsm_law.proofs.Clock.Kept.{commits_at}
use Rattle.clsm_law.proofs.Growth.{decides_undecided}

-- ---- a write: its record comes next, and moves the due past its time

writes_next : (u : View) (i t due : ℕ) (snapshot : Option ℕ) (deed : Deed) → SaysWrite u (write_by 0 deed) → due ≤ t
    → Follows due snapshot (call_of i t deed) (t + 1) snapshot
writes_next u i t due snapshot (Put key written) says le = record { next = λ d a. omega arith; within = λ d a. omega arith; opens = refl }
writes_next u i t due snapshot (Remove key) says le = record { next = λ d a. omega arith; within = λ d a. omega arith; opens = refl }
writes_next u i t due snapshot (Rmw key old Keep) says le = absurd says
writes_next u i t due snapshot (Rmw key old (Set written)) says le = record { next = λ d a. omega arith; within = λ d a. omega arith; opens = refl }
writes_next u i t due snapshot (Rmw key old Erase) says le = record { next = λ d a. omega arith; within = λ d a. omega arith; opens = refl }
writes_next u i t due snapshot deed says le = absurd says

-- ---- the end of a read, by its deed, the time at which it stands, and the open snapshot

-- a read at the clock stands at or above the due
new_read : (h : History) (u : View) (deed : Deed) (o : Option ℕ) → is_old u deed ≡ false → IsRightAt h u deed o → u.due ≤ or_zero o
new_read h u deed None new r = absurd r
new_read h u deed (Some s) new r = r.0 new

-- a read at the open snapshot stands at its time
old_read : (h : History) (u : View) (deed : Deed) (o : Option ℕ) → IsRightAt h u deed o → o ≡ Some (or_zero o)
old_read h u deed None r = absurd r
old_read h u deed (Some s) r = refl

-- a read of either kind: the open snapshot's time, where there is one, or else the clock
module _ (h : History) (u : View) (deed : Deed) (pin_clock : Option ℕ) where
  ranged_next : (o : Option ℕ) → IsRightAt h u deed (or_else o pin_clock) → is_old u deed ≡ is_some o → (d : ℕ) → d ≤ u.due
      → IsNextRead d o (or_zero (or_else o pin_clock))
  ranged_next None r old d le = let new = new_read h u deed pin_clock old r in omega arith
  ranged_next (Some s) r old d le = refl

  ranged_within : (o : Option ℕ) → IsRightAt h u deed (or_else o pin_clock) → (d : ℕ) → d ≤ u.due
      → cond (is_some o) d (or_zero (or_else o pin_clock)) ≤ cond (is_some o) u.due (or_zero (or_else o pin_clock))
  ranged_within None r d le = omega arith
  ranged_within (Some s) r d le = le

module _ (h : History) (u : View) (i : ℕ) where
  -- the record of a read comes next, and leaves the open snapshot
  read_next : (deed : Deed) → IsRightAt h u deed (time_of_read u deed)
      → Follows u.due (open_time u.snapshot) (call_of i (or_zero (time_of_read u deed)) deed) (cond (is_old u deed) u.due (or_zero (time_of_read u deed)))
      (open_time u.snapshot)
  read_next (Put key written) r = absurd r
  read_next (Remove key) r = absurd r
  read_next (Rmw key old Keep) r = let new = new_read h u (Rmw key old Keep) u.pin_clock refl r in
      record { next = λ d a. omega arith; within = λ d a. omega arith; opens = refl }
  read_next (Rmw key old (Set written)) r = absurd r
  read_next (Rmw key old Erase) r = absurd r
  read_next (Get key reply) r = let new = new_read h u (Get key reply) u.pin_clock refl r in
      record { next = λ d a. omega arith; within = λ d a. omega arith; opens = refl }
  read_next Snapshot r = absurd r
  read_next Close r = absurd r
  read_next (GetAt key reply) r = record { next = λ d a. old_read h u (GetAt key reply) (open_time u.snapshot) r; within = λ d a. a; opens = refl }
  read_next (Scan lo hi rows) r = record {
    next = ranged_next h u (Scan lo hi rows) u.pin_clock (open_time u.snapshot) r refl;
    within = ranged_within h u (Scan lo hi rows) u.pin_clock (open_time u.snapshot) r;
    opens = refl;
  }
  read_next (Group members) r = absurd r
  read_next (Page range rows more) r = record {
    next = ranged_next h u (Page range rows more) u.pin_clock (open_time u.snapshot) r refl;
    within = ranged_within h u (Page range rows more) u.pin_clock (open_time u.snapshot) r;
    opens = refl;
  }

  -- the record of a snapshot opens it at its time
  opens_next : (b s : ℕ) → u.due ≤ s → Follows u.due (open_time (Timed b s)) (call_of i s Snapshot) s (Some s)
  opens_next b s le = record { next = λ d a. (refl, omega arith); within = λ d a. omega arith; opens = refl }

  -- and its close stands there
  closes_next : (n : SnapshotState) → IsOpenSnapshot n → Follows u.due (open_time n) (call_of i (or_zero (open_time n)) Close) u.due None
  closes_next (Open b s) opened = record { next = λ d a. refl; within = λ d a. a; opens = refl }
  closes_next Absent opened = absurd opened
  closes_next n opened = absurd opened

  -- a meeting raises the due
  met_later : (o : Option ℕ) → IsMetAt u o → u.due ≤ or_zero o
  met_later None p = absurd p
  met_later (Some s) p = p.0

  -- what a read's end makes of rising calls
  module _ (rising : IsRising u.calls u.due (open_time u.snapshot)) where
    -- where no snapshot was noted under the pin, the open one stays
    module _ (same : open_time (ended_snapshot u.snapshot) ≡ open_time u.snapshot) where
      abbrev Ended : List CallRecord → ℕ → Type 0
      Ended calls due = IsRising calls due (open_time (ended_snapshot u.snapshot))

      no_record : (due : ℕ) → u.due ≤ due → Ended (u.calls ++ []) due
      no_record due le = subst (IsRising (u.calls ++ []) due) (sym same) (rising_later u.calls u.due due (open_time u.snapshot) rising le)

      one_record : (deed : Deed) → IsRightAt h u deed (time_of_read u deed)
          → Ended (u.calls ++ call_of i (or_zero (time_of_read u deed)) deed ∷ []) (cond (is_old u deed) u.due (or_zero (time_of_read u deed)))
      one_record deed r = let t = or_zero (time_of_read u deed) in let due' = cond (is_old u deed) u.due t in
          subst (IsRising (u.calls ++ call_of i t deed ∷ []) due') (sym same)
          (rising_next u.calls u.due due' (open_time u.snapshot) (open_time u.snapshot) (call_of i t deed) rising (read_next deed r))

    pub ended_rising : (n : SnapshotState) (end : End) → u.snapshot ≡ n → IsEndingWith h u n end
        → IsRising (u.calls ++ ended_calls i u end) (ended_due u end) (open_time (ended_snapshot u.snapshot))
    ended_rising (Noted b) end e p = absurd p
    ended_rising (Timed b s) Neither e p = absurd p
    ended_rising (Timed b s) Meeting e p = absurd p
    ended_rising (Timed b s) (Recorded Snapshot) e p =
        subst (λ (n : SnapshotState). IsRising (u.calls ++ call_of i (or_zero (timed n)) Snapshot ∷ []) (or_zero (timed n)) (open_time (ended_snapshot n)))
        (sym e)
        (rising_next u.calls u.due s None (Some s) (call_of i s Snapshot) (subst (λ (n : SnapshotState). IsRising u.calls u.due (open_time n)) e rising)
        (opens_next b s p.0))
    ended_rising (Timed b s) (Recorded deed) e p = absurd p
    ended_rising n Neither e p = no_record (ap (λ (m : SnapshotState). open_time (ended_snapshot m)) e ∙ sym (ap open_time e)) u.due (omega arith)
    ended_rising n Meeting e p = no_record (ap (λ (m : SnapshotState). open_time (ended_snapshot m)) e ∙ sym (ap open_time e)) (or_zero u.pin_clock)
        (met_later u.pin_clock p)
    ended_rising n (Recorded Snapshot) e p = absurd p
    ended_rising n (Recorded deed) e p = one_record (ap (λ (m : SnapshotState). open_time (ended_snapshot m)) e ∙ sym (ap open_time e)) deed p

-- ---- the clause

-- a look at the clock opens no snapshot
timed_open : (n : SnapshotState) (x : ℕ) → open_time (timed_by n x) ≡ open_time n
timed_open (Noted b) x = refl
timed_open n x = refl

-- the calls of the seat that made the step
own_rising : (s : Setting) (step : Step) → Opens s step → IsRising (w s step).calls (w s step).due (open_time (w s step).snapshot)
own_rising s (Decide t deed) o =
    by_bool (λ a. IsRising (cond a (v s).calls (cond (x s (Decide t deed) == 0) ((v s).calls ++ call_of s.me t deed ∷ []) (v s).calls))
    (cond a (v s).due (cond (x s (Decide t deed) == 0) (t + 1) (v s).due)) (open_time (v s).snapshot)) (is_exclusive (v s).mode) (λ _. s.law.rising s.me)
    (λ _.
    by_test (λ b. IsRising (cond b ((v s).calls ++ call_of s.me t deed ∷ []) (v s).calls) (cond b (t + 1) (v s).due) (open_time (v s).snapshot))
    (x s (Decide t deed)) 0
    (λ e. rising_next (v s).calls (v s).due (t + 1) (open_time (v s).snapshot) (open_time (v s).snapshot) (call_of s.me t deed) (s.law.rising s.me)
    (writes_next (v s) s.me t (v s).due (open_time (v s).snapshot) deed o.2 (s.law.own_dues s.me t o.0 (decides_undecided s t o.0 e))))
    (λ _. s.law.rising s.me))
own_rising s (Commit members) o = let c = or_zero (v s).hold_clock in let at = commits_at s members o in let due = s.law.dues s.me in
    rising_next (v s).calls (v s).due (c + length members) (open_time (v s).snapshot) (open_time (v s).snapshot) (call_of s.me c (Group members))
    (s.law.rising s.me) (record { next = λ d le. omega arith; within = λ d le. omega arith; opens = refl })
own_rising s (Unpin end) o = ended_rising (past_of s.slots (v s).past) (v s) s.me (s.law.rising s.me) (v s).snapshot end refl o.1
own_rising s (Look Clock) o = subst (IsRising (v s).calls (v s).due) (sym (timed_open (v s).snapshot (x s (Look Clock)))) (s.law.rising s.me)
own_rising s (Note b) o = subst (λ (n : SnapshotState). IsRising (v s).calls (v s).due (open_time n)) o.0 (s.law.rising s.me)
own_rising s CloseSnapshot o = let n = (v s).snapshot in
    rising_next (v s).calls (v s).due (v s).due (open_time n) None (call_of s.me (or_zero (open_time n)) Close) (s.law.rising s.me)
    (closes_next (past_of s.slots (v s).past) (v s) s.me n o)
own_rising s (Fill Key a) o = s.law.rising s.me
own_rising s step o = s.law.rising s.me

pub rising_kept : (s : Setting) (step : Step) → Opens s step → AreRising (each s.z View.calls (V s step)) (each s.z View.due (V s step))
    (each s.z View.snapshot (V s step))
rising_kept s step o = by_seat s (w s step) (λ i u. IsRising u.calls u.due (open_time u.snapshot)) (own_rising s step o)
    (λ i ne. s.law.rising i)

pub rising_merged : (g : Ground) (step : Step) → OpensTo g step
    → AreRising (each g.z View.calls g.views) (each g.z View.due g.views) (each g.z View.snapshot g.views)
rising_merged g step o = g.law.rising
