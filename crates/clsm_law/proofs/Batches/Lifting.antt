-- A step that is open to a seat by its own past alone may be made: the law says that no batch is in
-- its way, but where the seat raises the front.
use Rattle.std.proofs.Common.{◌≡◌, ℕ, ◌⊎◌, List, [], ◌∷◌, refl, ap, ◌∙◌, arith, ⊎_elim, Option, Some, None}
use Rattle.std.specs.List.{AllByRecursion}
use Rattle.clsm_model.specs.declared.batch.Batch.{Batch}
use Rattle.clsm_model.specs.declared.slot.Slot.{Slot}
use Rattle.clsm_model.specs.declared.slot.Slot.TheVariants.{Nothing}
use Rattle.clsm_model.specs.declared.slot.Change.TheVariants.{Keep, Set, Remove as Erase}
use Rattle.clsm_model.specs.declared.record.Deed.{Deed}
use Rattle.clsm_model.specs.declared.record.Deed.TheVariants.{Put, Remove, Rmw, Get, Snapshot, Close, GetAt, Scan, Page, Batch as Group}
use Rattle.clsm_model.specs.History.{IsUncut, or_else}
use Rattle.clsm_model.specs.Right.{IsRight}
use Rattle.clsm_model.proofs.Histories.{Reads-same}
use Rattle.clsm_law.specs.declared.step.Step.{Step}
use Rattle.clsm_law.specs.declared.step.Step.TheVariants.{Decide, Unpin, RaiseFront}
use Rattle.clsm_law.specs.declared.step.End.{End}
use Rattle.clsm_law.specs.declared.step.End.TheVariants.{Neither, Meeting, Recorded}
use Rattle.clsm_law.specs.declared.view.SnapshotState.{SnapshotState}
use Rattle.clsm_law.specs.declared.view.SnapshotState.TheVariants.{Absent, Noted, Timed, Open}
use Rattle.clsm_law.specs.OpenSteps.{IsOpen, IsReadBelow, IsRightAt, IsEndingWith, open_time, time_of_read}
use Rattle.clsm_law.specs.Worlds.{outcome_at, past_of, open_past}
use Rattle.clsm_law.specs.Batches.{IsWritten, snapshot_time}
use Rattle.clsm_law.specs.Raising.{MayRaise, IsRaise}
use Rattle.clsm_law.proofs.Setting.{Setting, v}
use Rattle.clsm_law.proofs.Stepping.Steps.{May}

-- a time that came to no write is inside no batch
unwritten_uncut : (slot : ℕ → Option Slot) (bs : List Batch) (t : ℕ) → (slot t ≡ None) ⊎ (slot t ≡ Some Nothing) → AllByRecursion (IsWritten slot) bs
    → IsUncut bs t
unwritten_uncut slot [] t none all = tt
unwritten_uncut slot (b ∷ bs) t none all = (
  λ i. let low = i.0 in let high = i.1 in let written = all.0 t (omega arith) high in
      ⊎_elim (λ (e : slot t ≡ None). written.0 e) (λ (e : slot t ≡ Some Nothing). written.1 e) none,
  unwritten_uncut slot bs t none all.1,
)

module _ (s : Setting) where
  -- a drawn time is inside none
  drawn_uncut : (t : ℕ) → (v s).drawn ≡ Some t → IsUncut s.batches t
  drawn_uncut t e = unwritten_uncut (outcome_at s.slots) s.batches t (s.law.pending s.me t e).2 s.law.written

  opened_uncut : (n : SnapshotState) (t : ℕ) → (v s).snapshot ≡ n → open_time n ≡ Some t → IsUncut s.batches t
  opened_uncut (Open b u) t is e = s.law.uncut_snapshots s.me t (ap snapshot_time is ∙ e)
  opened_uncut Absent t is e = absurd cc
  opened_uncut (Noted b) t is e = absurd cc
  opened_uncut (Timed b u) t is e = absurd cc

  -- nor is the time at which a read stands
  ranged_uncut : (o : Option ℕ) (t : ℕ) → open_time (v s).snapshot ≡ o → or_else o (v s).pin_clock ≡ Some t → IsUncut s.batches t
  ranged_uncut (Some u) t is e = opened_uncut (v s).snapshot t refl (is ∙ e)
  ranged_uncut None t is e = s.law.uncut_pins s.me t e

  read_uncut : (deed : Deed) (t : ℕ) → time_of_read (v s) deed ≡ Some t → IsUncut s.batches t
  read_uncut (Get key reply) t e = s.law.uncut_pins s.me t e
  read_uncut (Rmw key old Keep) t e = s.law.uncut_pins s.me t e
  read_uncut (Rmw key old (Set written)) t e = absurd cc
  read_uncut (Rmw key old Erase) t e = absurd cc
  read_uncut (GetAt key reply) t e = opened_uncut (v s).snapshot t refl e
  read_uncut (Scan lo hi rows) t e = ranged_uncut (open_time (v s).snapshot) t refl e
  read_uncut (Page range rows more) t e = ranged_uncut (open_time (v s).snapshot) t refl e
  read_uncut (Put key written) t e = absurd cc
  read_uncut (Remove key) t e = absurd cc
  read_uncut Snapshot t e = absurd cc
  read_uncut Close t e = absurd cc
  read_uncut (Group members) t e = absurd cc

  -- what is right by the slots is right at a time that is uncut
  right_open : (t : ℕ) (deed : Deed) → IsUncut s.batches t → IsRight (past_of s.slots (v s).past) t deed
      → IsRight (open_past s.slots s.batches (v s).past) t deed
  right_open t deed uncut r = record {
    readable = record { reached = r.readable.reached; uncut = uncut };
    reads = Reads-same (past_of s.slots (v s).past) (open_past s.slots s.batches (v s).past) t deed (λ u lt. refl) r.reads;
  }

  below_open : (t : ℕ) (deed : Deed) → (v s).drawn ≡ Some t → IsReadBelow (past_of s.slots (v s).past) (v s) t deed
      → IsReadBelow (open_past s.slots s.batches (v s).past) (v s) t deed
  below_open t (Rmw key old change) e r = (r.0, right_open t (Rmw key old change) (drawn_uncut t e) r.1)
  below_open t deed e r = tt

  at_open : (deed : Deed) (o : Option ℕ) → time_of_read (v s) deed ≡ o → IsRightAt (past_of s.slots (v s).past) (v s) deed o
      → IsRightAt (open_past s.slots s.batches (v s).past) (v s) deed o
  at_open deed None e r = absurd r
  at_open deed (Some t) e r = (r.0, right_open t deed (read_uncut deed t e) r.1)

  ending_open : (n : SnapshotState) (end : End) → (v s).snapshot ≡ n → IsEndingWith (past_of s.slots (v s).past) (v s) n end
      → IsEndingWith (open_past s.slots s.batches (v s).past) (v s) n end
  ending_open (Noted b) end is p = absurd p
  ending_open (Timed b t) Neither is p = absurd p
  ending_open (Timed b t) Meeting is p = absurd p
  ending_open (Timed b t) (Recorded Snapshot) is p = (p.0, right_open t Snapshot (s.law.uncut_snapshots s.me t (ap snapshot_time is)) p.1)
  ending_open (Timed b t) (Recorded deed) is p = absurd p
  ending_open n Neither is p = tt
  ending_open n Meeting is p = p
  ending_open n (Recorded deed) is p = at_open deed (time_of_read (v s) deed) refl p

  raise_uncut : (t : ℕ) → MayRaise (v s) t → IsUncut s.batches t
  raise_uncut t may = ⊎_elim (λ (e : (v s).pin_clock ≡ Some t). s.law.uncut_pins s.me t e)
      (λ (or : (snapshot_time (v s).snapshot ≡ Some t) ⊎ ((v s).drawn ≡ Some t)). ⊎_elim
      (λ (e : snapshot_time (v s).snapshot ≡ Some t). s.law.uncut_snapshots s.me t e) (λ (e : (v s).drawn ≡ Some t). drawn_uncut t e) or) may

  pub lifted : (step : Step) → IsOpen s.z (past_of s.slots (v s).past) (v s) step → IsRaise (v s) step → May s step
  lifted (Decide t deed) o may = (o.0, o.1, o.2, below_open t deed o.0 o.3, o.4)
  lifted (Unpin end) o may = (o.0, ending_open (v s).snapshot end refl o.1)
  lifted (RaiseFront t) o may = (o.0, raise_uncut t may)
  lifted step o may = o
