-- A step that may be made is open where no batch is in its way.
use Rattle.std.proofs.Common.{ℕ, refl, arith, Option, Some, None}
use Rattle.clsm_model.specs.declared.record.Deed.{Deed}
use Rattle.clsm_model.specs.declared.record.Deed.TheVariants.{Rmw, Snapshot}
use Rattle.clsm_model.specs.History.{History}
use Rattle.clsm_law.specs.declared.step.Step.{Step}
use Rattle.clsm_law.specs.declared.step.Step.TheVariants.{Decide, Unpin, RaiseFront}
use Rattle.clsm_law.specs.declared.step.End.{End}
use Rattle.clsm_law.specs.declared.step.End.TheVariants.{Neither, Meeting, Recorded}
use Rattle.clsm_law.specs.declared.view.View.{View}
use Rattle.clsm_law.specs.declared.view.SnapshotState.{SnapshotState}
use Rattle.clsm_law.specs.declared.view.SnapshotState.TheVariants.{Noted, Timed}
use Rattle.clsm_law.specs.OpenSteps.{IsReadBelow, IsRightAt, IsEndingWith, time_of_read}
use Rattle.clsm_law.specs.Worlds.{past_of, open_past}
use Rattle.clsm_law.proofs.Setting.{Setting, v, Opens, Allows}
use Rattle.clsm_law.proofs.Records.Histories.{GoesOn, IsRight-goes_on}

module _ (h h' : History) (on : GoesOn h h') (u : View) where
  below_plain : (t : ℕ) (deed : Deed) → IsReadBelow h u t deed → IsReadBelow h' u t deed
  below_plain t (Rmw key old change) r = (r.0, IsRight-goes_on h h' t (Rmw key old change) on r.1)
  below_plain t deed r = tt

  at_plain : (deed : Deed) (o : Option ℕ) → IsRightAt h u deed o → IsRightAt h' u deed o
  at_plain deed None r = absurd r
  at_plain deed (Some s) r = (r.0, IsRight-goes_on h h' s deed on r.1)

  ending_plain : (n : SnapshotState) (end : End) → IsEndingWith h u n end → IsEndingWith h' u n end
  ending_plain (Noted b) end p = absurd p
  ending_plain (Timed b s) Neither p = absurd p
  ending_plain (Timed b s) Meeting p = absurd p
  ending_plain (Timed b s) (Recorded Snapshot) p = (p.0, IsRight-goes_on h h' s Snapshot on p.1)
  ending_plain (Timed b s) (Recorded deed) p = absurd p
  ending_plain n Neither p = tt
  ending_plain n Meeting p = p
  ending_plain n (Recorded deed) p = at_plain deed (time_of_read u deed) p

-- the past without the batches goes on from that with them
plain_on : (s : Setting) → GoesOn (open_past s.slots s.batches (v s).past) (past_of s.slots (v s).past)
plain_on s = record { plain = refl; longer = omega arith; same = λ t lt. refl }

pub opens_plain : (s : Setting) (step : Step) → Allows s step → Opens s step
opens_plain s (Decide t deed) o =
    (o.0, o.1, o.2, below_plain (open_past s.slots s.batches (v s).past) (past_of s.slots (v s).past) (plain_on s) (v s) t deed o.3, o.4)
opens_plain s (Unpin end) o = (
  o.0,
  ending_plain (open_past s.slots s.batches (v s).past) (past_of s.slots (v s).past) (plain_on s) (v s)
      (v s).snapshot end o.1,
)
opens_plain s (RaiseFront t) o = (o.0, tt)
opens_plain s step o = o
