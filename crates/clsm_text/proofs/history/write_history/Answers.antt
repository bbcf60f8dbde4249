use Rattle.clsm_text.proofs.Verdicts.{grows_on}
use Rattle.clsm_text.proofs.history.write_history.Goals as goal

pub loop-stamp-preserved : goal.loop-stamp-preserved
loop-stamp-preserved g c = grows_on _ _ _ c.loop-stamp.invariant c.in_ok-write_stamped.ensures.grows
