use Rattle.clsm_audit.proofs.Calls.{AreStates-push}
use Rattle.clsm_audit.proofs.seat.advance.Goals as goal

pub returns : goal.returns
returns c = λ records before. AreStates-push records c.args.call.now c.args.states.now c.after.result _ c.requires.seat c.after.ensures before
