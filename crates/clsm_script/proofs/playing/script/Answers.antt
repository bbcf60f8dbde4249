use Rattle.clsm_script.proofs.Chains.{status_known}
use Rattle.clsm_script.proofs.playing.script.Goals as goal

pub returns-clause-status : goal.returns-clause-status
returns-clause-status g c =
    status_known c.args.setting.now.config _ c.in-Err.failure c.status.result c.status.ensures c.in-Err.ensures.stopped
