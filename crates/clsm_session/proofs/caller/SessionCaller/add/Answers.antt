use Rattle.std.proofs.Common.{rules}
use Rattle.clsm_session.proofs.caller.SessionCaller.add.Goals as goal

pub returns : goal.returns
returns g c = search rules
