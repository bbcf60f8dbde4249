use Rattle.std.proofs.Common.{rules}
use Rattle.clsm_session.proofs.caller.SessionCaller.put.Goals as goal

pub returns : goal.returns
returns g c = search rules
