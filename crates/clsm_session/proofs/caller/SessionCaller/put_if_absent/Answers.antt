use Rattle.std.proofs.Common.{rules}
use Rattle.clsm_session.proofs.caller.SessionCaller.put_if_absent.Goals as goal

pub returns : goal.returns
returns g c = search rules
