use Rattle.std.proofs.Common.{rules}
use Rattle.clsm_store.proofs.play.call.Call.of_deal.Goals as goal

pub returns-clause-call : goal.returns-clause-call
returns-clause-call c = search rules
