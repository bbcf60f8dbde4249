use Rattle.std.proofs.Common.{rules}
use Rattle.clsm_store_calls.proofs.writing.write.Goals as goal

pub returns-clause-written : goal.returns-clause-written
returns-clause-written g c = search rules
