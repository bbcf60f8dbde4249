use Rattle.std.proofs.Common.{rules}
use Rattle.clsm_store.proofs.store.Store.read_many.Goals as goal

pub returns-clause-lock : goal.returns-clause-lock
returns-clause-lock g c = search rules
