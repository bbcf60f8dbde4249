use Rattle.std.proofs.Common.{rules}
use Rattle.clsm_store.proofs.store.Store.batch_if.Goals as goal

pub returns : goal.returns
returns g c = search rules
