use Rattle.std.proofs.Common.{rules}
use Rattle.clsm_store.proofs.store.Store.try_batch_if.Goals as goal

pub returns : goal.returns
returns g c = search rules
