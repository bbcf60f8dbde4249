use Rattle.std.proofs.Common.{rules}
use Rattle.clsm_store.proofs.store.Store.get_many.Goals as goal

pub returns : goal.returns
returns g c = search rules
