use Rattle.std.proofs.Common.{rules}
use Rattle.clsm_store.proofs.play.get_at.Goals as goal

pub returns : goal.returns
returns g c = search rules
