use Rattle.std.proofs.Common.{rules}
use Rattle.clsm_store_calls.proofs.snapshotting.open_at.Goals as goal

pub returns-clause-opens : goal.returns-clause-opens
returns-clause-opens g c = search rules
