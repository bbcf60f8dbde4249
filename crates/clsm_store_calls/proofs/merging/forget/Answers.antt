use Rattle.std.proofs.Common.{rules}
use Rattle.clsm_store_calls.proofs.merging.forget.Goals as goal

pub returns : goal.returns
returns c = search rules
