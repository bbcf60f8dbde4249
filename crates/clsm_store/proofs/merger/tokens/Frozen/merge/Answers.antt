use Rattle.std.proofs.Common.{rules}
use Rattle.clsm_store.proofs.merger.tokens.Frozen.merge.Goals as goal

pub returns-in-Err : goal.returns-in-Err
returns-in-Err g c = search rules
