use Rattle.std.proofs.Common.{rules}
use Rattle.clsm_store.proofs.merger.tokens.Clean.freeze.Goals as goal

pub returns : goal.returns
returns g c = search rules
