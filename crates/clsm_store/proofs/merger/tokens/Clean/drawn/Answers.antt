use Rattle.std.proofs.Common.{rules}
use Rattle.clsm_store.proofs.merger.tokens.Clean.drawn.Goals as goal

pub returns-clause-drawn : goal.returns-clause-drawn
returns-clause-drawn g c = search rules
