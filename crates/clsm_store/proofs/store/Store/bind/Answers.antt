use Rattle.std.proofs.Common.{rules}
use Rattle.clsm_store.proofs.store.Store.bind.Goals as goal

pub returns-clause-callers : goal.returns-clause-callers
returns-clause-callers g c = search rules

pub returns-clause-merger : goal.returns-clause-merger
returns-clause-merger g c = search rules
