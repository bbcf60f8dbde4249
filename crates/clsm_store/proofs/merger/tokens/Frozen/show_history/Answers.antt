use Rattle.std.proofs.Common.{subst}
use Rattle.clsm_store_calls.specs.Merging.{IsOfHistory}
use Rattle.clsm_store_calls.proofs.Prepared.{of_history}
use Rattle.clsm_store.proofs.merger.tokens.Frozen.show_history.Goals as goal

pub returns : goal.returns
returns c =
    let merger = c.self.inside.merger in
    let past = merger.raw.knows.past in
    (past, subst (IsOfHistory past) c.self.view_is (of_history merger c.show_invariant.ensures c.self.invariant.0 c.self.invariant.1))
