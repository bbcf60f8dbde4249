use Rattle.std.proofs.Common.{subst}
use Rattle.clsm_store.specs.Phase.{Freezes}
use Rattle.clsm_store.proofs.SweepParts.{froze_behind}
use Rattle.clsm_store.proofs.merger.Merger.sweep.Goals as goal

pub returns-in-Ok-clause-sweeps : goal.returns-in-Ok-clause-sweeps
returns-in-Ok-clause-sweeps g c =
    let mid = c.freeze-merger.result.0.phase in
    froze_behind c.args.self.phase mid c.finish.result.0.phase c.in-Ok.field-0 c.finish.result.1
    (subst (Freezes c.args.self.phase mid) c.in-Ok.is c.freeze-merger.ensures.freezes) c.finish.ensures.finishes
