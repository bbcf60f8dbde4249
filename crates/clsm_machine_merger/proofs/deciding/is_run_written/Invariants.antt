use Rattle.clsm_law.specs.Layout.{memory}
use Rattle.clsm_machine_merger.proofs.MergingRuns.{AreInOrder}
use Rattle.clsm_machine_merger.proofs.deciding.is_run_written.Given as goal

abbrev pub invariant-loop-index : goal.invariant-loop-index
invariant-loop-index l = AreInOrder (memory l.layout l.words) l.target 0 l.index
