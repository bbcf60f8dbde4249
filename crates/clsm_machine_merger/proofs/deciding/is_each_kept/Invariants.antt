use Rattle.std.proofs.Common.{ℕ, ◌<◌}
use Rattle.clsm_law.specs.Layout.{memory}
use Rattle.clsm_law.specs.Places.{entry_in}
use Rattle.clsm_law.specs.Deciding.{IsKept}
use Rattle.clsm_machine_merger.specs.MergeReads.{sources}
use Rattle.clsm_machine_merger.proofs.deciding.is_each_kept.Given as goal

abbrev pub invariant-loop-index : goal.invariant-loop-index
invariant-loop-index l = (k : ℕ) → k < l.index → IsKept l.merge.merger.now (sources l.merge) (entry_in (memory l.merge.layout.now l.merge.words.now) l.target k)
