use Rattle.std.proofs.Common.{◌≡◌, ◌++◌, replicate, drop}
use Rattle.clsm_law.specs.Merging.{unseen}
use Rattle.clsm_machine_merger.proofs.readers.forget.Given as goal

abbrev pub invariant-loop-index : goal.invariant-loop-index
invariant-loop-index l = l.readers ≡ replicate l.index unseen ++ drop l.index l.initial.readers
