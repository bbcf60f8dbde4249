use Rattle.std.proofs.Common.{◌≡◌, replicate}
use Rattle.clsm_law.specs.Merging.{unseen}
use Rattle.clsm_machine_merger.proofs.beginning.opening.Given as goal

abbrev pub invariant-loop : goal.invariant-loop
invariant-loop l = l.readers ≡ replicate l.counter unseen
