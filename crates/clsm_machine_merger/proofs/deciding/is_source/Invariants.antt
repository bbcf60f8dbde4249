use Rattle.std.proofs.Common.{◌≡◌, ℕ, ◌<◌, Some}
use Rattle.clsm_machine_merger.specs.MergeReads.{source}
use Rattle.clsm_machine_merger.proofs.deciding.is_source.Given as goal

abbrev pub invariant-loop-number : goal.invariant-loop-number
invariant-loop-number l = (k : ℕ) → k < l.number → source l.merge k ≡ Some l.entry → ⊥
