use Rattle.std.proofs.Common.{◌≡◌}
use Rattle.clsm_bench.proofs.calls.work.Given as goal

abbrev pub invariant-loop-index : goal.invariant-loop-index
invariant-loop-index g l = l.answered ≡ l.index
