use Rattle.std.specs.BTreeSet.{contains}
use Rattle.std.specs.Ordering.{nat_cmp}
use Rattle.clsm_audit.proofs.Seconds.{AreTaken}
use Rattle.clsm_audit.proofs.passes.is_second.Given as goal

abbrev pub invariant-loop-time : goal.invariant-loop-time
invariant-loop-time l = AreTaken (contains nat_cmp l.fn.times) (contains nat_cmp l.times) l.call.time l.time
