use Rattle.std.proofs.Common.{◌↔◌, IsTrue, ℕ, ◌<◌}
use Rattle.std.specs.BTreeSet.{contains}
use Rattle.std.specs.Ordering.{nat_cmp}
use Rattle.clsm_audit.specs.Faults.{IsSecondAt}
use Rattle.clsm_audit.specs.Written.{IsWrittenBefore}
use Rattle.clsm_audit.proofs.passes.first_second.Given as goal

abbrev pub invariant-loop-index : goal.invariant-loop-index
invariant-loop-index l = record {
  times : (t : ℕ) → IsTrue (contains nat_cmp l.times t) ↔ IsWrittenBefore l.records l.index t;
  alone : (i : ℕ) → i < l.index → ¬ IsSecondAt l.records i;
}
