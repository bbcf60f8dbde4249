use Rattle.std.proofs.Common.{◌∙◌}
use Rattle.clsm_machine_caller.proofs.SeatRows.{value_of-decided, value_of-undecided}
use Rattle.clsm_machine_caller.proofs.ranges.value_of.Goals as goal
use Rattle.clsm_machine_caller.proofs.ranges.value_of.Goals.{in-Some, in_default}

pub loop-slot-preserved : goal.loop-slot-preserved
loop-slot-preserved c = elim c.match-slot.branch [
  | in-Some w ↦ w.value-is ∙ w.value_after-value.ensures ∙ value_of-decided _ _ _ _ _ _ c.loop-slot-test.true c.slot-item.is w.in-Some.is c.loop-slot.invariant
  | in_default w ↦ w.value-is ∙ value_of-undecided _ _ _ _ _ c.loop-slot-test.true c.slot-item.is w.in_default.is c.loop-slot.invariant
]
