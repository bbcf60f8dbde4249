use Rattle.std.proofs.Common.{◌≡◌}
use Rattle.clsm_model.specs.History.{value}
use Rattle.clsm_law.specs.Worlds.{history_of}
use Rattle.clsm_machine_caller.proofs.ranges.value_of.Given as goal

abbrev pub invariant-loop-slot : goal.invariant-loop-slot
invariant-loop-slot l = l.value ≡ value (history_of l.seen) l.key l.slot-index
