use Rattle.std.proofs.Common.{◌≡◌, ◌++◌}
use Rattle.clsm_levels.specs.Entry.{entries_of, decided_slots}
use Rattle.clsm_levels.proofs.epoch.entries_of.Given as goal

abbrev pub invariant-loop-time : goal.invariant-loop-time
invariant-loop-time l = l.entries.items ++ entries_of (decided_slots l.slots) l.from l.time ≡ entries_of (decided_slots l.slots) l.from l.to
