use Rattle.std.proofs.Common.{take}
use Rattle.clsm_planner.specs.declared.testing.Reading.{Reading}
use Rattle.clsm_planner.specs.Testing.{AreAllMet}
use Rattle.clsm_planner.proofs.place.Place.test_all.Given as goal

-- those tested so far hold
abbrev pub invariant-loop-condition : goal.invariant-loop-condition
invariant-loop-condition l =
    AreAllMet (λ (r : Reading). r.time) (λ (r : Reading). r.deed) l.self.time (take l.condition-index l.conditions) l.readings.items
