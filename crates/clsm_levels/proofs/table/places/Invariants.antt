use Rattle.std.proofs.Common.{◌≡◌, ◌++◌, ◌%◌}
use Rattle.clsm_levels.specs.Place.{level_zero_places}
use Rattle.clsm_levels.proofs.table.places.Given as goal

abbrev pub invariant-loop-number : goal.invariant-loop-number
invariant-loop-number l = l.named.items ++ level_zero_places l.number ≡ level_zero_places (l.merges % 4)
