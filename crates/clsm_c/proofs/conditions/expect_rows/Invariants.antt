use Rattle.std.proofs.Common.{[], take}
use Rattle.clsm_c.specs.Conditional.{AreConditions}
use Rattle.clsm_c.proofs.conditions.expect_rows.Given as goal

abbrev pub invariant-loop-row : goal.invariant-loop-row
invariant-loop-row l = record { conditions : AreConditions (take l.row-index l.rows) [] l.conditions.items }
