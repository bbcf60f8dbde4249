use Rattle.std.proofs.Common.{[], List, take}
use Rattle.clsm_c.specs.declared.types.CoreRow.{CoreRow}
use Rattle.clsm_c.specs.Conditional.{AreConditions}
use Rattle.clsm_c.proofs.conditions.expect_counts.Given as goal

abbrev pub invariant-loop-count : goal.invariant-loop-count
invariant-loop-count l = record {
  conditions : (rows : List CoreRow) → AreConditions rows [] l.initial.conditions.items → AreConditions rows (take l.count-index l.counts) l.conditions.items;
}
