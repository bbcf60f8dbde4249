use Rattle.std.proofs.Common.{◌≡◌, ◌++◌, drop}
use Rattle.clsm_levels.specs.Merge.{kept}
use Rattle.clsm_levels.specs.Pass.{kept_after}
use Rattle.clsm_levels.proofs.merge.kept.Given as goal

abbrev pub invariant-loop-entry : goal.invariant-loop-entry
invariant-loop-entry l = l.run.items ++ kept_after l.settled l.floor l.to_level_one (drop l.entry-index l.entries) ≡ kept l.floor l.to_level_one l.entries
