use Rattle.clsm_levels.proofs.Placed.{level_zero_free}
use Rattle.std.proofs.Common.{arith, ◌/◌, ◌%◌}
use Rattle.clsm_levels.proofs.table.target.Goals as goal

pub returns-else-is_to_level_one-clause-free : goal.returns-else-is_to_level_one-clause-free
returns-else-is_to_level_one-clause-free c = rw c.level_zero_runs.ensures
    (level_zero_free (c.args.merges % 4) (c.args.merges % 4) (c.args.merges / 4 % 2) (omega arith))
