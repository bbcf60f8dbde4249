use Rattle.std.proofs.Common.{◌≡◌, length}
use Rattle.clsm_levels.specs.Cursors.{HeadsOf, rests}
use Rattle.clsm_levels.specs.Merge.{merged}
use Rattle.clsm_law.specs.Merging.{target_of}
use Rattle.clsm_words.specs.Plays.{IsSeatOf}
use Rattle.clsm_runs.specs.Outputs.{IsOneAhead, IsOutput, LeavesOff, kept_of}
use Rattle.clsm_words.specs.Changing.{Changes}
use Rattle.clsm_runs.specs.Placing.{IsOfPlace, rows_of}
use Rattle.clsm_runs.proofs.merging.merge.Given as goal

abbrev pub invariant-loop-winner : goal.invariant-loop-winner
invariant-loop-winner g l = record {
  of : IsSeatOf l.words l.merger;
  changes : Changes (IsOfPlace (target_of l.fn.merger.knows.merger)) l.fn.merger.knows l.merger.knows;
  output : IsOutput l.merger.knows l.output;
  place : l.output.place ≡ target_of l.fn.merger.knows.merger;
  long : length l.cursors ≡ 5;
  heads : HeadsOf (rows_of l.fn.merger.knows) l.cursors;
  ahead : IsOneAhead l.merger.knows l.walk l.cursors;
  left : LeavesOff l.merger.knows l.output (merged (rests (rows_of l.fn.merger.knows) l.cursors)) (kept_of l.fn.merger.knows l.floor);
}

abbrev pub decreases-loop-winner : goal.decreases-loop-winner
decreases-loop-winner g l = length (merged (rests (rows_of l.fn.merger.knows) l.cursors))
