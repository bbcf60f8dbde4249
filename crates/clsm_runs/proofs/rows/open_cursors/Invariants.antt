use Rattle.std.proofs.Common.{◌≡◌, ℕ, ◌<◌, ◌≤◌, drop, length}
use Rattle.clsm_levels.specs.Cursors.{cursor_at, first_of, row_at}
use Rattle.clsm_levels.specs.Version.{version_in}
use Rattle.clsm_words.specs.Plays.{IsSeatOf}
use Rattle.clsm_words.specs.Changing.{Changes, NoWord}
use Rattle.clsm_runs.specs.Outputs.{IsWalkedTo}
use Rattle.clsm_runs.specs.Placing.{rows_of}
use Rattle.clsm_runs.proofs.rows.open_cursors.Given as goal

abbrev pub invariant-loop-row : goal.invariant-loop-row
invariant-loop-row g l = record {
  of : IsSeatOf l.words l.merger;
  looks : Changes NoWord l.fn.merger.knows l.merger.knows;
  long : length l.cursors ≡ 5;
  some : 1 ≤ l.row;
  walked : IsWalkedTo l.merger.knows l.walk 1;
  opened : (j : ℕ) → j < l.row
      → ((cursor_at l.cursors j).head ≡ version_in (first_of (drop (cursor_at l.cursors j).position (row_at (rows_of l.fn.merger.knows) j))))
      × ((cursor_at l.cursors j).position ≡ 0);
}
