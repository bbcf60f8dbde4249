use Rattle.std.proofs.Common.{◌≡◌, ◌≤◌, ◌%◌, None}
use Rattle.clsm_levels.specs.Run.{first_in_runs}
use Rattle.clsm_law.specs.Worlds.{runs_of}
use Rattle.clsm_words.specs.Knowing.{row_of}
use Rattle.clsm_words.specs.Keeping.{LooksAside}
use Rattle.clsm_words.specs.Plays.{IsSeatOf}
use Rattle.clsm_runs.specs.Searching.{runs_below}
use Rattle.clsm_runs.proofs.finding.Wanted.search.Given as goal

abbrev pub invariant-loop-place : goal.invariant-loop-place
invariant-loop-place g l = record {
  of : IsSeatOf l.words l.seat;
  looks : LooksAside l.fn.seat.knows l.seat.knows;
  empty : l.into ≡ None;
  left : l.place ≤ l.component % 4;
  searched : first_in_runs (runs_of (row_of l.fn.seat.knows) l.component) l.self.key l.self.until
      ≡ first_in_runs (runs_below (row_of l.fn.seat.knows) l.component l.place) l.self.key l.self.until;
}
