use Rattle.std.proofs.Common.{◌-◌}
use Rattle.clsm_words.specs.Keeping.{LooksAside}
use Rattle.clsm_words.specs.Plays.{IsSeatOf}
use Rattle.clsm_runs.specs.Passing.{IsPassageFrom}
use Rattle.clsm_runs.proofs.entry.HeldRun.next.Given as goal

abbrev pub invariant-loop-passage : goal.invariant-loop-passage
invariant-loop-passage g l = record {
  of : IsSeatOf l.words l.seat;
  looks : LooksAside l.fn.seat.knows l.seat.knows;
  stands : IsPassageFrom l.fn.seat.knows l.self l.sought.until l.sought.from l.passage;
}

abbrev pub decreases-loop-passage : goal.decreases-loop-passage
decreases-loop-passage g l = l.passage.count - l.passage.position
