use Rattle.std.proofs.Common.{◌-◌}
use Rattle.clsm_words.specs.Keeping.{LooksAside}
use Rattle.clsm_words.specs.Plays.{IsSeatOf}
use Rattle.clsm_runs.specs.Searching.{IsSpan}
use Rattle.clsm_runs.proofs.finding.Wanted.bound.Given as goal

abbrev pub decreases-loop-span : goal.decreases-loop-span
decreases-loop-span g l = l.span.high - l.span.low

abbrev pub invariant-loop-span : goal.invariant-loop-span
invariant-loop-span g l = record {
  of : IsSeatOf l.words l.seat;
  looks : LooksAside l.fn.seat.knows l.seat.knows;
  span : IsSpan l.fn.seat.knows l.run.place l.self.key l.self.until l.span;
}
