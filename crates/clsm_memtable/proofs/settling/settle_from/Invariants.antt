use Rattle.std.proofs.Common.{◌≤◌}
use Rattle.clsm_words.specs.Plays.{IsSeatOf}
use Rattle.clsm_words.specs.Keeping.{OnlyReads}
use Rattle.clsm_memtable.proofs.settling.settle_from.Given as goal

abbrev pub invariant-loop-next : goal.invariant-loop-next
invariant-loop-next g l = record {
  of : IsSeatOf l.words l.seat;
  keeps : OnlyReads l.initial.seat.knows l.seat.knows;
  reached : l.next ≤ l.seat.knows.view.reached;
}
