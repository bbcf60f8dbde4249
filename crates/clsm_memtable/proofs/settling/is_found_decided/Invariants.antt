use Rattle.clsm_words.specs.Plays.{IsSeatOf}
use Rattle.clsm_words.specs.Keeping.{OnlyReads}
use Rattle.clsm_memtable.specs.Settled.{HasWaited}
use Rattle.clsm_memtable.proofs.settling.is_found_decided.Given as goal

abbrev pub invariant-loop-look : goal.invariant-loop-look
invariant-loop-look g l = record {
  of : IsSeatOf l.words l.seat;
  keeps : OnlyReads l.initial.seat.knows l.seat.knows;
  waits : HasWaited l.seat.knows l.time l.look;
}
