use Rattle.std.specs.Prelude.{◌<◌}
use Rattle.clsm_words.specs.Plays.{IsSeatOf}
use Rattle.clsm_store_calls.specs.Resting.{Still}
use Rattle.clsm_store_calls.specs.Tally.{tally_of}
use Rattle.clsm_store_calls.specs.Writing.{HasCome}
use Rattle.clsm_store_calls.proofs.Losses.{LosesTries}
use Rattle.clsm_store_calls.proofs.writing.Assignment.write_in_hold.Given as goal

abbrev pub invariant-loop-lost : goal.invariant-loop-lost
invariant-loop-lost g l = record {
  of : IsSeatOf l.words l.seat;
  come : HasCome l.words l.seat l.self.key l.self.value.now l.progress;
  still : Still l.initial.seat.knows l.seat.knows;
  counts : LosesTries l.lost (tally_of l.initial.seat.knows) (tally_of l.seat.knows);
  few : l.lost < l.tries;
}
