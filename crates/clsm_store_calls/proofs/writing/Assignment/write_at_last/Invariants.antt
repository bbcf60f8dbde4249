use Rattle.clsm_words.specs.Plays.{IsSeatOf}
use Rattle.clsm_store_calls.specs.Resting.{Still}
use Rattle.clsm_store_calls.specs.Tally.{OnlyLoses, tally_of}
use Rattle.clsm_store_calls.specs.Writing.{HasCome}
use Rattle.clsm_store_calls.proofs.writing.Assignment.write_at_last.Given as goal

abbrev pub invariant-loop : goal.invariant-loop
invariant-loop g l = record {
  of : IsSeatOf l.words l.seat;
  come : HasCome l.words l.seat l.self.key l.self.value.now l.progress;
  still : Still l.initial.seat.knows l.seat.knows;
  counts : OnlyLoses (tally_of l.initial.seat.knows) (tally_of l.seat.knows);
  more : (goal.iterator-loop g).can_next l.iterator' × (goal.iterator-loop g).is_finite l.iterator';
}
