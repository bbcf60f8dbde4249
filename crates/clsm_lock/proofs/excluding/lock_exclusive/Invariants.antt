use Rattle.clsm_words.specs.Plays.{IsSeatOf}
use Rattle.clsm_lock.specs.Keeping.{StaysOut}
use Rattle.clsm_lock.proofs.excluding.lock_exclusive.Given as goal

abbrev pub invariant-loop : goal.invariant-loop
invariant-loop g l = record {
  of : IsSeatOf l.words l.seat;
  out : StaysOut l.initial.seat.knows l.seat.knows;
  more : (goal.iterator-loop g).can_next l.iterator' × (goal.iterator-loop g).is_finite l.iterator';
}
