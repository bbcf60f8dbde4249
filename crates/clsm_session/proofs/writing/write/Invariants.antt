use Rattle.clsm_store_calls.specs.Seats.{Refuses}
use Rattle.clsm_store_calls.specs.Tally.{CancelsNone}
use Rattle.clsm_session.proofs.Waiting.{Holds}
use Rattle.clsm_session.proofs.writing.write.Given as goal

-- each try so far was refused
abbrev pub invariant-loop : goal.invariant-loop
invariant-loop g l = record {
  refused : Refuses l.initial.caller.seat l.caller.seat;
  cancels : CancelsNone l.initial.caller.seat.tally l.caller.seat.tally;
  more : (goal.iterator-loop g).can_next l.iterator' × (goal.iterator-loop g).is_finite l.iterator';
  holds : Holds l.tries l.initial.caller.seat.tally l.caller.seat.tally;
}
