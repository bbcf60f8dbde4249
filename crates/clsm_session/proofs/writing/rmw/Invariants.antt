use Rattle.std.specs.Prelude.{◌≡◌}
use Rattle.clsm_store_calls.specs.Seats.{Refuses}
use Rattle.clsm_session.proofs.Waiting.{GaveUp, Holds}
use Rattle.clsm_session.specs.Waiting.{IsPatient}
use Rattle.clsm_session.proofs.writing.rmw.Given as goal

-- each try so far was refused
abbrev pub invariant-loop : goal.invariant-loop
invariant-loop g l = record {
  refused : Refuses l.initial.caller.seat l.caller.seat;
  patient : IsPatient l.initial.caller.seat l.caller.seat;
  spared : GaveUp l.initial.caller.seat l.caller.seat l.fn.key;
  more : (goal.iterator-loop g).can_next l.iterator' × (goal.iterator-loop g).is_finite l.iterator';
  alone : l.tries ≡ 0 → l.caller.seat ≡ l.initial.caller.seat;
  holds : Holds l.tries l.initial.caller.seat.tally l.caller.seat.tally;
}
