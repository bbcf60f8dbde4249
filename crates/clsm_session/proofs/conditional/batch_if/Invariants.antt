use Rattle.std.proofs.Common.{◌≡◌, ◌⊎◌}
use Rattle.clsm_store_calls.specs.Conditional.{AreWritable}
use Rattle.clsm_store_calls.specs.Seats.{Refuses}
use Rattle.clsm_session.specs.Conditional.{GivesUpNone}
use Rattle.clsm_session.proofs.Waiting.{Holds}
use Rattle.clsm_session.proofs.conditional.batch_if.Given as goal

-- each try so far was refused, because there was no room
abbrev pub invariant-loop : goal.invariant-loop
invariant-loop g l = record {
  refused : Refuses l.initial.caller.seat l.caller.seat;
  writable : (l.caller.seat ≡ l.initial.caller.seat) ⊎ AreWritable l.initial.caller.seat.store.layout.cells l.fn.members;
  gives_up : GivesUpNone l.initial.caller.seat l.caller.seat;
  more : (goal.iterator-loop g).can_next l.iterator' × (goal.iterator-loop g).is_finite l.iterator';
  holds : Holds l.tries l.initial.caller.seat.tally l.caller.seat.tally;
}
