use Rattle.std.proofs.Common.{◌≡◌, ◌⊎◌}
use Rattle.clsm_model.specs.declared.record.Deed.TheVariants.{Batch as Group}
use Rattle.clsm_model.specs.Seats.{FitsDeed}
use Rattle.clsm_store_calls.specs.Seats.{Refuses}
use Rattle.clsm_store_calls.specs.Tally.{CancelsNone}
use Rattle.clsm_session.proofs.Waiting.{Holds}
use Rattle.clsm_session.proofs.writing.batch.Given as goal

-- each try so far was refused, because there was no room
abbrev pub invariant-loop : goal.invariant-loop
invariant-loop g l = record {
  refused : Refuses l.initial.caller.seat l.caller.seat;
  fits : (l.caller.seat ≡ l.initial.caller.seat) ⊎ FitsDeed l.initial.caller.seat.store.layout.cells (Group l.fn.members);
  cancels : CancelsNone l.initial.caller.seat.tally l.caller.seat.tally;
  more : (goal.iterator-loop g).can_next l.iterator' × (goal.iterator-loop g).is_finite l.iterator';
  holds : Holds l.tries l.initial.caller.seat.tally l.caller.seat.tally;
}
