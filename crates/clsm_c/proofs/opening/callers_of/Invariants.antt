use Rattle.std.proofs.Common.{◌≡◌, ◌++◌, map}
use Rattle.std.specs.Prelude.{All}
use Rattle.std.specs.Arc.{arc_value}
use Rattle.clsm_c.proofs.opening.callers_of.Given as goal

-- the seats of the callers so far and those still to come are all of them
abbrev pub invariant-loop-seat : goal.invariant-loop-seat
invariant-loop-seat l = record {
  seats : map (λ caller. caller.seat) l.callers.items ++ l.seat-iterator.rest.items ≡ l.fn.seats.items;
  at : All (λ seat. seat.store ≡ arc_value l.store) l.seat-iterator.rest.items;
}
