use Rattle.std.proofs.Common.{◌≡◌}
use Rattle.clsm_store.specs.Settling.{HaveTold}
use Rattle.clsm_store.proofs.settling.tell_all.Given as goal

abbrev pub invariant-loop-place : goal.invariant-loop-place
invariant-loop-place g l = (l.seats.items ≡ l.fn.seats.items) × HaveTold l.store l.fn.seats.items l.message l.place
