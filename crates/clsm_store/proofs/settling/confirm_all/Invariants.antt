use Rattle.std.proofs.Common.{◌≡◌}
use Rattle.clsm_store.specs.Settling.{HaveConfirmed}
use Rattle.clsm_store.proofs.settling.confirm_all.Given as goal

abbrev pub invariant-loop-place : goal.invariant-loop-place
invariant-loop-place g l = (l.seats.items ≡ l.fn.seats.items) × HaveConfirmed l.fn.seats.items l.place
