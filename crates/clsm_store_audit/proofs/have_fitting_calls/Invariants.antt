use Rattle.clsm_store_audit.specs.Settled.{HasFittingCalls}
use Rattle.clsm_store_audit.proofs.Places.{HoldBefore}
use Rattle.clsm_store_audit.proofs.have_fitting_calls.Given as goal

abbrev pub invariant-loop-seat : goal.invariant-loop-seat
invariant-loop-seat l = HoldBefore HasFittingCalls l.seats l.seat-index
