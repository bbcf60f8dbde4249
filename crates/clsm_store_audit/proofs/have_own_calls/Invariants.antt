use Rattle.clsm_store_audit.specs.Settled.{HasOwnCalls}
use Rattle.clsm_store_audit.proofs.Places.{HoldBefore}
use Rattle.clsm_store_audit.proofs.have_own_calls.Given as goal

abbrev pub invariant-loop-seat : goal.invariant-loop-seat
invariant-loop-seat l = HoldBefore HasOwnCalls l.seats l.seat-index
