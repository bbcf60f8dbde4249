use Rattle.clsm_store_calls.specs.Seats.{IsLawfulAlone}
use Rattle.clsm_store_audit.proofs.Places.{HoldBefore}
use Rattle.clsm_store_audit.proofs.lawful.are_lawful_alone.Given as goal

abbrev pub invariant-loop-seat : goal.invariant-loop-seat
invariant-loop-seat l = HoldBefore IsLawfulAlone l.seats l.seat-index
