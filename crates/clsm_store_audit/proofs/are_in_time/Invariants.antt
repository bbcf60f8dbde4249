use Rattle.std.proofs.Common.{◌≤◌, ◌^◌}
use Rattle.clsm_store_audit.proofs.Places.{HoldBefore}
use Rattle.clsm_store_audit.proofs.are_in_time.Given as goal

abbrev pub invariant-loop-seat : goal.invariant-loop-seat
invariant-loop-seat l = HoldBefore (λ s. s.due ≤ 2 ^ 62) l.seats l.seat-index
