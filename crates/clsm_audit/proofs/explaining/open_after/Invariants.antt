use Rattle.std.proofs.Common.{◌≡◌, take}
use Rattle.clsm_audit.specs.Lawful.{open_of}
use Rattle.clsm_audit.proofs.explaining.open_after.Given as goal

abbrev pub invariant-loop-call : goal.invariant-loop-call
invariant-loop-call l = l.state.snapshot ≡ open_of (take l.call-index l.calls) l.seat
