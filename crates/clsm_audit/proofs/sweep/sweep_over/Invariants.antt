use Rattle.std.proofs.Common.{take}
use Rattle.clsm_audit.specs.Moments.{HasSwept}
use Rattle.clsm_audit.proofs.sweep.sweep_over.Given as goal

abbrev pub invariant-loop-event : goal.invariant-loop-event
invariant-loop-event l = HasSwept (take l.event-index l.events) l.sweep
