use Rattle.std.proofs.Common.{◌≡◌, ◌≤◌, ℕ, ◌<◌, get_or}
use Rattle.clsm_audit.specs.Explained.{own_due}
use Rattle.clsm_audit.proofs.Indices.{nobody}
use Rattle.clsm_audit.proofs.explaining.explain_back.Given as goal

abbrev pub invariant-loop-earlier : goal.invariant-loop-earlier
invariant-loop-earlier l = (k : ℕ) → k < l.earlier → (get_or l.records k nobody).seat ≡ l.call.seat → own_due (get_or l.records k nobody) ≤ l.call.time
