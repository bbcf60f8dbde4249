use Rattle.std.proofs.Common.{ℕ, ◌<◌, get_or}
use Rattle.clsm_audit.specs.Written.{WritesAt}
use Rattle.clsm_audit.proofs.Indices.{nobody}
use Rattle.clsm_audit.proofs.explaining.explain_second.Given as goal

abbrev pub invariant-loop-other : goal.invariant-loop-other
invariant-loop-other l = (k : ℕ) → k < l.other → (t : ℕ) → WritesAt t (get_or l.records k nobody) → ¬ WritesAt t l.call
