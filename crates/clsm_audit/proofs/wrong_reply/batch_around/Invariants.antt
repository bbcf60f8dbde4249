use Rattle.std.proofs.Common.{ℕ, ◌<◌, get_or}
use Rattle.clsm_audit.specs.Explained.{IsAround}
use Rattle.clsm_audit.proofs.Indices.{nobody}
use Rattle.clsm_audit.proofs.wrong_reply.batch_around.Given as goal

abbrev pub invariant-loop-batch : goal.invariant-loop-batch
invariant-loop-batch l = (k : ℕ) → k < l.batch → ¬ IsAround l.time (get_or l.records k nobody)
