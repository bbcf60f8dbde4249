use Rattle.std.proofs.Common.{ℕ, Some, ap, sym}
use Rattle.clsm_scan.proofs.Places.{key_index, nowhere}
use Rattle.clsm_scan.proofs.merged.key_at.Goals as goal

pub returns-then-at-streams-clause-there : goal.returns-then-at-streams-clause-there
returns-then-at-streams-clause-there c = λ lt. ap (λ (n : ℕ). Some n) (sym (key_index c.args.streams.now c.args.at nowhere lt))
