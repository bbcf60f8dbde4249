use Rattle.std.proofs.Common.{◌≡◌, ℕ, ◌<◌}
use Rattle.clsm_law.specs.declared.word.Word.TheVariants.{Head}
use Rattle.clsm_law.specs.Layout.{memory}
use Rattle.clsm_machine_merger.proofs.facts.is_headless.Given as goal

abbrev pub invariant-loop-chain : goal.invariant-loop-chain
invariant-loop-chain l = (s : ℕ) → s < l.chain → memory l.layout l.words (Head l.region s) ≡ 0
