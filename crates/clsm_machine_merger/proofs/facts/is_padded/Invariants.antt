use Rattle.std.proofs.Common.{◌≡◌, ℕ, ◌<◌, ◌≤◌}
use Rattle.clsm_law.specs.declared.word.Word.TheVariants.{State}
use Rattle.clsm_law.specs.Memory.{cell_of}
use Rattle.clsm_law.specs.Layout.{memory}
use Rattle.clsm_machine_merger.proofs.facts.is_padded.Given as goal

abbrev pub invariant-loop-time : goal.invariant-loop-time
invariant-loop-time l = (t : ℕ) → l.clock ≤ t → t < l.time → memory l.layout l.words (State (cell_of l.layout t)) ≡ 1
