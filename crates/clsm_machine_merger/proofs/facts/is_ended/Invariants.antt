use Rattle.std.proofs.Common.{◌≡◌, ℕ, ◌+◌, ◌<◌, ◌≤◌}
use Rattle.clsm_law.specs.declared.word.Word.TheVariants.{Entry}
use Rattle.clsm_law.specs.Layout.{memory}
use Rattle.clsm_machine_merger.proofs.facts.is_ended.Given as goal

abbrev pub invariant-loop-index : goal.invariant-loop-index
invariant-loop-index l = (j : ℕ) → j < l.index → l.length ≤ j → memory l.layout l.words (Entry l.place l.entry (3 + j)) ≡ 0
