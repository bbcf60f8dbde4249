use Rattle.std.proofs.Common.{◌≡◌, ℕ, ◌<◌, ◌≤◌, ◌==◌, ◌||◌, true}
use Rattle.clsm_law.specs.declared.word.Word.TheVariants.{State}
use Rattle.clsm_law.specs.Layout.{memory}
use Rattle.clsm_machine_merger.proofs.facts.is_last.Given as goal

abbrev pub invariant-loop-other : goal.invariant-loop-other
invariant-loop-other l = (o : ℕ) → l.first ≤ o → o < l.other → (o == l.cell || memory l.layout l.words (State o) == 0) ≡ true
