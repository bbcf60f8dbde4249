use Rattle.std.proofs.Common.{◌≡◌, ℕ, ◌<◌, true}
use Rattle.clsm_law.specs.Layout.{memory}
use Rattle.clsm_law.specs.Worlds.{is_canonical}
use Rattle.clsm_machine_merger.proofs.facts.is_target_canonical.Given as goal

abbrev pub invariant-loop-entry : goal.invariant-loop-entry
invariant-loop-entry l = (e : ℕ) → e < l.entry → is_canonical (memory l.layout l.words) l.target e ≡ true
