use Rattle.std.proofs.Common.{◌≡◌, ℕ, ◌<◌}
use Rattle.clsm_law.specs.Layout.{memory}
use Rattle.clsm_law.specs.Places.{entry_in}
use Rattle.clsm_machine_merger.proofs.deciding.is_written.Given as goal

abbrev pub invariant-loop-index : goal.invariant-loop-index
invariant-loop-index l = (k : ℕ) → k < l.index → entry_in (memory l.layout l.words) l.target k ≡ l.entry → ⊥
