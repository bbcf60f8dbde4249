use Rattle.std.proofs.Common.{◌≡◌, ℕ, ◌<◌, Some}
use Rattle.clsm_levels.specs.declared.entry.Entry.{Entry}
use Rattle.clsm_law.specs.Deciding.{IsPassedBy}
use Rattle.clsm_machine_merger.specs.MergeReads.{source}
use Rattle.clsm_machine_merger.proofs.deciding.is_newest.Given as goal

abbrev pub invariant-loop-number : goal.invariant-loop-number
invariant-loop-number l = (k : ℕ) (x : Entry) → k < l.number → source l.merge k ≡ Some x → IsPassedBy l.merge.merger.now.floor l.entry x
