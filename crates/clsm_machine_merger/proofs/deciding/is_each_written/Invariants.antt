use Rattle.std.proofs.Common.{◌≡◌, ℕ, ◌<◌, Some}
use Rattle.clsm_levels.specs.declared.entry.Entry.{Entry}
use Rattle.clsm_law.specs.Deciding.{IsWrittenIfKept}
use Rattle.clsm_machine_merger.specs.MergeReads.{source, sources, written}
use Rattle.clsm_machine_merger.proofs.deciding.is_each_written.Given as goal

abbrev pub invariant-loop-number : goal.invariant-loop-number
invariant-loop-number l = (k : ℕ) (e : Entry) → k < l.number → source l.merge k ≡ Some e
    → IsWrittenIfKept l.merge.merger.now (sources l.merge) (written l.merge) e
