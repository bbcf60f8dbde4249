use Rattle.std.proofs.Common.{◌≡◌, ◌+◌, ◌*◌, ◌≤◌, drop}
use Rattle.clsm_law.specs.Layout.{memory}
use Rattle.clsm_law.specs.Deciding.{search_order, searched_total}
use Rattle.clsm_machine_merger.proofs.sources.searched_total.Given as goal

abbrev pub invariant-loop-place : goal.invariant-loop-place
invariant-loop-place l = record {
  total : l.total + searched_total (memory l.layout l.words) l.merger.merged (drop l.place-index search_order)
      ≡ searched_total (memory l.layout l.words) l.merger.merged search_order;
  small : l.total ≤ l.place-index * 8388608;
}
