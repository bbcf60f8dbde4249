use Rattle.std.proofs.Common.{◌≡◌, drop}
use Rattle.clsm_law.specs.Layout.{memory}
use Rattle.clsm_law.specs.Deciding.{search_order, searched_entry}
use Rattle.clsm_machine_merger.proofs.sources.searched_entry.Given as goal

abbrev pub invariant-loop-place : goal.invariant-loop-place
invariant-loop-place l = searched_entry (memory l.layout l.words) l.merger.merged (drop l.place-index search_order) l.left
    ≡ searched_entry (memory l.layout l.words) l.merger.merged search_order l.fn.number
