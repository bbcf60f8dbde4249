use Rattle.std.proofs.Common.{Some, sym, ◌∙◌, ap, arith}
use Rattle.clsm_law.specs.Layout.{memory}
use Rattle.clsm_law.specs.Deciding.{search_order}
use Rattle.clsm_machine_merger.proofs.MergingSources.{searched_entry-here, searched_entry-later, searched_entry-all}
use Rattle.clsm_machine_merger.proofs.sources.searched_entry.Goals as goal

pub returns-then-left-count : goal.returns-then-left-count
returns-then-left-count c = ap Some c.entry_in.ensures
    ∙ sym (searched_entry-here (memory c.args.layout.now c.args.words.now) c.args.merger.now.merged search_order c.loop-place.place-index c.loop-place.left
    c.searched_count-count.result (omega arith) c.searched_count-count.ensures.count c.if-left-count.true) ∙ c.loop-place.invariant

pub loop-place-preserved : goal.loop-place-preserved
loop-place-preserved c = sym (searched_entry-later (memory c.args.layout.now c.args.words.now) c.args.merger.now.merged search_order
    c.loop-place.place-index c.loop-place.left c.searched_count-count.result (omega arith) c.searched_count-count.ensures.count c.if-left-count.false)
    ∙ c.loop-place.invariant

pub returns : goal.returns
returns c = sym (searched_entry-all (memory c.args.layout.now c.args.words.now) c.args.merger.now.merged search_order c.loop-place.place-index
    c.loop-place.left (omega arith)) ∙ c.loop-place.invariant
