use Rattle.std.proofs.Common.{arith}
use Rattle.clsm_law.specs.Layout.{memory}
use Rattle.clsm_law.specs.Deciding.{search_order}
use Rattle.clsm_machine_merger.proofs.MergingSources.{searched_total-drop, searched_total-all}
use Rattle.clsm_machine_merger.proofs.sources.searched_total.Goals as goal

pub loop-place-preserved : goal.loop-place-preserved
loop-place-preserved c =
    let rest = searched_total-drop (memory c.args.layout.now c.args.words.now) c.args.merger.now.merged search_order c.loop-place.place-index (omega arith) in
    record { total = omega (arith, rest, c.searched_count-total.ensures.count); small = omega arith }

pub returns-clause-total : goal.returns-clause-total
returns-clause-total c =
    let rest = searched_total-all (memory c.args.layout.now c.args.words.now) c.args.merger.now.merged search_order c.loop-place.place-index (omega arith) in
    omega arith
