use Rattle.std.proofs.Common.{sym, ap, ℕ, ◌≤◌}
use Rattle.clsm_levels.specs.Entry.{value_of}
use Rattle.clsm_scan.specs.Collected.{IsCollected, left_at}
use Rattle.clsm_scan.specs.Sources.{found_in_component}
use Rattle.clsm_scan.proofs.AllWalks.{added_all}
use Rattle.clsm_scan.proofs.ComponentCursors.{collected_same, if_ok_weaker}
use Rattle.clsm_scan.proofs.scanning.scan.Goals as goal

pub returns-clause-rows : goal.returns-clause-rows
returns-clause-rows g c =
    let value = left_at (found_in_component c.args.seat.now.knows c.args.point.component c.args.point.until) in
    let lo = c.args.bounds.lo in
    let hi = c.args.bounds.hi in
    let most = g.R.Collector.most c.args.rows.now in
    let rows = g.R.Collector.rows c.collect.new.rows in
    let found = added_all lo hi c.args.seat.now.knows c.new-merged.result c.add_all.new.seat.knows c.add_all.new.self
    (found_in_component c.args.seat.now.knows c.args.point.component c.args.point.until) c.add_all.ensures.added c.new-merged.ensures.none
    c.new-merged.ensures.hi in
    let same = λ (key : ℕ) (above : lo ≤ key) (below : key ≤ hi). ap value_of (sym (found key above below)) in
    if_ok_weaker _ (IsCollected value lo hi most rows) (λ more is. collected_same _ value lo hi most rows more same is) c.collect.result c.collect.ensures.rows
