use Rattle.std.proofs.Common.{sym, ap, ℕ, ◌≤◌}
use Rattle.clsm_levels.specs.Entry.{value_of}
use Rattle.clsm_scan.specs.Collected.{left_at}
use Rattle.clsm_scan.specs.Sources.{found_in_component}
use Rattle.clsm_scan.proofs.AllWalks.{added_all}
use Rattle.clsm_scan.proofs.Counts.{visit_same}
use Rattle.clsm_scan.proofs.scanning.visit.Goals as goal

pub returns-clause-visits : goal.returns-clause-visits
returns-clause-visits g c =
    let value = left_at (found_in_component c.args.seat.now.knows c.args.point.component c.args.point.until) in
    let found = added_all c.args.bounds.lo c.args.bounds.hi c.args.seat.now.knows c.new-merged.result c.add_all.new.seat.knows c.add_all.new.self
    (found_in_component c.args.seat.now.knows c.args.point.component c.args.point.until) c.add_all.ensures.added c.new-merged.ensures.none
    c.new-merged.ensures.hi in
    let same = λ (key : ℕ) (above : c.args.bounds.lo ≤ key) (below : key ≤ c.args.bounds.hi). ap value_of (sym (found key above below)) in
    visit_same g.V.Visitor.takes _ value c.args.bounds.lo c.args.bounds.hi c.visit_keys.result.keys c.visit_keys.result.first
    c.args.visitor.now c.visit_keys.new.visitor same c.visit_keys.ensures.visits
