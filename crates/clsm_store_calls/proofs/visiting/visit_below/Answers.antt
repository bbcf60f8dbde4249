use Rattle.std.proofs.Common.{sym, arith}
use Rattle.clsm_model.specs.History.{plain, value}
use Rattle.clsm_scan.specs.Collected.{IsVisit, left_at}
use Rattle.clsm_scan.specs.Sources.{found_in_component}
use Rattle.clsm_scan.proofs.Counts.{visit_same}
use Rattle.clsm_store_calls.proofs.KeyCounts.{empty_page, key_count}
use Rattle.clsm_store_calls.proofs.Found.{component_value}
use Rattle.clsm_store_calls.proofs.visiting.visit_below.Given.{Over}
use Rattle.clsm_store_calls.proofs.visiting.visit_below.Goals as goal
use Rattle.clsm_store_calls.proofs.visiting.visit_below.Goals.{After-visit-keys}

visited : (g : Over) (c : After-visit-keys g) → IsVisit g.V.Visitor.takes (λ key. value (plain c.args.seat.now.knows.past) key c.args.point.until)
    c.args.wanted.now.bounds.lo c.args.wanted.now.bounds.hi c.visit-keys.result.keys c.visit-keys.result.first
    c.args.wanted.now.visitor c.visit-keys.new.visitor
visited g c =
    let k = c.args.seat.now.knows in
    let component = c.args.point.component in
    let until = c.args.point.until in
    let wanted = c.args.wanted.now in
    visit_same g.V.Visitor.takes (left_at (found_in_component k component until)) (λ key. value (plain k.past) key until) wanted.bounds.lo wanted.bounds.hi
    c.visit-keys.result.keys c.visit-keys.result.first wanted.visitor c.visit-keys.new.visitor
    (λ key above below. sym (component_value k component until key c.show_invariant.ensures c.requires.may.held c.requires.may.may c.requires.may.settled))
    c.visit-keys.ensures.visits

pub returns-clause-visits : goal.returns-clause-visits
returns-clause-visits g c =
    let bounds = c.args.wanted.now.bounds in
    let is = visited g (goal.at.returns-clause-visits g c).After-visit-keys in
    record {
      count = key_count (plain c.args.seat.now.knows.past) c.args.point.until bounds.lo bounds.hi c.visit-keys.result.keys c.visit-keys.result.first
          (let fits = c.well_formed in omega (arith, fits)) is.count;
      taken = is.taken;
    }

pub returns-clause-reads : goal.returns-clause-reads
returns-clause-reads g c =
    let bounds = c.args.wanted.now.bounds in
    empty_page (plain c.args.seat.now.knows.past) c.args.point.until bounds.lo bounds.hi c.visit-keys.result.keys c.visit-keys.result.first
    (visited g (goal.at.returns-clause-reads g c).After-visit-keys).count
