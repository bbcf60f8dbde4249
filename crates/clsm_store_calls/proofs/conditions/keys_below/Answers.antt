use Rattle.std.proofs.Common.{sym, arith}
use Rattle.clsm_model.specs.History.{plain, value}
use Rattle.clsm_scan.specs.Collected.{left_at}
use Rattle.clsm_scan.specs.Sources.{found_in_component}
use Rattle.clsm_scan.proofs.Counts.{visit_same}
use Rattle.clsm_store_calls.proofs.KeyCounts.{key_count}
use Rattle.clsm_store_calls.proofs.Found.{component_value}
use Rattle.clsm_store_calls.proofs.conditions.keys_below.Goals as goal

pub returns-clause-counts : goal.returns-clause-counts
returns-clause-counts g c =
    let k = c.args.seat.now.knows in
    let component = c.args.point.component in
    let until = c.args.point.until in
    let bounds = c.args.bounds in
    let is = visit_same _ (left_at (found_in_component k component until)) (λ key. value (plain k.past) key until) bounds.lo bounds.hi
    c.visit-keys.result.keys c.visit-keys.result.first _ _
    (λ key above below. sym (component_value k component until key c.show_invariant.ensures c.requires.may.held c.requires.may.may c.requires.may.settled))
    c.visit-keys.ensures.visits in
    key_count (plain k.past) until bounds.lo bounds.hi c.visit-keys.result.keys c.visit-keys.result.first
    (let fits = c.well_formed in omega (arith, fits)) is.count
