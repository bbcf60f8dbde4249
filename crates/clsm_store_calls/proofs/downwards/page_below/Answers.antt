use Rattle.std.proofs.Common.{length, map, sym, take}
use Rattle.clsm_model.specs.History.{plain, value}
use Rattle.clsm_scan.specs.Collected.{left_at}
use Rattle.clsm_scan.specs.Sources.{found_in_component}
use Rattle.clsm_store_calls.proofs.Found.{component_value}
use Rattle.clsm_store_calls.proofs.PagesDown.{down_same, page_down}
use Rattle.clsm_store_calls.proofs.downwards.page_below.Goals as goal

pub returns-clause-page : goal.returns-clause-page
returns-clause-page g c =
    let k = c.args.seat.now.knows in
    let h = plain k.past in
    let component = c.args.point.component in
    let until = c.args.point.until in
    let page = c.args.page in
    let lo = page.bounds.lo in
    let hi = page.bounds.hi in
    let max = length c.args.filling.now.rows.now in
    let rows = map g.R.Row.pair (take c.scan_down-more.new.filling.count c.scan_down-more.new.filling.rows.now) in
    page_down h until lo hi max rows c.scan_down-more.result
    (down_same (left_at (found_in_component k component until)) (λ key. value h key until) lo hi max rows c.scan_down-more.result
    (λ key. sym (component_value k component until key c.show_invariant.ensures c.requires.may.held c.requires.may.may c.requires.may.settled))
    c.scan_down-more.ensures.rows)
