use Rattle.std.proofs.Common.{Option, sym, subst, ℕ}
use Rattle.clsm_model.specs.History.{plain, value}
use Rattle.clsm_model.specs.Right.{Reads}
use Rattle.clsm_scan.specs.Collected.{left_at}
use Rattle.clsm_scan.specs.Sources.{found_in_component}
use Rattle.clsm_scan.proofs.ComponentCursors.{collected_same, if_ok_weaker}
use Rattle.clsm_store_calls.specs.Scanning.{rows_deed}
use Rattle.clsm_store_calls.proofs.Asking.{reads_rows}
use Rattle.clsm_store_calls.proofs.Found.{component_value}
use Rattle.clsm_store_calls.proofs.scanning.rows_below.Goals as goal

pub returns-clause-reads : goal.returns-clause-reads
returns-clause-reads g c =
    let k = c.args.seat.now.knows in
    let h = plain k.past in
    let component = c.args.point.component in
    let until = c.args.point.until in
    let lo = c.args.bounds.lo in
    let hi = c.args.bounds.hi in
    let most = g.R.Collector.most c.args.rows.now in
    let rows = g.R.Collector.rows c.scan.new.rows in
    if_ok_weaker _ (λ (more : Option ℕ). Reads h until (rows_deed (g.R.Collector.most c.scan.new.rows) lo hi rows more))
    (λ more is. subst (λ (o : Option ℕ). Reads h until (rows_deed o lo hi rows more)) (sym c.scan.ensures.most)
    (reads_rows h until most lo hi rows more
    (collected_same (left_at (found_in_component k component until)) (λ key. value h key until) lo hi most rows more
    (λ key above below. sym (component_value k component until key c.show_invariant.ensures c.requires.may.held c.requires.may.may c.requires.may.settled))
    is)))
    c.scan.result c.scan.ensures.rows
