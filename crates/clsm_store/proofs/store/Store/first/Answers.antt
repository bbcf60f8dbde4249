use Rattle.std.proofs.Common.{◌≡◌, ◌∙◌, length, rules}
use Rattle.clsm_store.proofs.FoundRows.{finds_first, one_row}
use Rattle.clsm_store.proofs.store.Store.first.Goals as goal

pub returns : goal.returns
returns g c =
    let page = c.page_into-filled.ensures in
    let after = c.page_into-filled.new.rows in
    let long : length after ≡ 1 = search rules in
    finds_first c.args.seat.now c.page_into-filled.new.seat c.args.lo c.args.hi c.found.result c.page_into-filled.result.time c.page_into-filled.result.more _
    c.found.ensures.time (c.found.ensures.row ∙ one_row after _ c.page_into-filled.result.rows long page.filled.within) page.answers page.clock page.lock
    c.show_records.ensures
