use Rattle.std.proofs.Common.{◌≡◌, ◌∙◌, length, rules}
use Rattle.clsm_store.proofs.FoundRows.{finds_last, one_row}
use Rattle.clsm_store.proofs.store.Store.last.Goals as goal

pub returns : goal.returns
returns g c =
    let page = c.page_down_into-paged.ensures in
    let after = c.page_down_into-paged.new.rows in
    let long : length after ≡ 1 = search rules in
    finds_last c.args.seat.now c.page_down_into-paged.new.seat c.args.lo c.args.hi c.found.result c.page_down_into-paged.result.time
    c.page_down_into-paged.result.more _ c.found.ensures.time
    (c.found.ensures.row ∙ one_row after _ c.page_down_into-paged.result.rows long page.filled.within) page.reads page.lock
