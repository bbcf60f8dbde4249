use Rattle.std.proofs.Common.{length, map, take}
use Rattle.clsm_store.proofs.PagesDown.{known_page}
use Rattle.clsm_store.proofs.store.Store.read_down.Goals as goal
use Rattle.clsm_store.proofs.store.Store.read_down.Goals.{in-None, in-Some}

pub returns-clause-page : goal.returns-clause-page
returns-clause-page g c =
    let knows = c.match-under.seat-inside.raw.knows in
    let page = c.args.page in
    let filling = c.match-under.filling in
    known_page knows.past knows.batches c.match-under.paged.time page.bounds.lo page.bounds.hi (length c.args.filling.now.rows.now)
    (map g.R.Row.pair (take filling.count filling.rows.now)) c.match-under.paged.more (elim c.match-under.branch [
      | in-None w ↦ rw w.filling-is (rw w.paged-is (rw w.seat-inside-is w.page_down_at-paged.ensures.page))
      | in-Some w ↦ rw w.filling-is (rw w.paged-is (rw w.seat-inside-is w.page_down_under-paged.ensures.page))
    ])
