use Rattle.std.proofs.Common.{ℕ, [], subst, sym, Some}
use Rattle.clsm_model.specs.Right.{page_deed}
use Rattle.clsm_store_calls.specs.Reading.{ReadsAt}
use Rattle.clsm_store_calls.proofs.ReadParts.{many}
use Rattle.clsm_store_calls.proofs.downwards.page_down_at.Goals as goal

pub returns-clause-reads : goal.returns-clause-reads
returns-clause-reads g c =
    let bounds = c.args.page.bounds in
    let deed = page_deed bounds.lo bounds.hi 0 [] c.page_below-end.result.0.first in
    subst (λ (t : ℕ). ReadsAt c.args.seat.now.knows c.unpin.new.seat.knows t deed) (sym c.page_below-end.ensures.time)
    (many c.requires.rests.rests c.begin-point.ensures.begins c.begin-point.ensures.settled c.page_below-end.ensures.looks c.unpin.ensures.unpinned
    (Some 0) bounds.lo bounds.hi [] c.page_below-end.result.0.first c.page_below-end.ensures.end c.requires.closed)
