use Rattle.clsm_store.proofs.Visits.{known_visit}
use Rattle.clsm_store.proofs.store.Store.visit_with.Goals as goal
use Rattle.clsm_store.proofs.store.Store.visit_with.Goals.{in-None, in-Some}

pub returns-clause-visits : goal.returns-clause-visits
returns-clause-visits g c =
    let knows = c.match-under.seat-inside.raw.knows in
    let bounds = c.args.visit.now.bounds in
    known_visit g.V.Visitor.takes knows.past knows.batches c.match-under.counted.time bounds.lo bounds.hi c.match-under.counted.keys
    c.args.visit.now.visitor c.match-under.visit.visitor (elim c.match-under.branch [
      | in-None w ↦ rw w.visit-is (rw w.counted-is (rw w.seat-inside-is w.visit_at-counted.ensures.visits))
      | in-Some w ↦ rw w.visit-is (rw w.counted-is (rw w.seat-inside-is w.visit_under-counted.ensures.visits))
    ])
