use Rattle.std.proofs.Common.{refl}
use Rattle.clsm_store.proofs.Visits.{calls_visit, visit_behind, visit_keeps}
use Rattle.clsm_store.proofs.store.Store.visit_calling.Goals as goal
use denote.Param.Always.{mut_next}

pub returns-clause-visits : goal.returns-clause-visits
returns-clause-visits g c =
    let wanted = c.args.visit.now in
    calls_visit _ c.args.seat.now c.visit_with.new.seat c.visit_with.result.time wanted.bounds.lo wanted.bounds.hi c.visit_with.result.keys
    c.visit_with.result.first wanted.visitor c.visit_with.new.visit.visitor c.visit_with.ensures.counts c.visit_with.ensures.visits

pub returns-clause-same_reference : goal.returns-clause-same_reference
returns-clause-same_reference g c =
    let wanted = c.args.visit.now in
    visit_behind _ c.args.seat.now c.visit_with.new.seat c.visit_with.result.time wanted.bounds.lo wanted.bounds.hi c.visit_with.result.keys
    c.visit_with.result.first wanted.visitor c.visit_with.new.visit.visitor c.visit_with.ensures.visits

pub returns-clause-callable : goal.returns-clause-callable
returns-clause-callable g c =
    let wanted = c.args.visit.now in
    visit_keeps _ c.args.seat.now c.visit_with.new.seat c.visit_with.result.time wanted.bounds.lo wanted.bounds.hi c.visit_with.result.keys
    c.visit_with.result.first wanted.visitor c.visit_with.new.visit.visitor _
    (λ before row after called callable. mut_next g.F.FnMut before _ _ after after called refl callable) c.visit_with.ensures.visits c.requires.callable
