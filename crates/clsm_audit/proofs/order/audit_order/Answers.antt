use Rattle.std.proofs.Common.{sym, subst}
use Rattle.clsm_audit.specs.Moments.{HasFirst, IsInMomentOrder}
use Rattle.clsm_audit.specs.RealTime.{IsFirstTooEarly}
use Rattle.clsm_audit.proofs.Timed.{first_early, keeps, kept_none}
use Rattle.clsm_audit.proofs.order.audit_order.Goals as goal

pub returns-in-Some-clause-stale : goal.returns-in-Some-clause-stale
returns-in-Some-clause-stale c =
    let order : IsInMomentOrder c.args.records.now c.args.moments.now c.deref.result.now =
    subst (IsInMomentOrder c.args.records.now c.args.moments.now) (sym c.deref.ensures.value) c.in-Ok.ensures in
    first_early c.args.records.now c.args.moments.now c.deref.result.now order c.in-Some.found
    (subst (HasFirst c.deref.result.now) c.in-Some.is c.sweep_over.ensures.found)

pub returns-in-Some-clause-whole : goal.returns-in-Some-clause-whole
returns-in-Some-clause-whole c = λ keeps.
    let order : IsInMomentOrder c.args.records.now c.args.moments.now c.deref.result.now =
    subst (IsInMomentOrder c.args.records.now c.args.moments.now) (sym c.deref.ensures.value) c.in-Ok.ensures in
    let first : IsFirstTooEarly c.args.records.now c.args.moments.now c.in-Some.found.begin.index c.in-Some.found.finish.index =
    first_early c.args.records.now c.args.moments.now c.deref.result.now order c.in-Some.found
    (subst (HasFirst c.deref.result.now) c.in-Some.is c.sweep_over.ensures.found) in
    absurd (kept_none c.args.records.now c.args.moments.now keeps c.in-Some.found.begin.index c.in-Some.found.finish.index first.here)

pub returns-clause-ok : goal.returns-clause-ok
returns-clause-ok c =
    let order : IsInMomentOrder c.args.records.now c.args.moments.now c.deref.result.now =
    subst (IsInMomentOrder c.args.records.now c.args.moments.now) (sym c.deref.ensures.value) c.in-Ok.ensures in
    keeps c.args.records.now c.args.moments.now c.deref.result.now order
    (subst (HasFirst c.deref.result.now) c.in-None.is c.sweep_over.ensures.found)
