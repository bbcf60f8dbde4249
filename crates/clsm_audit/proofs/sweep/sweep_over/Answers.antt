use Rattle.std.proofs.Common.{List, arith, subst}
use Rattle.std.proofs.lemmas.List.{take_all}
use Rattle.clsm_audit.specs.declared.event.Event.{Event}
use Rattle.clsm_audit.specs.Moments.{HasSwept}
use Rattle.clsm_audit.proofs.Swept.{swept_more}
use Rattle.clsm_audit.proofs.sweep.sweep_over.Goals as goal

pub loop-event-preserved : goal.loop-event-preserved
loop-event-preserved c =
    swept_more c.args.events.now c.requires c.loop-event.event-index _ c.loop-event-test.true c.loop-event.sweep c.pass.new.self c.loop-event.invariant
    c.pass.ensures

pub returns : goal.returns
returns c =
    subst (λ (events : List Event). HasSwept events c.loop-event.sweep)
    (take_all c.loop-event.event-index c.args.events.now (omega arith)) c.loop-event.invariant
