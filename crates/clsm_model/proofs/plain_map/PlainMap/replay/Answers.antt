use Rattle.std.proofs.Common.{◌∙◌, length, sym, ap, arith, length-take-le}
use Rattle.std.proofs.lemmas.List.{get_or_default}
use Rattle.clsm_model.specs.declared.slot.Slot.TheVariants.{Nothing}
use Rattle.clsm_model.proofs.Histories.{IsMap-begins}
use Rattle.clsm_model.proofs.plain_map.PlainMap.replay.Goals as goal

pub loop-slot-preserved : goal.loop-slot-preserved
loop-slot-preserved c =
    c.in_ok-apply.ensures.follows _ _ (get_or_default c.args.slots.now _ Nothing c.slot-item.result c.loop-slot-test.true
    ∙ sym c.slot-item.is) c.loop-slot.invariant

pub returns-clause-begins : goal.returns-clause-begins
returns-clause-begins c =
    λ h s within is. IsMap-begins h s _ _ _ is (omega (arith, ap length is, length-take-le s h.slots within)) c.loop-slot.invariant
