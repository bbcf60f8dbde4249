use Rattle.std.proofs.Common.{◌∙◌, ap, arith, inr}
use Rattle.clsm_law.specs.OpenSteps.{open_time}
use Rattle.clsm_law.specs.declared.view.View.{View}
use Rattle.clsm_store_calls.proofs.snapshotting.begin_under.Goals as goal

pub returns-clause-may : goal.returns-clause-may
returns-clause-may g c =
    let sound = c.show_invariant.ensures in
    let pins = c.pin-component.ensures.pinned in
    let held = ap (λ (v : View). v.held) pins.view in
    let near = (sound.reads c.pin-component.result held).near in
    let at = ap (λ (v : View). open_time v.snapshot) pins.view ∙ c.requires.opened in
    let opened = sound.opened c.args.snapshot.time at in
    let long = sound.length_is in
    record { held = held; may = inr at; within = omega arith; settled = omega arith }
