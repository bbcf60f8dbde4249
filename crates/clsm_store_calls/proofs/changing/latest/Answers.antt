use Rattle.std.proofs.Common.{ap, arith, cond, not, ◌∙◌}
use Rattle.clsm_law.specs.declared.view.Mode.{Mode}
use Rattle.clsm_law.specs.declared.view.View.{View}
use Rattle.clsm_law.specs.Views.{is_free}
use Rattle.clsm_law.specs.Relation.{first_of}
use Rattle.clsm_model.proofs.Batches.{prefix_length}
use Rattle.clsm_store_calls.proofs.changing.latest.Goals as goal

pub returns-clause-beyond : goal.returns-clause-beyond
returns-clause-beyond g c =
    let a = c.args.seat.now.knows in
    let b = c.look-time.new.seat.knows in
    let follows = c.look-time.ensures.1 in
    let longer = prefix_length a.past b.past follows.longer.slots in
    let long = follows.sound.length_is in
    let passed = follows.tells.5 in
    omega arith

pub returns-clause-first : goal.returns-clause-first
returns-clause-first g c =
    let v = c.args.seat.now.knows.view in
    ap (λ (v : View). v.hold_first) c.value_below-value.ensures.looks.reads.view
    ∙ ap (λ (v : View). v.hold_first) c.settle_below.ensures.keeps.view
    ∙ ap (λ (v : View). v.hold_first) c.look-time.ensures.1.view
    ∙ ap (λ (m : Mode). cond (not (is_free m)) (first_of v.hold_first c.look-time.result) v.hold_first) c.requires.pinned.shared
