use Rattle.std.proofs.Common.{ap, ◌∙◌}
use Rattle.clsm_law.specs.declared.view.View.{View}
use Rattle.clsm_store_calls.specs.Changing.{changed_at}
use Rattle.clsm_store_calls.specs.Tally.{Tally}
use Rattle.clsm_store_calls.proofs.Beside.{changed_made, gives_up_for_writes}
use Rattle.clsm_store_calls.proofs.Changed.{changed_if, full_if}
use Rattle.clsm_store_calls.proofs.Giving.{gives_around}
use Rattle.clsm_store_calls.proofs.changing.change.Goals as goal

pub returns-clause-changed : goal.returns-clause-changed
returns-clause-changed g c =
    changed_if c.requires.rests.rests c.lock_shared.ensures.entered c.pin-component.ensures.pinned c.unlock_shared.ensures.left c.args.modification.now.key
    c.change_at_last-answer.result c.read_end-end.result c.read_end-end.ensures c.unpin.ensures.unpinned c.change_at_last-answer.ensures.changed

pub returns-clause-spared : goal.returns-clause-spared
returns-clause-spared g c =
    let enters = c.lock_shared.ensures.entered in
    let pins = c.pin-component.ensures.pinned in
    let unpins = c.unpin.ensures.unpinned in
    let leaves = c.unlock_shared.ensures.left in
    let key = c.args.modification.now.key in
    let answer = c.change_at_last-answer in
    let until = changed_at answer.result in
    let made = changed_made c.args.seat.now.knows c.unlock_shared.new.seat.knows key answer.result
    (changed_if c.requires.rests.rests enters pins leaves key answer.result c.read_end-end.result c.read_end-end.ensures unpins answer.ensures.changed)
    (full_if c.requires.rests.rests enters pins leaves key answer.result c.read_end-end.result c.read_end-end.ensures unpins
    (ap (λ (t : Tally). t.entries) answer.ensures.counts) answer.ensures.full) in
    gives_up_for_writes c.args.seat.now c.unlock_shared.new.seat key until c.show_invariant.ensures c.show_invariant-2.ensures made.0 made.1
    (gives_around c.args.seat.now.knows c.pin-component.new.seat.knows answer.new.seat.knows c.unlock_shared.new.seat.knows key until
    (pins.keeps.past ∙ enters.place.past)
    (ap (λ (v : View). v.due) pins.view ∙ ap (λ (v : View). v.due) enters.view)
    (ap (λ (v : View). v.gave_up) pins.view ∙ ap (λ (v : View). v.gave_up) enters.view)
    (leaves.place.past ∙ unpins.keeps.past)
    (ap (λ (v : View). v.gave_up) leaves.view ∙ ap (λ (v : View). v.gave_up) unpins.view)
    (ap (λ (v : View). v.hold_first) leaves.view ∙ ap (λ (v : View). v.hold_first) unpins.view)
    answer.ensures.spared)

pub change_at_last-answer-requires-clause-unread : goal.change_at_last-answer-requires-clause-unread
change_at_last-answer-requires-clause-unread g c =
    ap (λ (v : View). v.hold_first) c.pin-component.ensures.pinned.view ∙ ap (λ (v : View). v.hold_first) c.lock_shared.ensures.entered.view
