use Rattle.std.proofs.Common.{◌≡◌, ap, refl, rules, sym, ◌∙◌}
use Rattle.clsm_law.specs.Views.{next_word}
use Rattle.clsm_law.specs.declared.view.View.{View}
use Rattle.clsm_words.specs.Plays.{IsSeatOf}
use Rattle.clsm_store_calls.specs.Resting.{IsAtRest}
use Rattle.clsm_store_calls.specs.Tally.{tally_of}
use Rattle.clsm_store_calls.specs.Changing.{IsWrittenSince}
use Rattle.clsm_store_calls.proofs.Changed.{changed_if, counts_if, pin_stays, pin_twice, refused_if}
use Rattle.clsm_store_calls.proofs.ChangeLosses.{entries_in_hold}
use Rattle.clsm_store_calls.proofs.Rest.{when_ok}
use Rattle.clsm_store_calls.proofs.changing.try_change.Goals as goal

pub returns-clause-changed : goal.returns-clause-changed
returns-clause-changed g c =
    let entered = when_ok c.try_lock_shared.result c.if-is_err.ensures.negation c.try_lock_shared.ensures.entered in
    changed_if c.requires.rests.rests entered c.pin-component.ensures.pinned c.unlock_shared.ensures.left c.args.modification.now.key
    c.try_in_hold-answer.result c.read_end-end.result c.read_end-end.ensures c.unpin.ensures.unpinned c.try_in_hold-answer.ensures.changed

pub returns-clause-refused : goal.returns-clause-refused
returns-clause-refused g c =
    let entered = when_ok c.try_lock_shared.result c.if-is_err.ensures.negation c.try_lock_shared.ensures.entered in
    let answer = c.try_in_hold-answer in
    let p = c.pin-component.new.seat.knows in
    let d = answer.new.seat.knows in
    let entries = entries_in_hold c.args.tries (IsWrittenSince p d c.args.modification.now.key) (tally_of p) (tally_of d) answer.result answer.ensures.counts in
    refused_if c.requires.rests.rests entered c.pin-component.ensures.pinned c.unlock_shared.ensures.left c.args.modification.now.key answer.result
    c.read_end-end.result c.read_end-end.ensures c.unpin.ensures.unpinned entries answer.ensures.fails

pub returns-clause-counts : goal.returns-clause-counts
returns-clause-counts g c =
    let entered = when_ok c.try_lock_shared.result c.if-is_err.ensures.negation c.try_lock_shared.ensures.entered in
    counts_if c.requires.rests.rests entered c.pin-component.ensures.pinned c.unlock_shared.ensures.left c.args.modification.now.key c.args.tries
    c.try_in_hold-answer.result c.read_end-end.result c.unpin.ensures.unpinned refl c.try_in_hold-answer.ensures.counts

pub returns-clause-rests : goal.returns-clause-rests
returns-clause-rests g c =
    let p = c.pin-component.new.seat.knows in
    let d = c.try_in_hold-answer.new.seat.knows in
    let f = c.unlock_shared.new.seat in
    let key = c.args.modification.now.key in
    let answer = c.try_in_hold-answer in
    let entered = when_ok c.try_lock_shared.result c.if-is_err.ensures.negation c.try_lock_shared.ensures.entered in
    let stays = pin_stays p d c.pin-component.result key answer.result answer.ensures.changed answer.ensures.fails in
    let pinned : p.view.pin ≡ next_word c.args.pin_word =
    ap (λ (v : View). v.pin) c.pin-component.ensures.pinned.view ∙ ap (λ (v : View). next_word v.pin) entered.view ∙ sym (ap next_word c.requires.rests.pin) in
    let pin = ap (λ (v : View). v.pin) c.unlock_shared.ensures.left.view ∙ ap (λ (v : View). v.pin) c.unpin.ensures.unpinned.view
    ∙ ap next_word (stays ∙ pinned)
    ∙ pin_twice c.args.tries (IsWrittenSince p d key) (tally_of p) (tally_of d) c.args.pin_word answer.result answer.ensures.counts in
    let of : IsSeatOf c.args.words.now f = search rules in
    let rests : IsAtRest f.knows = search rules in
    record { of = of; rests = rests; pin = sym pin }
