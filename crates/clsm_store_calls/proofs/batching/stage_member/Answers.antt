use Rattle.std.proofs.Common.{◌≡◌, ◌∷◌, [], ap, ◌∙◌}
use Rattle.clsm_law.specs.declared.view.View.{View}
use Rattle.clsm_law.specs.Relation.{member_of}
use Rattle.clsm_memtable.proofs.Entries.{looks_out}
use Rattle.clsm_store_calls.specs.Resting.{deed_of}
use Rattle.clsm_store_calls.proofs.Staged.{one_member, staged_one}
use Rattle.clsm_store_calls.proofs.batching.stage_member.Goals as goal

pub returns-clause-staged : goal.returns-clause-staged
returns-clause-staged g c =
    let b = c.stage.new.seat.knows in
    let k = c.next-guess.new.seat.knows in
    let m = c.args.turn.now.member in
    let looks = looks_out b k c.show_invariant.ensures c.show_invariant-2.ensures c.next-guess.ensures.looks in
    let e = c.decide_member.new.seat.knows in
    let f = c.leave_hints.new.seat.knows in
    let hints = looks_out e f c.show_invariant-3.ensures c.show_invariant-4.ensures c.leave_hints.ensures.looks.looks in
    let deed = c.deed_of.ensures ∙ ap (deed_of m.0) c.value_set-value.ensures in
    let is : member_of c.deed_of.result ≡ m ∷ [] = ap member_of deed ∙ one_member m c.requires.writes in
    staged_one c.args.seat.now.knows b k c.enter.new.seat.knows e f c.args.turn.now.time m.0 _ c.deed_of.result m
    c.stage.ensures.staged looks (ap (λ (v : View). v.raced) c.next-guess.ensures.looks.reads.view)
    c.in-Ok.ensures.entered c.in-Ok.ensures.uncounted c.decide_member.ensures.decided
    hints (ap (λ (v : View). v.raced) c.leave_hints.ensures.looks.looks.reads.view) is
