use Rattle.std.proofs.Common.{ap, arith, ◌∙◌}
use Rattle.clsm_law.specs.declared.view.View.{View}
use Rattle.clsm_store_calls.specs.declared.got.Rmw.{Rmw}
use Rattle.clsm_store_calls.proofs.Giving.{first_stays, same_begins, spares_ended, spares_overtaken, spares_raced}
use Rattle.clsm_store_calls.proofs.Rest.{left, lost_by, still_seat, still_trans}
use Rattle.clsm_store_calls.proofs.Retries.{still_undecided}
use Rattle.clsm_store_calls.proofs.changing.PinnedChange.change_drawn.Goals as goal

pub returns-in-Err-clause-spared : goal.returns-in-Err-clause-spared
returns-in-Err-clause-spared g c =
    let a = c.args.seat.now.knows in
    let b = c.enter.new.seat.knows in
    let raced = c.in-Err.ensures.raced in
    spares_raced a b c.args.self.now.key c.args.drawn.now.modified.read.time (first_stays a b (ap (λ (v : View). v.hold_first) raced.view))
    (still_undecided a b raced) (ap (λ (v : View). v.gave_up) raced.view)

pub returns-in-Done-clause-spared : goal.returns-in-Done-clause-spared
returns-in-Done-clause-spared g c =
    let a = c.args.seat.now.knows in
    let b = c.decide.new.seat.knows in
    let enters = c.in-Ok.ensures.entered in
    let decided = c.in-Done.ensures.decided in
    let later = c.requires.drawn.read.later in
    let time = ap (λ (r : Rmw). r.time) c.at.ensures in
    spares_ended a b c.args.self.now.key c.args.drawn.now.modified.read.time
    (first_stays a b (ap (λ (v : View). v.hold_first) decided.view ∙ ap (λ (v : View). v.hold_first) enters.view))
    (same_begins a.past b.past (decided.place.past ∙ enters.past)) (ap (λ (v : View). v.gave_up) decided.view ∙ ap (λ (v : View). v.gave_up) enters.view)
    c.at.result.time (omega arith)

pub returns-clause-spared : goal.returns-clause-spared
returns-clause-spared g c =
    let a = c.args.seat.now.knows in
    let b = c.enter.new.seat.knows in
    let d = c.decide.new.seat.knows in
    let enters = c.in-Ok.ensures.entered in
    let lost = c.in-Overtaken.ensures.decided in
    spares_overtaken a d c.args.self.now.key c.args.drawn.now.modified.read.time
    (first_stays a d (ap (λ (v : View). v.hold_first) lost.view ∙ ap (λ (v : View). v.hold_first) enters.view))
    (still_trans a b d (still_seat a b enters.seat (ap left enters.view)) (lost_by b d c.args.drawn.now.time lost))
    (ap (λ (v : View). v.gave_up) lost.view ∙ ap (λ (v : View). v.gave_up) enters.view)
