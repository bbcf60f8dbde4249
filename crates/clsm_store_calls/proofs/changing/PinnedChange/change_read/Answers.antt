use Rattle.std.proofs.Common.{List, ap, arith, refl, subst, sym, ◌∙◌}
use Rattle.clsm_model.specs.declared.slot.Slot.{Slot}
use Rattle.clsm_law.specs.declared.view.View.{View}
use Rattle.clsm_store_calls.specs.declared.changing.Modified.{Modified}
use Rattle.clsm_store_calls.specs.Changing.{GivesUpFor, IsWrittenFrom}
use Rattle.clsm_store_calls.specs.Resting.{Still}
use Rattle.clsm_store_calls.specs.Tally.{Tally}
use Rattle.clsm_store_calls.proofs.Attempts.{tries_behind}
use Rattle.clsm_store_calls.proofs.Giving.{first_looked, gave_once, same_begins, spares_ended, spares_outdated, spares_raced}
use Rattle.clsm_store_calls.proofs.Rest.{still_drawn, still_given_up, still_reads, still_trans}
use Rattle.clsm_store_calls.proofs.Unchanged.{to_fill}
use Rattle.clsm_store_calls.proofs.changing.PinnedChange.change_read.Goals as goal

pub returns-in-Err-Full-clause-spared : goal.returns-in-Err-Full-clause-spared
returns-in-Err-Full-clause-spared g c =
    let a = c.args.seat.now.knows in
    let b = c.draw.new.seat.knows in
    let t = c.in-Err-Full.time in
    let finds = rw c.in-Err-Full.field-0-is at c.in-Err-Full.ensures.refused in
    let read = c.requires.kept.settled in
    let long = c.show_invariant.ensures.length_is in
    let passed = finds.passed in
    spares_ended a b c.args.self.now.key c.args.modified.now.read.time (first_looked a b t (ap (λ (v : View). v.hold_first) finds.view))
    (same_begins a.past b.past finds.place.past) (ap (λ (v : View). v.gave_up) finds.view) t (omega arith)

pub returns-then-not-is_unchanged-clause-spared : goal.returns-then-not-is_unchanged-clause-spared
returns-then-not-is_unchanged-clause-spared g c =
    let a = c.args.seat.now.knows in
    let b = c.draw.new.seat.knows in
    let k = c.is_unchanged.new.seat.knows in
    let d = c.give_up.new.seat.knows in
    let key = c.args.self.now.key in
    let from = c.args.modified.now.read.time in
    let t = c.in-Ok.time in
    let draws = c.in-Ok.ensures.drawn in
    let reads = c.is_unchanged.ensures.reads in
    let gives = c.give_up.ensures.given_up in
    let still = still_trans a b d (still_drawn a b t draws) (still_trans b k d (still_reads b k reads) (still_given_up k d t gives)) in
    spares_outdated a d key from
    (first_looked a d t (ap (λ (v : View). v.hold_first) gives.view ∙ ap (λ (v : View). v.hold_first) reads.view ∙ ap (λ (v : View). v.hold_first) draws.view))
    still (subst (λ (l : List Slot). IsWrittenFrom l key from) (sym gives.place.past) (c.is_unchanged.ensures.written c.if-not-is_unchanged.true))
    (gave_once a k d (ap (λ (v : View). v.gave_up) reads.view ∙ ap (λ (v : View). v.gave_up) draws.view) gives.counted)

pub fill-drawn-requires-clause-drawn : goal.fill-drawn-requires-clause-drawn
fill-drawn-requires-clause-drawn g c =
    let draws = c.in-Ok.ensures.drawn in
    let read = c.requires.kept.settled in
    let long = c.show_invariant.ensures.length_is in
    let passed = draws.passed in
    to_fill c.args.seat.now.knows c.draw.new.seat.knows c.is_unchanged.new.seat.knows c.args.self.now.component c.args.self.now.key c.in-Ok.time
    c.args.modified.now c.requires.kept draws c.is_unchanged.ensures.reads c.show_invariant-2.ensures c.is_unchanged.ensures.settled (omega arith)
    (c.if-not-is_unchanged.ensures.unchanged refl)

pub returns-clause-changes : goal.returns-clause-changes
returns-clause-changes g c =
    let a = c.args.seat.now.knows in
    let b = c.draw.new.seat.knows in
    let k = c.is_unchanged.new.seat.knows in
    let d = c.fill-drawn.new.seat.knows in
    tries_behind a d c.change_drawn.new.seat.knows c.args.self.now.component c.args.self.now.key c.change_drawn.result
    (still_trans a b d (still_drawn a b c.in-Ok.time c.in-Ok.ensures.drawn)
    (still_trans b k d (still_reads b k c.is_unchanged.ensures.reads) c.fill-drawn.ensures.still)) c.change_drawn.ensures.changes

pub returns-clause-spared : goal.returns-clause-spared
returns-clause-spared g c = λ first so_far.
    let a = c.args.seat.now.knows in
    let b = c.draw.new.seat.knows in
    let k = c.is_unchanged.new.seat.knows in
    let d = c.fill-drawn.new.seat.knows in
    let key = c.args.self.now.key in
    let t = c.in-Ok.time in
    let draws = c.in-Ok.ensures.drawn in
    let reads = c.is_unchanged.ensures.reads in
    let filled = c.fill-drawn.ensures in
    let still = still_trans a b d (still_drawn a b t draws) (still_trans b k d (still_reads b k reads) filled.still) in
    let looked = first_looked a d t (ap (λ (x : Tally). x.first) filled.counts ∙ ap (λ (v : View). v.hold_first) reads.view
    ∙ ap (λ (v : View). v.hold_first) draws.view) in
    let gave = ap (λ (x : Tally). x.gave_up) filled.counts ∙ ap (λ (v : View). v.gave_up) reads.view ∙ ap (λ (v : View). v.gave_up) draws.view in
    c.change_drawn.ensures.spared first
    (subst (λ (m : Modified). Still first d × GivesUpFor first d key m.read.time) (sym filled.keeps)
    (spares_raced a d key c.args.modified.now.read.time looked still gave first so_far))
