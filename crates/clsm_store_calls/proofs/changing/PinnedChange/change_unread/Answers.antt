use Rattle.std.proofs.Common.{ℕ, ap, arith, subst, sym}
use Rattle.clsm_store_calls.specs.declared.got.Rmw.{Rmw}
use Rattle.clsm_store_calls.specs.Changing.{GivesUpFor}
use Rattle.clsm_store_calls.specs.Tally.{Tally}
use Rattle.clsm_store_calls.proofs.Attempts.{tries_behind}
use Rattle.clsm_store_calls.proofs.Giving.{spares_read}
use Rattle.clsm_store_calls.proofs.changing.PinnedChange.change_unread.Goals as goal

pub returns-then-is_keep-clause-spared : goal.returns-then-is_keep-clause-spared
returns-then-is_keep-clause-spared g c = λ first so_far.
    let a = c.args.seat.now.knows in
    let got = c.latest-got in
    let b = got.new.seat.knows in
    let key = c.args.self.now.key in
    let above = got.ensures.reads.above in
    let due = got.ensures.still.due in
    let now = spares_read a b key got.result.time got.ensures.still got.ensures.first (ap (λ (t : Tally). t.gave_up) got.ensures.counts) (omega arith)
    got.ensures.beyond got.ensures.reads.settled first so_far in
    subst (λ (t : ℕ). GivesUpFor first b key t) (sym (ap (λ (r : Rmw). r.time) c.with-read.ensures)) now.1

pub returns-clause-changes : goal.returns-clause-changes
returns-clause-changes g c =
    let got = c.latest-got in
    tries_behind c.args.seat.now.knows got.new.seat.knows c.change_read.new.seat.knows c.args.self.now.component c.args.self.now.key c.change_read.result
    got.ensures.still c.change_read.ensures.changes

pub returns-clause-spared : goal.returns-clause-spared
returns-clause-spared g c = λ first so_far.
    let a = c.args.seat.now.knows in
    let got = c.latest-got in
    let b = got.new.seat.knows in
    let key = c.args.self.now.key in
    let above = got.ensures.reads.above in
    let due = got.ensures.still.due in
    let now = spares_read a b key got.result.time got.ensures.still got.ensures.first (ap (λ (t : Tally). t.gave_up) got.ensures.counts) (omega arith)
    got.ensures.beyond got.ensures.reads.settled first so_far in
    c.change_read.ensures.spared first
    (now.0, subst (λ (t : ℕ). GivesUpFor first b key t) (sym (ap (λ (r : Rmw). r.time) c.with-read.ensures)) now.1)
