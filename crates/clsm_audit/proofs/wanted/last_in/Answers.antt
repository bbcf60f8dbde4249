use Rattle.std.proofs.Common.{min, arith}
use Rattle.clsm_audit.proofs.Searches.{found_until, none_past}
use Rattle.clsm_audit.proofs.wanted.last_in.Goals as goal

pub returns : goal.returns
returns c =
    let time = c.loop-time.time in
    let low = c.loop-time.auto.time in
    let end = c.loop-time-test.false in
    let m = c.min-time-end.ensures in
    let s = c.span_of.ensures in
    let before = c.loop-time.invariant in
    found_until c.args.wanted.now c.args.index c.args.call.now c.args.from (min c.args.below time) c.args.below c.loop-time.last (omega arith)
    (λ t from below. none_past c.args.wanted.now c.args.call.now t (omega (arith, end, m, s, from, below)))
    before
