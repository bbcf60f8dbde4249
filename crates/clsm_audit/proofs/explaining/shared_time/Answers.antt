use Rattle.std.proofs.Common.{arith, sym, ◌∙◌}
use Rattle.clsm_audit.proofs.Backs.{both_write, none_write}
use Rattle.clsm_audit.proofs.explaining.shared_time.Goals as goal
use Rattle.clsm_audit.proofs.explaining.shared_time.Goals.{else-time-first-via-then-time-first+else-time-second, else-time-first-via-else-time-first}

pub returns-then-time-second : goal.returns-then-time-second
returns-then-time-second c =
    let a = c.if-time-first.true in
    let b = c.if-time-second.true in
    let s = c.span_of.ensures in
    let t = c.span_of-then-time-first.ensures in
    both_write c.args.first.now c.args.second.now c.max-time.result c.requires.first c.requires.second
    (sym c.is_write.ensures ∙ c.if-not-is_write.false) (sym c.is_write-else-not-is_write.ensures ∙ c.if-not-is_write-2.false)
    c.max-time.ensures (omega (arith, a, s)) (omega (arith, b, t))

pub returns-else-time-first : goal.returns-else-time-first
returns-else-time-first c =
    let s = c.span_of.ensures in
    λ t writes writes'. elim c.else-time-first.branch [
      | else-time-first-via-then-time-first+else-time-second w ↦
          let past = w.if-time-second.false in
          let e = w.span_of-then-time-first.ensures in
          none_write c.args.first.now c.args.second.now c.max-time.result t c.max-time.ensures (λ a b. omega (arith, b, past, e)) writes writes'
      | else-time-first-via-else-time-first w ↦
          let past = w.if-time-first.false in
          none_write c.args.first.now c.args.second.now c.max-time.result t c.max-time.ensures (λ a b. omega (arith, a, past, s)) writes writes'
    ]
