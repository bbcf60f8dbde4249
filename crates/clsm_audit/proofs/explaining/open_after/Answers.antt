use Rattle.std.proofs.Common.{ap, ◌∙◌}
use Rattle.clsm_audit.specs.declared.seat.SeatState.{SeatState}
use Rattle.clsm_audit.proofs.Backs.{opened_other, opened_own}
use Rattle.clsm_audit.proofs.explaining.open_after.Goals as goal
use Rattle.clsm_audit.proofs.explaining.open_after.Goals.{then-call-seat, else-call-seat}

pub loop-call-preserved : goal.loop-call-preserved
loop-call-preserved c =
    let calls = c.args.calls.now in
    let i = c.loop-call.call-index in
    let r = c.call-item.result in
    let before = c.loop-call.state.snapshot in
    elim c.if-call-seat.branch [
      | then-call-seat w ↦ ap (λ (s : SeatState). s.snapshot) w.state-is
          ∙ opened_own calls i c.args.seat r before w.open_after-state.result c.loop-call-test.true c.call-item.is w.if-call-seat.true c.loop-call.invariant
          w.open_after-state.ensures
      | else-call-seat w ↦ ap (λ (s : SeatState). s.snapshot) w.state-is
          ∙ opened_other calls i c.args.seat r before c.loop-call-test.true c.call-item.is w.if-call-seat.false c.loop-call.invariant
    ]
