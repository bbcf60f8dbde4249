use Rattle.std.proofs.Common.{length, ap, arith, refl}
use Rattle.clsm_workload.specs.declared.worker.Worked.{Worked}
use Rattle.clsm_store.proofs.InOrder.{one_more}
use Rattle.clsm_workload.proofs.waiting.rejoin.Goals as goal

pub loop-seat-preserved : goal.loop-seat-preserved
loop-seat-preserved c =
    let w : Worked = record { seat = c.in-Some.seat; made = c.in-Some-next.made } in
    let inv = c.loop-seat.invariant in
    let seats = c.in-Some.ensures.steps.0 in
    let made = c.in-Some-next.ensures.items in
    record {
      seats = one_more (λ (v : Worked). v.seat) c.loop-seat.worked.items c.push.new.self.items w _ c.loop-seat.seat-iterator.rest.items
          _ c.args.seats.items c.in_ok-push.ensures.items refl seats inv.seats;
      made = one_more (λ (v : Worked). v.made) c.loop-seat.worked.items c.push.new.self.items w _ c.loop-seat.made.rest.items
          _ c.args.made.items c.in_ok-push.ensures.items refl made inv.made;
      rest = omega (arith, ap length seats, ap length made, inv.rest);
    }
