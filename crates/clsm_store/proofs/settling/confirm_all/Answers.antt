use Rattle.std.proofs.Common.{◌-◌, List, arith}
use Rattle.clsm_store_calls.specs.Seats.{SeatState}
use Rattle.clsm_store.specs.Meetings.{told_by}
use Rattle.clsm_store.proofs.Chained.{confirm_next, confirm_same}
use Rattle.clsm_store.proofs.settling.confirm_all.Goals as goal

pub loop-place-preserved : goal.loop-place-preserved
loop-place-preserved g c =
    let a = c.loop-place-test.true in
    let b = c.len-count.ensures in
    let d = c.args.seats.now.ok.0 in
    let seats : List SeatState = c.args.seats.now.items in
    let l : List SeatState = c.loop-place.seats.items in
    let n = c.len-count.result - 1 in
    let x : SeatState = c.index_mut.result.now in
    let s : SeatState = c.index_mut-in-loop-place.result.now in (
      confirm_same seats l c.loop-place.invariant.0 n (omega arith) x c.tell-message.new.seat c.index_mut.ensures.value c.tell-message.ensures.seat
          c.loop-place.place (omega arith) s c.index_mut-in-loop-place.ensures.value
          c.confirm.new.seat c.confirm.ensures.seat,
      confirm_next seats l c.loop-place.invariant.0 n (omega arith) x c.tell-message.new.seat c.index_mut.ensures.value c.tell-message.ensures.seat
          c.loop-place.place (omega arith) s c.index_mut-in-loop-place.ensures.value
          (told_by c.tell-message.result) c.tell-message.ensures.told c.confirm.ensures.confirmed c.loop-place.invariant.1,
    )

pub returns-clause-confirmed : goal.returns-clause-confirmed
returns-clause-confirmed g c = let a = c.loop-place-test.false in let b = c.len-count.ensures in let d = c.args.seats.now.ok.0 in
    λ i s last at end. c.loop-place.invariant.1 i s last (let e = at.0 in omega arith) at end
