use Rattle.std.proofs.Common.{◌-◌, ◌^◌, ◌<◌, arith}
use Rattle.clsm_session.proofs.Waiting.{answers_after, cancels_trans, full_after, holds_more, is_refusal, refuses_trans}
use Rattle.clsm_session.proofs.writing.write.Goals as goal

pub returns-in-Ok : goal.returns-in-Ok
returns-in-Ok g c = record {
  written = answers_after _ _ _ _ _ c.loop.invariant.refused c.in-Ok.ensures.written;
  cancels =
      cancels_trans c.args.caller.now.seat.tally c.loop.caller.seat.tally c.try_write.new.caller.seat.tally c.loop.invariant.cancels
      c.try_write.ensures.cancels;
  refused = tt;
}

pub loop-preserved : goal.loop-preserved
loop-preserved g c = record {
  refused = refuses_trans c.args.caller.now.seat c.loop.caller.seat c.try_write.new.caller.seat c.loop.invariant.refused c.in-Err.ensures.full.refused;
  cancels =
      cancels_trans c.args.caller.now.seat.tally c.loop.caller.seat.tally c.try_write.new.caller.seat.tally c.loop.invariant.cancels
      c.try_write.ensures.cancels;
  more = (tt, tt);
  holds =
      holds_more c.loop.tries c.args.caller.now.seat.tally c.loop.caller.seat.tally c.try_write.new.caller.seat.tally c.loop.invariant.holds
      c.in-Err.ensures.full.entered;
}

pub returns-in_err-wait_for_room-in-Err : goal.returns-in_err-wait_for_room-in-Err
returns-in_err-wait_for_room-in-Err g c =
    let old = c.args.caller.now.seat in
    let full = c.in-Err.ensures.full in
    let few : c.loop.tries < 2 ^ 64 - 1 = omega arith in
    rw (is_refusal c.from_residual.result _ c.from_residual.ensures.1) (record {
      written = tt;
      cancels = cancels_trans old.tally c.loop.caller.seat.tally c.try_write.new.caller.seat.tally c.loop.invariant.cancels c.try_write.ensures.cancels;
      refused = full_after old c.loop.caller.seat c.try_write.new.caller.seat c.in-Err.full.time c.loop.tries _ _ few c.loop.invariant.holds
          c.loop.invariant.refused c.requires.cells c.in_err-wait_for_room-in-Err.ensures full;
    })
