use Rattle.std.proofs.Common.{◌-◌, ◌^◌, ◌<◌, arith, inr, length, subst}
use Rattle.clsm_model.specs.declared.record.Deed.TheVariants.{Batch as Group}
use Rattle.clsm_model.specs.Seats.{FitsDeed}
use Rattle.clsm_store_calls.specs.Seats.{StoreId}
use Rattle.clsm_session.proofs.Waiting.{answers_after, batch_cancels, full_cancels, holds_more, no_room_after, refused_as, refuses_trans}
use Rattle.clsm_session.proofs.writing.batch.Goals as goal

pub returns-in-Ok : goal.returns-in-Ok
returns-in-Ok g c =
    record {
      written = answers_after _ _ _ _ _ c.loop.invariant.refused c.in-Ok.ensures.written;
      fits =
          subst (λ (store : StoreId). FitsDeed store.layout.cells (Group c.args.members.now)) c.loop.invariant.refused.same.store
          c.in-Ok.ensures.fits;
      cancels =
          batch_cancels c.args.caller.now.seat.tally c.loop.caller.seat.tally c.write_alone.new.caller.seat.tally c.loop.invariant.cancels c.in-Ok.ensures.counts;
      refused = tt;
    }

pub returns-in-Err : goal.returns-in-Err
returns-in-Err g c =
    let refused = refused_as c.loop.caller.seat c.write_alone.new.caller.seat c.args.members.now _ _ c.in-Err-Full.field-0-is c.in-Err-Full.ensures.refused in
    let few : c.loop.tries < 2 ^ 64 - 1 = omega arith in
    record {
      written = tt;
      fits = tt;
      cancels =
          full_cancels c.args.caller.now.seat.tally c.loop.caller.seat.tally c.write_alone.new.caller.seat.tally _ _ c.in-Err-Full.field-0-is
          c.loop.invariant.cancels c.in-Err-Full.ensures.counts;
      refused = (
        subst (λ (store : StoreId). FitsDeed store.layout.cells (Group c.args.members.now)) c.loop.invariant.refused.same.store refused.0,
        no_room_after c.args.caller.now.seat c.loop.caller.seat c.write_alone.new.caller.seat c.in-Err-Full.time (length c.args.members.now) c.loop.tries
            _ c.in-Err.refused few c.loop.invariant.holds c.loop.invariant.refused c.requires.cells c.in-Err.ensures refused.1,
      );
    }

pub loop-preserved : goal.loop-preserved
loop-preserved g c =
    let refused = refused_as c.loop.caller.seat c.write_alone.new.caller.seat c.args.members.now _ _ c.in-Err-Full.field-0-is c.in-Err-Full.ensures.refused in
    record {
      refused = refuses_trans c.args.caller.now.seat c.loop.caller.seat c.write_alone.new.caller.seat c.loop.invariant.refused refused.1.refused;
      fits =
          inr (subst (λ (store : StoreId). FitsDeed store.layout.cells (Group c.args.members.now)) c.loop.invariant.refused.same.store
          refused.0);
      cancels =
          full_cancels c.args.caller.now.seat.tally c.loop.caller.seat.tally c.write_alone.new.caller.seat.tally _ _ c.in-Err-Full.field-0-is
          c.loop.invariant.cancels c.in-Err-Full.ensures.counts;
      more = (tt, tt);
      holds =
          holds_more c.loop.tries c.args.caller.now.seat.tally c.loop.caller.seat.tally c.write_alone.new.caller.seat.tally c.loop.invariant.holds
          refused.1.entered;
    }
