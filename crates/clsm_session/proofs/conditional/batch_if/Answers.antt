use Rattle.std.proofs.Common.{◌-◌, ◌^◌, ◌<◌, arith, inr, length, subst, Err, Ok}
use Rattle.clsm_store_calls.specs.declared.refusal.BatchIfError.{BatchIfError}
use Rattle.clsm_store_calls.specs.declared.refusal.BatchIfError.TheVariants as errors
use Rattle.clsm_store_calls.specs.Conditional.{CountsBatchIf, IsRefusedBatchIf}
use Rattle.clsm_session.proofs.Waiting.{holds_more, refuses_trans}
use Rattle.clsm_session.proofs.WaitingIf.{answers_if_after, gives_up_after, meets_all_after, none_after, unmet_after, unwritable_after, writable_after}
use Rattle.clsm_session.proofs.conditional.batch_if.Goals as goal

pub returns-in-Ok : goal.returns-in-Ok
returns-in-Ok g c =
    let a = c.args.caller.now.seat in
    let b = c.loop.caller.seat in
    let d = c.write_alone.new.caller.seat in
    let before = c.loop.invariant in
    record {
      written = answers_if_after a b d before.refused c.args.members.now c.in-Ok.time c.in-Ok.ensures.written;
      holds = meets_all_after a b d before.refused c.args.conditions.now c.in-Ok.time c.in-Ok.ensures.holds;
      fits = writable_after a b d before.refused c.args.members.now c.in-Ok.ensures.fits;
      gives_up = gives_up_after a b d (Ok c.in-Ok.time) before.gives_up c.in-Ok.ensures.counts;
      refused = tt;
    }

pub returns-in-Err : goal.returns-in-Err
returns-in-Err g c =
    let a = c.args.caller.now.seat in
    let b = c.loop.caller.seat in
    let d = c.write_alone.new.caller.seat in
    let conditions = c.args.conditions.now in
    let members = c.args.members.now in
    let before = c.loop.invariant in
    let is = c.in-Err-Full.field-0-is in
    let refused = subst (λ (e : BatchIfError). IsRefusedBatchIf b d conditions members e) is c.in-Err-Full.ensures.refused in
    let counts = subst (λ (e : BatchIfError). CountsBatchIf b.tally d.tally (Err e)) is c.in-Err-Full.ensures.counts in
    let few : c.loop.tries < 2 ^ 64 - 1 = omega arith in
    record {
      written = tt;
      holds = tt;
      fits = tt;
      gives_up = gives_up_after a b d (Err (errors.Full c.in-Err-Full.time)) before.gives_up counts;
      refused = (
        writable_after a b d before.refused members refused.0,
        none_after a b d before.refused conditions (length members) c.in-Err-Full.time c.loop.tries _ c.in-Err.refused few before.holds c.requires.cells
            c.in-Err.ensures refused.1,
      );
    }

pub returns-in-Err-Unmet : goal.returns-in-Err-Unmet
returns-in-Err-Unmet g c =
    let a = c.args.caller.now.seat in
    let b = c.loop.caller.seat in
    let d = c.write_alone.new.caller.seat in
    let conditions = c.args.conditions.now in
    let members = c.args.members.now in
    let before = c.loop.invariant in
    let index = c.in-Err-Unmet.index in
    let time = c.in-Err-Unmet.time in
    let is = c.in-Err-Unmet.field-0-is in
    let refused = subst (λ (e : BatchIfError). IsRefusedBatchIf b d conditions members e) is c.in-Err-Unmet.ensures.refused in
    let counts = subst (λ (e : BatchIfError). CountsBatchIf b.tally d.tally (Err e)) is c.in-Err-Unmet.ensures.counts in
    record {
      written = tt;
      holds = tt;
      fits = tt;
      gives_up = gives_up_after a b d (Err (errors.Unmet index time)) before.gives_up counts;
      refused = (writable_after a b d before.refused members refused.0, unmet_after a b d before.refused conditions index time refused.1);
    }

pub loop-preserved : goal.loop-preserved
loop-preserved g c =
    let a = c.args.caller.now.seat in
    let b = c.loop.caller.seat in
    let d = c.write_alone.new.caller.seat in
    let members = c.args.members.now in
    let before = c.loop.invariant in
    let is = c.in-Err-Full.field-0-is in
    let refused = subst (λ (e : BatchIfError). IsRefusedBatchIf b d c.args.conditions.now members e) is c.in-Err-Full.ensures.refused in
    let counts = subst (λ (e : BatchIfError). CountsBatchIf b.tally d.tally (Err e)) is c.in-Err-Full.ensures.counts in
    record {
      refused = refuses_trans a b d before.refused refused.1.short.refused;
      writable = inr (writable_after a b d before.refused members refused.0);
      gives_up = gives_up_after a b d (Err (errors.Full c.in-Err-Full.time)) before.gives_up counts;
      more = (tt, tt);
      holds = holds_more c.loop.tries a.tally b.tally d.tally before.holds refused.1.short.entered;
    }
