use Rattle.std.proofs.Common.{◌-◌, ◌^◌, ◌<◌, ◌∙◌, inl, inr, refl, arith}
use Rattle.clsm_session.proofs.Waiting.{answers_after, full_after, holds_more, is_refusal, refuses_self, refuses_trans, spared_next, spared_over}
use Rattle.clsm_session.proofs.writing.rmw.Goals as goal

pub loop-init : goal.loop-init
loop-init g c = record {
  refused = refuses_self c.args.caller.now.seat;
  patient = refl;
  spared = inl refl;
  more = (tt, tt);
  alone = λ none. refl;
  holds = refl;
}

pub returns-in-Ok : goal.returns-in-Ok
returns-in-Ok g c = let few : c.loop.tries < 2 ^ 64 - 1 = omega arith in record {
  change = record {
    changed = answers_after _ _ _ _ _ c.loop.invariant.refused c.in-Ok.ensures.change.changed;
    patient = c.rmw.ensures.change.lock.hasty ∙ c.loop.invariant.patient;
    spared = spared_over c.args.caller.now.seat c.loop.caller.seat c.rmw.new.self.seat c.args.key c.in-Ok.changed.time c.loop.tries few
        c.loop.invariant.alone c.loop.invariant.holds c.rmw.ensures.change.lock.entries c.loop.invariant.refused
        c.in-Ok.ensures.change.changed.same c.loop.invariant.spared c.in-Ok.ensures.change.spared;
    refused = tt;
  };
  answered = c.in-Ok.ensures.answered;
}

pub loop-preserved : goal.loop-preserved
loop-preserved g c = record {
  refused = refuses_trans c.args.caller.now.seat c.loop.caller.seat c.rmw.new.self.seat c.loop.invariant.refused c.in-Err.ensures.change.full.refused;
  patient = c.rmw.ensures.change.lock.hasty ∙ c.loop.invariant.patient;
  spared = inr (
    c.in-Err.full.time,
    spared_next c.args.caller.now.seat c.loop.caller.seat c.rmw.new.self.seat c.args.key c.in-Err.full.time c.loop.invariant.refused
        c.in-Err.ensures.change.full.refused.same c.loop.invariant.spared c.in-Err.ensures.change.spared,
  );
  more = (tt, tt);
  alone = λ none. absurd (omega arith);
  holds =
      holds_more c.loop.tries c.args.caller.now.seat.tally c.loop.caller.seat.tally c.rmw.new.self.seat.tally c.loop.invariant.holds
      c.in-Err.ensures.change.full.entered;
}

pub returns-in_err-wait_for_room-in-Err : goal.returns-in_err-wait_for_room-in-Err
returns-in_err-wait_for_room-in-Err g c =
    let old = c.args.caller.now.seat in
    let full = c.in-Err.ensures.change.full in
    let few : c.loop.tries < 2 ^ 64 - 1 = omega arith in
    rw (is_refusal c.from_residual.result _ c.from_residual.ensures.1) (record {
      change = record {
        changed = tt;
        patient = c.rmw.ensures.change.lock.hasty ∙ c.loop.invariant.patient;
        spared = (
          c.in-Err.full.time,
          full.clock,
          spared_over old c.loop.caller.seat c.rmw.new.self.seat c.args.key c.in-Err.full.time c.loop.tries few c.loop.invariant.alone
              c.loop.invariant.holds c.rmw.ensures.change.lock.entries c.loop.invariant.refused full.refused.same c.loop.invariant.spared c.in-Err.ensures.change.spared,
        );
        refused = full_after old c.loop.caller.seat c.rmw.new.self.seat c.in-Err.full.time c.loop.tries _ _ few c.loop.invariant.holds
            c.loop.invariant.refused c.requires.cells c.in_err-wait_for_room-in-Err.ensures full;
      };
      answered = tt;
    })
