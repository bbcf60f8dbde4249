use Rattle.std.proofs.Common.{List, arith, refl, subst, sym}
use Rattle.clsm_model.specs.declared.record.CallRecord.{CallRecord}
use Rattle.clsm_workload.specs.Calls.{TakesTurns}
use Rattle.clsm_workload.proofs.Calls.{refuses_self, same_self, same_trans, taken_one_more}
use Rattle.clsm_workload.proofs.worker.Worker.make_all.Goals as goal

pub loop-taken-init : goal.loop-taken-init
loop-taken-init g c = record {
  same = same_self (g.S.Player.seat c.args.player.now);
  made = record { rest_is = refl; turns = (refl, c.requires.none) };
}

pub loop-taken-preserved : goal.loop-taken-preserved
loop-taken-preserved g c =
    let inv = c.loop-taken.invariant in
    record {
      same = same_trans (g.S.Player.seat c.args.player.now) (g.S.Player.seat c.loop-taken.player) (g.S.Player.seat c.step.new.player) inv.same
          c.step.ensures.same;
      made = taken_one_more c.loop-taken.taken c.args.self.now.workload c.loop-taken.self.workload c.step.new.self.workload
          (g.S.Player.seat c.args.player.now) (g.S.Player.seat c.loop-taken.player) (g.S.Player.seat c.step.new.player)
          c.loop-taken.self.records.items c.step.new.self.records.items inv.made c.in_ok-step.ensures.taken c.in_ok-step.ensures.workload;
    }

pub returns-then-is_starved-clause-some : goal.returns-then-is_starved-clause-some
returns-then-is_starved-clause-some g c = record {
  turns = c.loop-taken.taken;
  few = let more = c.loop-taken-test.true in omega (arith, more);
  between = g.S.Player.seat c.loop-taken.player;
  taken = c.loop-taken.invariant.made.turns;
  rest = refuses_self (g.S.Player.seat c.loop-taken.player);
}

pub returns-in_err-step-clause-some : goal.returns-in_err-step-clause-some
returns-in_err-step-clause-some g c = record {
  turns = c.loop-taken.taken;
  few = let more = c.loop-taken-test.true in omega (arith, more);
  between = g.S.Player.seat c.loop-taken.player;
  taken = subst (λ (records : List CallRecord). TakesTurns c.loop-taken.taken c.args.self.now.workload (g.S.Player.seat c.args.player.now)
      (g.S.Player.seat c.loop-taken.player) records) (sym c.in_err-step.ensures.kept) c.loop-taken.invariant.made.turns;
  rest = c.in_err-step.ensures.refused;
}

pub returns-in_err-step-clause-same : goal.returns-in_err-step-clause-same
returns-in_err-step-clause-same g c =
    same_trans (g.S.Player.seat c.args.player.now) (g.S.Player.seat c.loop-taken.player) (g.S.Player.seat c.step.new.player)
    c.loop-taken.invariant.same c.step.ensures.same

pub returns-clause-some : goal.returns-clause-some
returns-clause-some g c = record {
  turns = c.loop-taken.taken;
  few = let end = c.loop-taken.auto.taken-end in omega (arith, end);
  between = g.S.Player.seat c.loop-taken.player;
  taken = c.loop-taken.invariant.made.turns;
  rest = refuses_self (g.S.Player.seat c.loop-taken.player);
}
