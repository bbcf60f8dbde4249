use Rattle.std.proofs.Common.{◌∙◌, arith}
use Rattle.clsm_workload.proofs.Turns.{gets_more}
use Rattle.clsm_workload.proofs.taking.keep_gets.Goals as goal

pub loop-at-preserved : goal.loop-at-preserved
loop-at-preserved c =
    let inv = c.loop-at.invariant in
    record {
      kept = λ h hold.
          gets_more h c.args.seat c.args.time c.args.keys.now c.args.values.now c.args.records.now.items c.loop-at.records.items
          c.push_reserved.new.self.items c.loop-at.at _ c.index-values-at.result hold c.loop-at-test.true c.index-values-at.is (inv.kept h hold)
          c.push_reserved.ensures.items;
      len = let pushed = c.push_reserved.ensures.len in let before = inv.len in omega (arith, pushed, before);
      capacity = c.push_reserved.ensures.capacity ∙ inv.capacity;
    }
