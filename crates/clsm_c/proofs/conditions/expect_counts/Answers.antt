use Rattle.std.proofs.Common.{refl, subst, sym}
use Rattle.clsm_c.specs.Conditional.{AreConditions}
use Rattle.clsm_c.proofs.Expected.{count_made}
use Rattle.clsm_c.proofs.conditions.expect_counts.Goals as goal

pub loop-count-preserved : goal.loop-count-preserved
loop-count-preserved c = record {
  conditions = λ rows are.
      subst (AreConditions rows _) (sym c.in_ok-extend_from_slice.ensures.items)
      (count_made rows c.args.counts.now c.loop-count.conditions.items c.loop-count.count-index _ _ c.loop-count-test.true
      (c.loop-count.invariant.conditions rows are) (refl, refl, refl));
}
