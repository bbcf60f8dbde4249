use Rattle.std.proofs.Common.{◌≡◌, ◌++◌, ◌∷◌, [], Bool, ap, cond, subst, sym, ◌∙◌}
use Rattle.clsm_c.specs.Conditional.{AreConditions}
use Rattle.clsm_c.proofs.Expected.{row_made}
use Rattle.clsm_c.proofs.Members.{row_long}
use Rattle.clsm_c.proofs.conditions.expect_rows.Goals as goal

pub returns-in_default-clause-long : goal.returns-in_default-clause-long
returns-in_default-clause-long c = λ same. row_long c.args.rows.now c.loop-row.row-index _ c.loop-row-test.true c.in_default.ensures.none

pub loop-row-preserved : goal.loop-row-preserved
loop-row-preserved c =
    let before = c.loop-row.conditions.items in
    let after = before ++ c.in-Some.condition ∷ [] in
    let items : c.extend_from_slice.new.self.items ≡ after =
    c.extend_from_slice.ensures.items ∙ ap (λ (b : Bool). cond b after before) c.if-is_err.ensures.negation in
    record {
      conditions = subst (AreConditions _ []) (sym items)
          (row_made c.args.rows.now before c.loop-row.row-index _ _ c.loop-row-test.true c.loop-row.invariant.conditions c.in-Some.ensures.condition);
    }
