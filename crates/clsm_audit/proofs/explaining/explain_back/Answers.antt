use Rattle.std.proofs.Common.{arith}
use Rattle.clsm_audit.proofs.Backs.{back_within, not_back}
use Rattle.clsm_audit.proofs.explaining.explain_back.Goals as goal

pub unreachable-requires : goal.unreachable-requires
unreachable-requires c =
    let records = c.args.records.now in
    let all = c.loop-earlier-test.false in
    not_back records c.args.index c.index-records-index.result (back_within records c.args.index c.requires.back) c.index-records-index.is
    (λ k lt own. c.loop-earlier.invariant k (omega (arith, all, lt)) own) c.requires.back
