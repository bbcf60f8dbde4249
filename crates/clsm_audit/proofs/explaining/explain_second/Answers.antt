use Rattle.std.proofs.Common.{arith}
use Rattle.clsm_audit.proofs.Backs.{no_second, second_within}
use Rattle.clsm_audit.proofs.explaining.explain_second.Goals as goal

pub unreachable-requires : goal.unreachable-requires
unreachable-requires c =
    let records = c.args.records.now in
    let all = c.loop-other-test.false in
    no_second records c.args.index c.index-records-index.result (second_within records c.args.index c.requires.second) c.index-records-index.is
    (λ k lt. c.loop-other.invariant k (omega (arith, all, lt))) c.requires.second
