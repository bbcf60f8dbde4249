use Rattle.std.proofs.Common.{arith}
use Rattle.clsm_audit.proofs.Wrongs.{same_rows}
use Rattle.clsm_audit.proofs.rows.first_difference.Goals as goal

pub returns : goal.returns
returns c =
    let all = c.loop-number-test.false in
    let end = c.max-number-end.ensures in
    same_rows c.args.rows.now c.args.right.now c.loop-number.number (omega (arith, all, end)) (omega (arith, all, end)) c.loop-number.invariant
