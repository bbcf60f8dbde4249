use Rattle.std.proofs.Common.{length, arith, ap, List}
use Rattle.clsm_law.specs.declared.merger.Reader.{Reader}
use Rattle.clsm_store_calls.proofs.Quiet.{all_quiet_if}
use Rattle.clsm_store_calls.proofs.reclaiming.find_all_quiet.Goals as goal

pub returns-clause-let_go : goal.returns-clause-let_go
returns-clause-let_go g c = all_quiet_if c.loop-number.merger.knows.merger.readers (λ i lt. c.loop-number.invariant.quiet i
    (let end = c.loop-number-test.false in let count = c.loop-number.invariant.keeps.count in let long = c.len-number-end.ensures in
    let same = ap (λ (l : List Reader). length l) c.requires.seen in omega arith))
