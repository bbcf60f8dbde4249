use Rattle.std.proofs.Common.{refl, sym, arith}
use Rattle.std.proofs.lemmas.Bool.{true≢false}
use Rattle.clsm_law.specs.Deciding.{IsWrittenIfKept, source_count}
use Rattle.clsm_machine_merger.specs.MergeReads.{source, sources, written}
use Rattle.clsm_machine_merger.proofs.MergingTests.{yes, no}
use Rattle.clsm_machine_merger.proofs.MergingNumbers.{numbered_every, numbered_next}
use Rattle.clsm_machine_merger.proofs.MergingSources.{numbered-sources}
use Rattle.clsm_machine_merger.proofs.deciding.is_each_written.Goals as goal

pub returns : goal.returns
returns c =
    let m = c.args.merge.now in
    let numbered = numbered-sources m.layout.now m.words.now m.merger.now m.slots.now in
    let count = source_count m.layout.now m.words.now m.merger.now in
    yes (numbered_every (sources m) count (source m) (IsWrittenIfKept m.merger.now (sources m) (written m)) numbered
    (λ k e lt is. c.loop-number.invariant k e (omega arith) is))

pub loop-number-preserved : goal.loop-number-preserved
loop-number-preserved c =
    let m = c.args.merge.now in
    numbered_next (source m) (IsWrittenIfKept m.merger.now (sources m) (written m)) c.loop-number.number c.loop-number.invariant
    (c.if-not-is_done_at.ensures.0 refl)

pub returns-then-not-is_done_at : goal.returns-then-not-is_done_at
returns-then-not-is_done_at c =
    let m = c.args.merge.now in
    let numbered = numbered-sources m.layout.now m.words.now m.merger.now m.slots.now in
    no (λ each. true≢false (sym (c.if-not-is_done_at.ensures.1 (λ e is stays. each e (numbered.contains_at c.loop-number.number e (omega arith) is) stays))))
