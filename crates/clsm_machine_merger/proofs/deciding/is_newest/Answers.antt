use Rattle.std.proofs.Common.{sym, arith}
use Rattle.std.proofs.lemmas.Bool.{true≢false}
use Rattle.clsm_levels.specs.declared.entry.Entry.{Entry}
use Rattle.clsm_levels.proofs.Every.{every_contains, every_from_contains}
use Rattle.clsm_law.specs.Deciding.{IsPassedBy, source_count}
use Rattle.clsm_machine_merger.specs.MergeReads.{source, sources}
use Rattle.clsm_machine_merger.proofs.MergingTests.{yes, no}
use Rattle.clsm_machine_merger.proofs.MergingNumbers.{numbered_every}
use Rattle.clsm_machine_merger.proofs.MergingSources.{numbered-sources}
use Rattle.clsm_machine_merger.proofs.deciding.is_newest.Goals as goal

pub returns : goal.returns
returns c =
    let m = c.args.merge.now in
    let P : Entry → Type 0 = IsPassedBy m.merger.now.floor c.args.entry.now in
    let numbered = numbered-sources m.layout.now m.words.now m.merger.now m.slots.now in
    let count = source_count m.layout.now m.words.now m.merger.now in
    yes (every_from_contains P (sources m) (numbered_every (sources m) count (source m) P numbered (λ k x lt is. c.loop-number.invariant k x (omega arith) is)))

pub returns-then-not-is_passed_by : goal.returns-then-not-is_passed_by
returns-then-not-is_passed_by c =
    let m = c.args.merge.now in
    let P : Entry → Type 0 = IsPassedBy m.merger.now.floor c.args.entry.now in
    let numbered = numbered-sources m.layout.now m.words.now m.merger.now m.slots.now in
    no (λ every. true≢false (sym (c.if-not-is_passed_by.ensures.1 (λ x is. every_contains P (sources m) x every
    (numbered.contains_at c.loop-number.number x (omega arith) is)))))
