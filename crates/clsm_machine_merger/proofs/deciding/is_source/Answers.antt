use Rattle.std.proofs.Common.{◌<◌, refl, arith}
use Rattle.clsm_law.specs.Deciding.{source_count}
use Rattle.clsm_machine_merger.proofs.MergingTests.{yes, no}
use Rattle.clsm_machine_merger.proofs.MergingSources.{numbered-sources}
use Rattle.clsm_machine_merger.proofs.deciding.is_source.Goals as goal

pub returns : goal.returns
returns c =
    let m = c.args.merge.now in
    let numbered = numbered-sources m.layout.now m.words.now m.merger.now m.slots.now in
    no (λ among.
    let found = numbered.number_of c.args.entry.now among in
    let lt : found.0 < source_count m.layout.now m.words.now m.merger.now = found.1 in
    c.loop-number.invariant found.0 (omega arith) found.2)

pub returns-then-is_source_at : goal.returns-then-is_source_at
returns-then-is_source_at c =
    let m = c.args.merge.now in
    let numbered = numbered-sources m.layout.now m.words.now m.merger.now m.slots.now in
    yes (numbered.contains_at c.loop-number.number c.args.entry.now (omega arith) (c.if-is_source_at.ensures.0 refl))
