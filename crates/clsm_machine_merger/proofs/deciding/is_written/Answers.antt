use Rattle.std.proofs.Common.{◌≡◌, ◌<◌, Some, refl, sym, ◌∙◌, ap, arith}
use Rattle.clsm_law.specs.declared.word.Word.TheVariants.{Count}
use Rattle.clsm_law.specs.Layout.{memory}
use Rattle.clsm_law.specs.Merging.{target_of}
use Rattle.clsm_law.specs.Places.{entry_in}
use Rattle.clsm_machine_merger.proofs.MergingTests.{yes, no}
use Rattle.clsm_machine_merger.proofs.MergingWritten.{numbered-written}
use Rattle.clsm_machine_merger.proofs.deciding.is_written.Goals as goal

pub returns : goal.returns
returns c =
    let m = c.args.merger.now in
    let words = memory c.args.layout.now c.args.words.now in
    let numbered = numbered-written c.args.layout.now c.args.words.now m c.target_of-target.result c.target_of-target.ensures in
    no (λ among.
    let found = numbered.number_of c.args.entry.now among in
    let lt : found.0 < words (Count (target_of m)) = found.1 in
    let same : entry_in words c.target_of-target.result found.0 ≡ c.args.entry.now = cc (found.2) in
    c.loop-index.invariant found.0 (omega arith) same)

pub returns-then-is_same : goal.returns-then-is_same
returns-then-is_same c =
    let words = memory c.args.layout.now c.args.words.now in
    let numbered = numbered-written c.args.layout.now c.args.words.now c.args.merger.now c.target_of-target.result c.target_of-target.ensures in
    yes (numbered.contains_at c.loop-index.index c.args.entry.now (omega arith) (ap Some (sym c.entry_in.ensures ∙ c.if-is_same.ensures.0 refl)))
