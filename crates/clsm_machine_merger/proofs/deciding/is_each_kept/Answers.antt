use Rattle.std.proofs.Common.{◌≡◌, refl, sym, subst, arith, below_more}
use Rattle.std.proofs.lemmas.Bool.{true≢false}
use Rattle.clsm_levels.specs.declared.entry.Entry.{Entry}
use Rattle.clsm_law.specs.declared.word.Word.TheVariants.{Count}
use Rattle.clsm_law.specs.Layout.{memory}
use Rattle.clsm_law.specs.Merging.{target_of}
use Rattle.clsm_law.specs.Places.{entry_in}
use Rattle.clsm_law.specs.Deciding.{IsKept}
use Rattle.clsm_machine_merger.specs.MergeReads.{sources, written}
use Rattle.clsm_machine_merger.proofs.MergingTests.{yes, no}
use Rattle.clsm_machine_merger.proofs.MergingNumbers.{numbered_every}
use Rattle.clsm_machine_merger.proofs.MergingWritten.{written_at, numbered-written}
use Rattle.clsm_machine_merger.proofs.deciding.is_each_kept.Goals as goal

pub returns : goal.returns
returns c =
    let m = c.args.merge.now in
    let words = memory m.layout.now m.words.now in
    let target = c.target_of-target.result in
    let P : Entry → Type 0 = IsKept m.merger.now (sources m) in
    let numbered = numbered-written m.layout.now m.words.now m.merger.now target c.target_of-target.ensures in
    yes (numbered_every (written m) (words (Count (target_of m.merger.now))) (written_at words target) P numbered (λ k e lt is.
    let same : entry_in words target k ≡ e = cc is in
    subst P same (c.loop-index.invariant k (omega arith))))

pub loop-index-preserved : goal.loop-index-preserved
loop-index-preserved c =
    let m = c.args.merge.now in
    let P : Entry → Type 0 = IsKept m.merger.now (sources m) in
    below_more (λ k. P (entry_in (memory m.layout.now m.words.now) c.target_of-target.result k)) _ c.loop-index.invariant
    (subst P c.entry_in-entry.ensures (c.if-not-is_kept.ensures.0 refl))

pub returns-then-not-is_kept : goal.returns-then-not-is_kept
returns-then-not-is_kept c =
    let m = c.args.merge.now in
    let P : Entry → Type 0 = IsKept m.merger.now (sources m) in
    let numbered = numbered-written m.layout.now m.words.now m.merger.now c.target_of-target.result c.target_of-target.ensures in
    let here = entry_in (memory m.layout.now m.words.now) c.target_of-target.result c.loop-index.index in
    no (λ each. true≢false (sym (c.if-not-is_kept.ensures.1 (subst P (sym c.entry_in-entry.ensures)
    (each here (numbered.contains_at c.loop-index.index here (omega arith) refl))))))
