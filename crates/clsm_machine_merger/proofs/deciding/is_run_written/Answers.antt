use Rattle.std.proofs.Common.{sym, subst, arith}
use Rattle.std.proofs.lemmas.Bool.{true≢false}
use Rattle.clsm_levels.specs.declared.entry.Entry.{Entry}
use Rattle.clsm_levels.specs.Run.{ComesBefore}
use Rattle.clsm_law.specs.Layout.{memory}
use Rattle.clsm_law.specs.Places.{entry_in}
use Rattle.clsm_machine_merger.proofs.MergingTests.{yes, no}
use Rattle.clsm_machine_merger.proofs.MergingWritten.{run_written, written_in_order}
use Rattle.clsm_machine_merger.proofs.deciding.is_run_written.Goals as goal

pub returns : goal.returns
returns c = yes (run_written c.args.layout.now c.args.words.now c.args.merger.now c.target_of-target.result c.loop-index.index c.target_of-target.ensures
    (omega arith) c.loop-index.invariant)

pub returns-then-not-comes_before : goal.returns-then-not-comes_before
returns-then-not-comes_before c =
    let words = memory c.args.layout.now c.args.words.now in
    let target = c.target_of-target.result in
    let k = c.loop-index.index in
    no (λ run.
    let ordered = written_in_order c.args.layout.now c.args.words.now c.args.merger.now target k c.target_of-target.ensures run (omega arith) (omega arith) in
    let earlier = subst (λ (x : Entry). ComesBefore x (entry_in words target k)) (sym c.entry_in-before.ensures) ordered in
    true≢false (sym (c.if-not-comes_before.ensures.1 (subst (λ (y : Entry). ComesBefore c.entry_in-before.result y) (sym c.entry_in.ensures) earlier))))
