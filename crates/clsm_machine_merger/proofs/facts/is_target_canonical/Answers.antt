use Rattle.std.proofs.Common.{◌≡◌, ℕ, true, false, sym, arith, subst, below_more}
use Rattle.clsm_law.specs.declared.word.Word.TheVariants.{Count}
use Rattle.clsm_law.specs.Memory.{Memory}
use Rattle.clsm_law.specs.Layout.{memory}
use Rattle.clsm_law.specs.Worlds.{is_canonical, are_canonical}
use Rattle.clsm_law.proofs.Passes.{passes_if}
use Rattle.clsm_machine_merger.proofs.MergingTests.{fails_at}
use Rattle.clsm_machine_merger.proofs.facts.is_target_canonical.Goals as goal

pub returns-then-not-is_canonical : goal.returns-then-not-is_canonical
returns-then-not-is_canonical c =
    let words : Memory = memory c.args.layout.now c.args.words.now in
    let target = c.target_of-target.result in
    let fails : is_canonical words target c.loop-entry.entry ≡ false = sym c.if-not-is_canonical.ensures in
    subst (λ (p : ℕ). false ≡ are_canonical words p) c.target_of-target.ensures
    (sym (fails_at (is_canonical words target) 0 (words (Count target)) c.loop-entry.entry (omega arith) (omega arith) fails))

pub loop-entry-preserved : goal.loop-entry-preserved
loop-entry-preserved c = below_more (λ e. is_canonical (memory c.args.layout.now c.args.words.now) c.target_of-target.result e ≡ true) _
    c.loop-entry.invariant (sym c.if-not-is_canonical.ensures)

pub returns : goal.returns
returns c =
    let words : Memory = memory c.args.layout.now c.args.words.now in
    let target = c.target_of-target.result in
    subst (λ (p : ℕ). true ≡ are_canonical words p) c.target_of-target.ensures
    (sym (passes_if (is_canonical words target) 0 (words (Count target)) (λ e low high. c.loop-entry.invariant e (omega arith))))
