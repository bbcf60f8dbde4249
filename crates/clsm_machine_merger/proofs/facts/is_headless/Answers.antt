use Rattle.std.proofs.Common.{◌≡◌, ℕ, ◌==◌, Bool, sym, ◌∙◌, arith, eq-eqb, ne_eqb, ap}
use Rattle.clsm_law.specs.declared.word.Word.TheVariants.{Head}
use Rattle.clsm_law.specs.Memory.{Memory}
use Rattle.clsm_law.specs.Layout.{memory}
use Rattle.clsm_law.specs.Merging.{retired_region}
use Rattle.clsm_law.proofs.Passes.{passes_if}
use Rattle.clsm_machine_merger.proofs.MergingTests.{fails_at}
use Rattle.clsm_machine_merger.proofs.facts.is_headless.Goals as goal

pub returns : goal.returns
returns c =
    let words : Memory = memory c.args.layout.now c.args.words.now in
    let region = retired_region c.args.merger.now in
    let test : ℕ → Bool = λ s. words (Head region s) == 0 in
    let same : c.retired_region-region.result ≡ region = c.retired_region-region.ensures in
    sym (passes_if test 0 c.args.layout.now.chains (λ s le lt. eq-eqb _ 0
    (ap (λ (r : ℕ). words (Head r s)) (sym same) ∙ c.loop-chain.invariant s (omega arith))))

pub returns-then-word_at-ne0 : goal.returns-then-word_at-ne0
returns-then-word_at-ne0 c =
    let words : Memory = memory c.args.layout.now c.args.words.now in
    let region = retired_region c.args.merger.now in
    let test : ℕ → Bool = λ s. words (Head region s) == 0 in
    let here : c.word_at.result ≡ words (Head region c.loop-chain.chain) = c.word_at.ensures
    ∙ ap (λ (r : ℕ). words (Head r c.loop-chain.chain)) c.retired_region-region.ensures in
    sym (fails_at test 0 c.args.layout.now.chains c.loop-chain.chain (omega arith) (omega arith) (ne_eqb _ 0 (λ e. c.if-word_at-ne0.true (here ∙ e))))
