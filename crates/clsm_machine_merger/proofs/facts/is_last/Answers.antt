use Rattle.std.proofs.Common.{◌≡◌, ℕ, ◌*◌, ◌==◌, ◌||◌, Bool, false, sym, ◌∙◌, arith, ne_eqb, ap, refl}
use Rattle.clsm_law.specs.declared.word.Word.TheVariants.{State}
use Rattle.clsm_law.specs.Memory.{Memory}
use Rattle.clsm_law.specs.Layout.{memory}
use Rattle.clsm_law.specs.Merging.{retired_region}
use Rattle.clsm_law.proofs.Passes.{passes_if}
use Rattle.clsm_machine_merger.proofs.MergingTests.{fails_at}
use Rattle.clsm_machine_merger.proofs.facts.is_last.Goals as goal

pub returns : goal.returns
returns c =
    let z = c.args.layout.now in
    let words : Memory = memory z c.args.words.now in
    let test : ℕ → Bool = λ o. o == c.args.cell || words (State o) == 0 in
    let first : c.retired_region.result * z.cells ≡ retired_region c.args.merger.now * z.cells = ap (λ (r : ℕ). r * z.cells) c.retired_region.ensures in
    sym (passes_if test (retired_region c.args.merger.now * z.cells) z.cells (λ o le lt. c.loop-other.invariant o (omega arith) (omega arith)))

pub returns-then-word_at-ne0 : goal.returns-then-word_at-ne0
returns-then-word_at-ne0 c =
    let z = c.args.layout.now in
    let words : Memory = memory z c.args.words.now in
    let test : ℕ → Bool = λ o. o == c.args.cell || words (State o) == 0 in
    let first : c.retired_region.result * z.cells ≡ retired_region c.args.merger.now * z.cells = ap (λ (r : ℕ). r * z.cells) c.retired_region.ensures in
    let other : (c.loop-other.other == c.args.cell) ≡ false = ne_eqb _ _ c.if-other-cell.true in
    let set : (words (State c.loop-other.other) == 0) ≡ false = ne_eqb _ 0 (λ e. c.if-word_at-ne0.true (c.word_at.ensures ∙ e)) in
    sym (fails_at test (retired_region c.args.merger.now * z.cells) z.cells c.loop-other.other (omega arith) (omega arith) (rw (other, set) refl))
