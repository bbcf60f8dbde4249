use Rattle.std.proofs.Common.{◌≡◌, ℕ, ◌-◌, ◌==◌, Bool, sym, ◌∙◌, arith, eq-eqb, ne_eqb, ap}
use Rattle.clsm_law.specs.declared.word.Word.TheVariants.{Clock, State}
use Rattle.clsm_law.specs.Memory.{Memory, cell_of}
use Rattle.clsm_law.specs.Layout.{memory}
use Rattle.clsm_law.specs.Merging.{epoch_end}
use Rattle.clsm_law.proofs.Passes.{passes_if}
use Rattle.clsm_machine_merger.proofs.MergingTests.{fails_at}
use Rattle.clsm_machine_merger.proofs.facts.is_padded.Goals as goal

pub returns : goal.returns
returns c =
    let z = c.args.layout.now in
    let words : Memory = memory z c.args.words.now in
    let test : ℕ → Bool = λ t. words (State (cell_of z t)) == 1 in
    sym (passes_if test (words Clock) (epoch_end z c.args.merger.now - words Clock)
    (λ t le lt. eq-eqb _ 1 (c.loop-time.invariant t (omega arith) (omega arith))))

pub returns-then-word_at-ne-CANCELLED_CELL : goal.returns-then-word_at-ne-CANCELLED_CELL
returns-then-word_at-ne-CANCELLED_CELL c =
    let z = c.args.layout.now in
    let words : Memory = memory z c.args.words.now in
    let test : ℕ → Bool = λ t. words (State (cell_of z t)) == 1 in
    let here : c.word_at.result ≡ words (State (cell_of z c.loop-time.time)) = c.word_at.ensures ∙ ap (λ (k : ℕ). words (State k)) c.cell_of.ensures in
    sym (fails_at test (words Clock) (epoch_end z c.args.merger.now - words Clock) c.loop-time.time (omega arith) (omega arith)
    (ne_eqb _ 1 (λ e. c.if-word_at-ne-CANCELLED_CELL.true (here ∙ e))))
