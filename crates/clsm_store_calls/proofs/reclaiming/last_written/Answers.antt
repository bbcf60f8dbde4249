use Rattle.std.proofs.Common.{◌≡◌, ◌∙◌, ℕ, ◌-◌, ◌<◌, ◌≤◌, sym, ap, arith}
use mathlib.Core.Logic.{dite}
use native.Mathlib.Decide.{ℕ_discrete}
use Rattle.clsm_law.specs.declared.word.Word.TheVariants.{State}
use Rattle.clsm_words.specs.Knowing.{row_of}
use Rattle.clsm_store_calls.proofs.Cleaning.{looked_cleaning, looked_found, looked_states}
use Rattle.clsm_store_calls.proofs.reclaiming.last_written.Goals as goal

pub returns-then-look_as_merger-ne0-clause-cleaning : goal.returns-then-look_as_merger-ne0-clause-cleaning
returns-then-look_as_merger-ne0-clause-cleaning g c =
    let low = c.loop-cell-test.true in let high = c.loop-cell.auto.cell in
    looked_cleaning c.loop-cell.merger.knows c.args.first c.args.end c.loop-cell.invariant.cleaning c.look_as_merger.new.seat.knows c.look_as_merger.result
    (c.loop-cell.cell - 1) (omega arith) (omega arith) c.look_as_merger.ensures.1

pub loop-cell-preserved : goal.loop-cell-preserved
loop-cell-preserved g c =
    let k = c.loop-cell.merger.knows in
    let k' = c.look_as_merger.new.seat.knows in
    let inv = c.loop-cell.invariant in
    let cell = c.loop-cell.cell - 1 in
    let low = c.loop-cell-test.true in
    let high = c.loop-cell.auto.cell in
    let from : c.args.first ≤ cell = omega arith in
    let until : cell < c.args.end = omega arith in
    let follows = c.look_as_merger.ensures.1 in
    let stay = looked_states k c.args.first c.args.end inv.cleaning k' c.look_as_merger.result cell from until follows in
    let found = looked_found k c.args.first c.args.end inv.cleaning k' c.look_as_merger.result cell from until follows in
    record {
      of = c.look_as_merger.ensures.0;
      cleaning = looked_cleaning k c.args.first c.args.end inv.cleaning k' c.look_as_merger.result cell from until follows;
      view = follows.view ∙ inv.view;
      behind = λ c' above below. dite (ℕ_discrete c' cell)
          (λ (e : c' ≡ cell). ap (λ (n : ℕ). row_of k' (State n)) e ∙ stay cell from until ∙ sym found ∙ c.if-look_as_merger-ne0.false)
          (λ ne. stay c' (omega arith) below ∙ inv.behind c' (omega arith) below);
    }
