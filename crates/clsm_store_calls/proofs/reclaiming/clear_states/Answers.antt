use Rattle.std.proofs.Common.{◌≡◌, ◌≢◌, ◌∙◌, ℕ, ◌<◌, ◌≤◌, false, sym, ap, arith, inl, inr}
use Rattle.std.proofs.lemmas.Bool.{cases_lt}
use mathlib.Core.Logic.{dite}
use native.Mathlib.Decide.{ℕ_discrete}
use Rattle.clsm_law.specs.declared.merger.MergerView.{MergerView}
use Rattle.clsm_law.specs.declared.merger.Phase.TheVariants.{Clean}
use Rattle.clsm_law.specs.declared.word.Word.TheVariants.{State}
use Rattle.clsm_words.specs.Knowing.{row_of}
use Rattle.clsm_words.specs.Merging.{facts_known}
use Rattle.clsm_store_calls.proofs.Cleaning.{cleared_cleaning, cleared_here, cleared_last, cleared_states, cleared_view, is_the_last, not_last}
use Rattle.clsm_store_calls.proofs.reclaiming.clear_states.Goals as goal

pub loop-cell-preserved : goal.loop-cell-preserved
loop-cell-preserved g c =
    let k = c.loop-cell.merger.knows in
    let k' = c.clear_state.new.seat.knows in
    let inv = c.loop-cell.invariant in
    let cell = c.loop-cell.cell in
    let last = inv.last in
    let lt = c.loop-cell-test.true in
    let low = c.loop-cell.auto.cell in
    let from = last.from in
    let until = last.below in
    let x = c.clear_state.ensures.0 in
    let follows = c.clear_state.ensures.1.1 in
    let loud : (facts_known k).last cell ≡ false = not_last k c.args.first c.args.end inv.cleaning cell c.args.last from until (λ e. omega arith)
    (last.written (omega arith)) in
    let stay = cleared_states k c.args.first c.args.end inv.cleaning k' x cell follows in
    record {
      of = c.clear_state.ensures.1.0;
      cleaning = cleared_cleaning k c.args.first c.args.end inv.cleaning k' x cell follows loud;
      last = record {
        from = from;
        below = until;
        behind = λ c' above below. stay c' (omega arith) below (λ e. omega arith) ∙ last.behind c' above below;
        written = λ more e. last.written more (sym (stay c.args.last from until (λ same. omega arith)) ∙ e);
      };
      view = cleared_view k c.args.first c.args.end inv.cleaning k' x cell follows loud ∙ inv.view;
      cleared = λ c' above below. dite (ℕ_discrete c' cell)
          (λ (e : c' ≡ cell). ap (λ (n : ℕ). row_of k' (State n)) e ∙ cleared_here k c.args.first c.args.end inv.cleaning k' x cell follows)
          (λ ne. stay c' above (omega arith) ne ∙ inv.cleared c' above (omega arith));
    }

pub returns-clause-clean : goal.returns-clause-clean
returns-clause-clean g c =
    let k = c.loop-cell.merger.knows in
    let inv = c.loop-cell.invariant in
    let last = inv.last in
    let stop = c.loop-cell-test.false in
    let low = c.loop-cell.auto.cell in
    let x = c.clear_state-2.ensures.0 in
    let follows = c.clear_state-2.ensures.1.1 in
    let others : (c' : ℕ) → c.args.first ≤ c' → c' < c.args.end → c' ≢ c.args.last → row_of k (State c') ≡ 0 =
    λ c' above below ne. elim (cases_lt c' c.args.last) [
      | inl before ↦ inv.cleared c' above (omega arith)
      | inr behind ↦ last.behind c' (omega arith) below
    ] in
    cleared_last k c.args.first c.args.end inv.cleaning c.clear_state-2.new.seat.knows x c.args.last follows
    (is_the_last k c.args.first c.args.end inv.cleaning c.args.last others)
    ∙ ap (λ (m : MergerView). record m { phase = Clean }) inv.view
