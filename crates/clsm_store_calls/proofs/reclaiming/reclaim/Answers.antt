use Rattle.std.proofs.Common.{◌≡◌, List, ap, refl, sym, subst, ◌∙◌}
use Rattle.clsm_law.specs.declared.merger.MergerView.{MergerView}
use Rattle.clsm_law.specs.declared.merger.Phase.{Phase}
use Rattle.clsm_law.specs.declared.merger.Phase.TheVariants.{Clean}
use Rattle.clsm_law.specs.declared.merger.Reader.{Reader}
use Rattle.clsm_store_calls.proofs.reclaiming.reclaim.Goals as goal

-- a view that differs in its phase and in what it noted of the seats has its own of these
by_own : (m n : MergerView) (phase : Phase) (readers : List Reader) → n ≡ record m { phase = phase; readers = readers }
    → n ≡ record m { phase = n.phase; readers = n.readers }
by_own m n phase readers e = subst (λ (v : MergerView). v ≡ record m { phase = v.phase; readers = v.readers }) (sym e) refl

pub returns-clause-view : goal.returns-clause-view
returns-clause-view g c =
    let old = c.args.merger.now.knows.merger in
    let quiet = c.find_all_quiet.new.merger.knows.merger in
    by_own old c.clear_states.new.merger.knows.merger Clean quiet.readers (c.clear_states.ensures.clean
    ∙ ap (λ (m : MergerView). record m { phase = Clean })
    (c.last_written-last.ensures.view ∙ c.clear_lists.ensures.keeps.view ∙ c.find_all_quiet.ensures.keeps.view))

pub returns-in_err-find_all_quiet-clause-view : goal.returns-in_err-find_all_quiet-clause-view
returns-in_err-find_all_quiet-clause-view g c =
    let old = c.args.merger.now.knows.merger in
    let quiet = c.find_all_quiet.new.merger.knows.merger in
    by_own old quiet old.phase quiet.readers c.find_all_quiet.ensures.keeps.view
