use Rattle.std.proofs.Common.{◌≡◌, ◌%◌, ◌≤◌, length, List, Vec, Global, Result, IfOk, map, sym, ap, ◌∙◌, subst}
use Rattle.std.proofs.lemmas.Result.{IfOk-weaker}
use Rattle.clsm_levels.specs.declared.entry.Entry.{Entry}
use Rattle.clsm_levels.specs.Merge.{kept, merged, wanted, is_to_level_one}
use Rattle.clsm_levels.specs.Rule.{sources, KeepsByRule, MakesNext}
use Rattle.clsm_levels.specs.Pass.{RisesByKey}
use Rattle.clsm_levels.proofs.Merges.{wanted_from_sources, keys_rise-merged}
use Rattle.clsm_levels.proofs.Rules.{wanted_by_rule}
use Rattle.clsm_levels.proofs.Turns.{wanted_makes_next, length-wanted}
use Rattle.clsm_levels.proofs.merge.wanted.Goals as goal

pub kept-requires : goal.kept-requires
kept-requires c = subst RisesByKey (sym (c.deref.ensures.value ∙ c.in_ok-entries.ensures)) (keys_rise-merged c.in_ok-sources.field-0.items)

-- what holds of a list of entries holds of a run that has them
of_run : {E : Type 0} (result : Result (Vec Entry Global) E) (all : List Entry) (P : List Entry → Type 0) → IfOk result (λ run. run.items ≡ all) → P all
    → IfOk result (λ run. P run.items)
of_run result all P run here = IfOk-weaker result (λ run. run.items ≡ all) (λ run. P run.items) (λ run is. subst P (sym is) here) run

pub returns : goal.returns
returns c =
    let merges = c.args.merges in
    let floor = c.args.floor in
    let epoch = c.args.epoch.now in
    let runs = map (λ (run : Vec Entry Global). run.items) c.args.runs.now in
    let all = wanted merges floor epoch runs in
    let sorted : c.deref.result.now ≡ merged (sources merges epoch runs) = c.deref.ensures.value ∙ c.in_ok-entries.ensures
    ∙ ap merged c.in_ok-sources.ensures in
    let run = IfOk-weaker c.kept.result (λ (run : Vec Entry Global). run.items ≡ kept floor (is_to_level_one merges) c.deref.result.now)
    (λ (run : Vec Entry Global). run.items ≡ all)
    (λ run is. wanted_from_sources merges floor epoch runs c.deref.result.now run.items sorted is)
    (rw c.is_to_level_one.ensures at c.kept.ensures) in
    record {
      run = run;
      rule = of_run c.kept.result all (KeepsByRule merges floor epoch runs) run (wanted_by_rule merges floor epoch runs);
      small = of_run c.kept.result all (λ l. (merges % 4 ≡ 3 → ⊥) → length l ≤ length epoch) run (length-wanted merges floor epoch runs);
      next = of_run c.kept.result all (MakesNext merges floor epoch runs) run (wanted_makes_next merges floor epoch runs);
    }
