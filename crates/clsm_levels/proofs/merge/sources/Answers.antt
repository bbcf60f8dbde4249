use Rattle.std.proofs.Common.{◌≡◌, ◌+◌, ◌++◌, ◌∷◌, [], List, Vec, Global, map, take, sym, ap, ◌∙◌, append_assoc}
use Rattle.std.proofs.lemmas.List.{take_more}
use Rattle.clsm_levels.specs.declared.entry.Entry.{Entry}
use Rattle.clsm_levels.specs.Run.{all_of}
use Rattle.clsm_levels.proofs.Merges.{all_of-push}
use Rattle.clsm_levels.proofs.merge.sources.Goals as goal

abbrev entries : Vec Entry Global → List Entry
entries run = run.items

pub loop-run-preserved : goal.loop-run-preserved
loop-run-preserved c =
    let runs = c.args.runs.now in
    let run = c.run-item.result in
    let more : take (c.loop-run.run-index + 1) runs ≡ take c.loop-run.run-index runs ++ run ∷ [] =
    take_more runs c.loop-run.run-index run c.loop-run-test.true ∙ ap (λ (r : Vec Entry Global). take c.loop-run.run-index runs ++ r ∷ [])
    (sym c.run-item.is) in
    c.in_ok-extend_from_slice.ensures.items ∙ ap (λ (l : List Entry). l ++ c.deref.result.now) c.loop-run.invariant
    ∙ ap (λ (l : List Entry). (c.args.epoch.now ++ all_of (map entries (take c.loop-run.run-index runs))) ++ l) c.deref.ensures.value
    ∙ append_assoc c.args.epoch.now (all_of (map entries (take c.loop-run.run-index runs))) run.items
    ∙ ap (λ (l : List Entry). c.args.epoch.now ++ l) (sym (all_of-push entries (take c.loop-run.run-index runs) run)
    ∙ ap (λ (l : List (Vec Entry Global)). all_of (map entries l)) (sym more))
