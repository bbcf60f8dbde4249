use Rattle.std.proofs.Common.{◌∙◌, ap, sym, subst, ◌≡◌, take, map, length, List, ℕ, Some, option_copied}
use Rattle.clsm_law.specs.declared.view.View.{View}
use Rattle.clsm_law.specs.Views.{is_all_some, or_zero}
use Rattle.clsm_memtable.specs.Filling.{Stages, staged_view}
use Rattle.clsm_memtable.proofs.Places.{all_there}
use Rattle.clsm_memtable.proofs.staging.stage.Goals as goal

pub returns-in-Some-clause-staged : goal.returns-in-Some-clause-staged
returns-in-Some-clause-staged g c =
    let e = c.stage_cell.ensures in
    let same = c.words.ensures.words in
    let words = c.in-Some.value.now in
    let old = c.args.seat.now.knows.view in
    let new = c.stage_cell.new.seat.knows.view in
    subst (Stages c.args.seat.now.knows c.stage_cell.new.seat.knows c.args.cell.time c.args.cell.key) (sym (ap option_copied c.in-Some.is)) (record {
      place = e.place;
      view = e.view ∙ ap (λ (ws : List ℕ). staged_view old c.args.cell.time (Some c.args.cell.key) (Some (length ws)) new) same;
      words = subst (λ (ws : List ℕ). take (length ws) new.words ≡ map (λ w. Some w) ws) same e.words;
      short = (c.words.ensures.some, c.words.ensures.at_most_eight);
      whole = ap (λ (v : View). is_all_some (take (or_zero v.length) new.words)) e.view ∙ ap is_all_some e.words ∙ all_there c.words.result.now;
    })
