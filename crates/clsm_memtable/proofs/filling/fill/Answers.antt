use Rattle.std.proofs.Common.{◌∙◌, ap, sym, subst, ◌≡◌, take, map, length, List, ℕ, Option, Some, option_copied}
use Rattle.clsm_law.specs.Views.{is_all_some, or_zero}
use Rattle.clsm_memtable.specs.Filling.{Fills}
use Rattle.clsm_memtable.proofs.Places.{all_there}
use Rattle.clsm_memtable.proofs.filling.fill.Goals as goal

pub returns-in-Some-clause-filled : goal.returns-in-Some-clause-filled
returns-in-Some-clause-filled g c =
    let e = c.fill_cell.ensures in
    let same = c.words.ensures.words in
    let words = c.in-Some.value.now in
    subst (Fills c.args.seat.now.knows c.fill_cell.new.seat.knows c.args.key) (sym (ap option_copied c.in-Some.is)) (record {
      parts = e.filled;
      keyed = e.key;
      length = e.length ∙ ap (λ (ws : List ℕ). Some (length ws)) same;
      words = subst (λ (ws : List ℕ). take (length ws) c.fill_cell.new.seat.knows.view.words ≡ map (λ w. Some w) ws) same e.words;
      short = (c.words.ensures.some, c.words.ensures.at_most_eight);
      whole = ap (λ (o : Option ℕ). is_all_some (take (or_zero o) c.fill_cell.new.seat.knows.view.words)) e.length ∙ ap is_all_some e.words
          ∙ all_there c.words.result.now;
    })
