use Rattle.std.proofs.Common.{ℕ, ◌≤◌, ap, ◌∙◌, List, length, subst, get_or}
use Rattle.clsm_words.specs.Knowing.{row_of}
use Rattle.clsm_runs.proofs.Spelled.{Spells, spelled_entry, spelled_canonical}
use Rattle.clsm_runs.proofs.Written.{all_spell}
use Rattle.clsm_runs.proofs.writing.write_entry.Given.{Over}
use Rattle.clsm_runs.proofs.writing.write_entry.Goals as goal

spelled : (g : Over) (c : goal.After-write-3 g) → Spells (row_of c.write-3.new.merger.knows) c.args.at.place c.args.at.entry c.args.entry.now
spelled g c =
    let same = c.words_of-value.ensures.words in
    all_spell c.write_words.new.merger.knows c.write.new.merger.knows c.write-2.new.merger.knows c.write-3.new.merger.knows
    c.args.at.place c.args.at.entry c.args.entry.now
    (λ j lt. c.write_words.ensures.made j lt ∙ ap (λ (l : List ℕ). get_or l j 0) same)
    (subst (λ (l : List ℕ). length l ≤ 8) same c.words_of-value.ensures.few)
    c.write.ensures.changes (c.write.ensures.made ∙ ap (λ (l : List ℕ). length l) same)
    c.write-2.ensures.changes (c.write-2.ensures.made ∙ c.spelling.ensures)
    c.write-3.ensures.changes c.write-3.ensures.made

pub returns-clause-made : goal.returns-clause-made
returns-clause-made g c = spelled_entry (row_of c.write-3.new.merger.knows) c.args.at.place c.args.at.entry c.args.entry.now (spelled g c)

pub returns-clause-canonical : goal.returns-clause-canonical
returns-clause-canonical g c = spelled_canonical (row_of c.write-3.new.merger.knows) c.args.at.place c.args.at.entry c.args.entry.now (spelled g c)
