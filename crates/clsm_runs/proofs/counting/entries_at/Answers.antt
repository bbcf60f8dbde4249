use Rattle.std.proofs.Common.{◌≡◌, ℕ, ap, sym, ◌∙◌, true, length, subst, List}
use Rattle.clsm_levels.specs.declared.entry.Entry.{Entry}
use Rattle.clsm_law.specs.Places.{is_named}
use Rattle.clsm_words.specs.Knowing.{row_of}
use Rattle.clsm_runs.proofs.counting.entries_at.Goals as goal

pub count_entries-requires-clause-named : goal.count_entries-requires-clause-named
count_entries-requires-clause-named g c =
    let k = c.args.merger.now.knows in
    ap (λ (m : ℕ). is_named m c.in-Some.place) c.requires.merging.merged ∙ (c.in-Some.ensures (row_of k)).1

pub count_entries-requires-clause-there : goal.count_entries-requires-clause-there
count_entries-requires-clause-there g c = (c.in-Some.ensures (row_of c.args.merger.now.knows)).2
