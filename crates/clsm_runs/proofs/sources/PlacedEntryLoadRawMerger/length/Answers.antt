use Rattle.clsm_words.specs.Knowing.{row_of}
use Rattle.clsm_runs.proofs.NamedRuns.{merged_short}
use Rattle.clsm_runs.proofs.EntryValues.{length_there}
use Rattle.clsm_runs.proofs.sources.PlacedEntryLoadRawMerger.length.Goals as goal

pub returns : goal.returns
returns g c =
    let k = c.args.merger.now.knows in
    let at = c.args.self.now in
    let has = c.requires.1 in
    let length = length_there (row_of k) at.place at.entry c.requires.2 c.part.result c.part.ensures.told
    (c.show_invariant.ensures.runs.canonical at.place has.named) has.inside (merged_short k at.place at.entry c.show_invariant.ensures has) in
    record { looks = (c.part.ensures.of, c.part.ensures.looks); told = length.0; some = length.1; few = length.2 }
