use Rattle.std.proofs.Common.{◌∙◌, arith}
use Rattle.clsm_words.specs.Knowing.{row_of}
use Rattle.clsm_runs.proofs.EntryValues.{few_there, word_there}
use Rattle.clsm_runs.proofs.sources.PlacedEntryLoadRawMerger.word.Goals as goal

pub part-requires-clause-inside : goal.part-requires-clause-inside
part-requires-clause-inside g c =
    let few = few_there (row_of c.args.merger.now.knows) c.args.self.now.place c.args.self.now.entry c.requires.stands.2 in
    let inside = c.requires.inside in omega arith

pub returns-clause-told : goal.returns-clause-told
returns-clause-told g c = c.part.ensures.told
    ∙ word_there (row_of c.args.merger.now.knows) c.args.self.now.place c.args.self.now.entry c.requires.stands.2 c.args.index c.requires.inside
