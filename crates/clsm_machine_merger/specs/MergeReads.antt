-- What a merge reads, keeps and has written, by the words, the merger's view and the slots.
use Rattle.std.specs.Prelude.{ℕ, List, Option}
use Rattle.clsm_levels.specs.declared.entry.Entry.{Entry}
use Rattle.clsm_law.specs.Deciding.{IsEachKept, IsEachWritten, IsKept, IsMergeable, IsWrittenIfKept, StaysIn, source_at, sources_of, wanted_of, written_of}
use Rattle.clsm_machine_merger.specs.declared.sources.Merge.{Merge}

-- the words are a lawful world's, with this view
abbrev pub MayMerge : Merge → Type 0
MayMerge m = IsMergeable m.layout.now m.words.now m.merger.now

-- what it reads, by number and all
abbrev pub source : Merge → ℕ → Option Entry
source m number = source_at m.layout.now m.words.now m.merger.now m.slots.now number

abbrev pub sources : Merge → List Entry
sources m = sources_of m.layout.now m.words.now m.merger.now m.slots.now

-- what stands in the target, and what is to stand there
abbrev pub written : Merge → List Entry
written m = written_of m.layout.now m.words.now m.merger.now

abbrev pub wanted : Merge → List Entry
wanted m = wanted_of m.layout.now m.words.now m.merger.now m.slots.now
