use Rattle.std.proofs.Common.{◌≡◌, ℕ, ◌+◌, ◌<◌, get_or}
use Rattle.clsm_law.specs.declared.word.Word.TheVariants.{Entry as EntryWord}
use Rattle.clsm_words.specs.Knowing.{row_of}
use Rattle.clsm_words.specs.Plays.{IsSeatOf}
use Rattle.clsm_words.specs.Changing.{Changes}
use Rattle.clsm_runs.specs.Placing.{IsOfEntry}
use Rattle.clsm_runs.proofs.writing.write_words.Given as goal

abbrev pub invariant-loop-index : goal.invariant-loop-index
invariant-loop-index g l = record {
  of : IsSeatOf l.words l.merger;
  changes : Changes (IsOfEntry l.at.place l.at.entry) l.fn.merger.knows l.merger.knows;
  made : (j : ℕ) → j < l.index → row_of l.merger.knows (EntryWord l.at.place l.at.entry (3 + j)) ≡ get_or l.value j 0;
}
