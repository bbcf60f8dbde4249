use Rattle.std.proofs.Common.{◌≡◌, ℕ, ◌<◌, ◌≤◌}
use Rattle.clsm_law.specs.declared.word.Word.TheVariants.{Clock, State}
use Rattle.clsm_law.specs.Memory.{cell_of}
use Rattle.clsm_words.specs.Knowing.{row_of}
use Rattle.clsm_words.specs.Plays.{IsSeatOf}
use Rattle.clsm_store_calls.specs.Freezing.{HoldsOn}
use Rattle.clsm_store_calls.proofs.freezing.pad.Given as goal

abbrev pub invariant-loop-time : goal.invariant-loop-time
invariant-loop-time g l = record {
  of : IsSeatOf l.words l.merger;
  held : HoldsOn l.fn.merger.knows l.merger.knows;
  clock : row_of l.merger.knows Clock ≡ l.clock;
  padded : (t : ℕ) → l.clock ≤ t → t < l.time → row_of l.merger.knows (State (cell_of l.merger.knows.layout t)) ≡ 1;
}
