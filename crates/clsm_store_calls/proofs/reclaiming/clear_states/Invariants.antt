use Rattle.std.proofs.Common.{◌≡◌, ℕ, ◌<◌, ◌≤◌}
use Rattle.clsm_law.specs.declared.word.Word.TheVariants.{State}
use Rattle.clsm_words.specs.Knowing.{row_of}
use Rattle.clsm_words.specs.Plays.{IsSeatOf}
use Rattle.clsm_store_calls.specs.Reclaiming.{IsCleaning, IsLastWritten}
use Rattle.clsm_store_calls.proofs.reclaiming.clear_states.Given as goal

abbrev pub invariant-loop-cell : goal.invariant-loop-cell
invariant-loop-cell g l = record {
  of : IsSeatOf l.words l.merger;
  cleaning : IsCleaning l.merger.knows l.first l.end;
  last : IsLastWritten l.merger.knows l.first l.end l.last;
  view : l.merger.knows.merger ≡ l.initial.merger.knows.merger;
  cleared : (c : ℕ) → l.first ≤ c → c < l.cell → row_of l.merger.knows (State c) ≡ 0;
}
