use Rattle.std.proofs.Common.{◌≡◌, ℕ, ◌<◌, ◌≤◌}
use Rattle.clsm_law.specs.declared.word.Word.TheVariants.{State}
use Rattle.clsm_words.specs.Knowing.{row_of}
use Rattle.clsm_words.specs.Plays.{IsSeatOf}
use Rattle.clsm_store_calls.specs.Reclaiming.{IsCleaning}
use Rattle.clsm_store_calls.proofs.reclaiming.last_written.Given as goal

abbrev pub invariant-loop-cell : goal.invariant-loop-cell
invariant-loop-cell g l = record {
  of : IsSeatOf l.words l.merger;
  cleaning : IsCleaning l.merger.knows l.first l.end;
  view : l.merger.knows.merger ≡ l.initial.merger.knows.merger;
  behind : (c : ℕ) → l.cell ≤ c → c < l.end → row_of l.merger.knows (State c) ≡ 0;
}
