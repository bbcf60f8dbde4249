use Rattle.std.proofs.Common.{◌≡◌, ℕ, ◌<◌}
use Rattle.clsm_law.specs.declared.word.Word.TheVariants.{Head}
use Rattle.clsm_words.specs.Knowing.{row_of}
use Rattle.clsm_words.specs.Plays.{IsSeatOf}
use Rattle.clsm_store_calls.proofs.reclaiming.clear_lists.Given as goal

abbrev pub invariant-loop-chain : goal.invariant-loop-chain
invariant-loop-chain g l = record {
  of : IsSeatOf l.words l.merger;
  layout : l.merger.knows.layout ≡ l.initial.merger.knows.layout;
  view : l.merger.knows.merger ≡ l.initial.merger.knows.merger;
  cleared : (s : ℕ) → s < l.chain → row_of l.merger.knows (Head l.region s) ≡ 0;
}
