use Rattle.std.proofs.Common.{◌≡◌, true, ℕ, ◌<◌, ◌≤◌}
use Rattle.clsm_law.specs.Merging.{reader_at}
use Rattle.clsm_words.specs.Plays.{IsSeatOf}
use Rattle.clsm_store_calls.specs.Reclaiming.{AreLookedAtOnce, KeepsRetired}
use Rattle.clsm_store_calls.proofs.reclaiming.find_all_quiet.Given as goal

abbrev pub invariant-loop-number : goal.invariant-loop-number
invariant-loop-number g l = record {
  of : IsSeatOf l.words l.merger;
  keeps : KeepsRetired l.initial.merger.knows l.merger.knows;
  seen : l.seen.items ≡ l.merger.knows.merger.readers;
  quiet : (i : ℕ) → i < l.number → (reader_at l.merger.knows.merger.readers i).quiet ≡ true;
  once : AreLookedAtOnce l.initial.merger.knows.merger.readers l.merger.knows.merger.readers;
  unseen : (i : ℕ) → l.number ≤ i → reader_at l.merger.knows.merger.readers i ≡ reader_at l.initial.merger.knows.merger.readers i;
}
