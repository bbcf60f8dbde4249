use Rattle.std.proofs.Common.{◌≡◌, vec_len}
use Rattle.clsm_words.specs.Plays.{IsSeatOf, IsFreshMerger, AreFreshFrom}
use Rattle.clsm_words.proofs.words.WordTable.deal_all.Given as goal

abbrev pub invariant-loop-number : goal.invariant-loop-number
invariant-loop-number l = record {
  merger : IsSeatOf l.self l.merger × IsFreshMerger l.merger × (l.merger.knows.dealt ≡ l.number);
  count : vec_len l.seats ≡ l.number;
  seats : AreFreshFrom 0 l.self l.seats.items;
}
