use Rattle.std.proofs.Common.{◌≡◌, map, take, Some}
use Rattle.clsm_words.specs.Plays.{IsSeatOf}
use Rattle.clsm_memtable.specs.Filling.{FillsParts}
use Rattle.clsm_memtable.proofs.filling.fill_words.Given as goal

abbrev pub invariant-loop-index : goal.invariant-loop-index
invariant-loop-index g l = record {
  of : IsSeatOf l.words l.seat;
  filled : FillsParts l.initial.seat.knows l.seat.knows;
  key : l.seat.knows.view.key ≡ l.initial.seat.knows.view.key;
  sized : l.seat.knows.view.length ≡ l.initial.seat.knows.view.length;
  words : take l.index l.seat.knows.view.words ≡ map (λ w. Some w) (take l.index l.value);
}
