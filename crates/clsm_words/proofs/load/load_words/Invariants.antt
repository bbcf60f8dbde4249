use Rattle.std.proofs.Common.{◌≡◌, ◌-◌, drop, length, replicate, take}
use Rattle.clsm_law.specs.Views.{words_of}
use Rattle.clsm_words.proofs.load.load_words.Given as goal

abbrev pub invariant-loop-index : goal.invariant-loop-index
invariant-loop-index g l = record {
  looks : g.L.Load.looks l.words l.fn.seat l.seat;
  long : length l.read ≡ 8;
  read : take l.index l.read ≡ take l.index (words_of (g.L.Load.value l.fn.seat l.at));
  rest : drop l.index l.read ≡ replicate (8 - l.index) 0;
}
