use Rattle.std.proofs.Common.{◌≤◌, ◌+◌, length}
use Rattle.clsm_search.specs.ChainWalks.{WalksOn}
use Rattle.clsm_search.proofs.searching.ChainWalk.to_end.Given as goal

abbrev pub invariant-loop : goal.invariant-loop
invariant-loop g l = record {
  on : WalksOn l.words l.initial.seat l.seat l.initial.walk l.walk;
  short : length l.seat.knows.trail + l.counter ≤ l.seat.knows.layout.cells;
}
