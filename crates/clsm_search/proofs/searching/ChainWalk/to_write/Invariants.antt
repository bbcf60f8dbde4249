use Rattle.clsm_search.specs.ChainWalks.{WalksOn}
use Rattle.clsm_search.proofs.searching.ChainWalk.to_write.Given as goal

abbrev pub invariant-loop : goal.invariant-loop
invariant-loop g l = WalksOn l.words l.initial.seat l.seat l.initial.walk l.walk
