use Rattle.clsm_audit.proofs.Searches.{IsSearched}
use Rattle.clsm_audit.proofs.wanted.last_write.Given as goal

abbrev pub invariant-loop-index : goal.invariant-loop-index
invariant-loop-index l = IsSearched l.records l.wanted l.index l.below l.from l.last
