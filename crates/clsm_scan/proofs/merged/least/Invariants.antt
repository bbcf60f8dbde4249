use Rattle.clsm_scan.proofs.Places.{IsLeastSoFar}
use Rattle.clsm_scan.proofs.merged.least.Given as goal

abbrev pub invariant-loop-at : goal.invariant-loop-at
invariant-loop-at l = IsLeastSoFar l.streams l.at l.lead
