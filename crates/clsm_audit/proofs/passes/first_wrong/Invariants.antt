use Rattle.clsm_audit.proofs.Played.{IsFoundBefore, IsPlayed}
use Rattle.clsm_audit.proofs.passes.first_wrong.Given as goal

abbrev pub invariant-loop-stamp : goal.invariant-loop-stamp
invariant-loop-stamp l = record {
  played : IsPlayed l.records l.stamps l.stamp-index l.replay.until l.replay.map;
  found : IsFoundBefore l.records l.stamps l.stamp-index l.found;
}
