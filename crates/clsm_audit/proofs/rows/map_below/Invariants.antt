use Rattle.std.proofs.Common.{◌≢◌, ℕ, ◌<◌, get_or}
use Rattle.clsm_audit.proofs.Played.{IsPlayed}
use Rattle.clsm_audit.proofs.Turns.{nowhere}
use Rattle.clsm_audit.proofs.rows.map_below.Given as goal

abbrev pub invariant-loop-stamp : goal.invariant-loop-stamp
invariant-loop-stamp l = record {
  played : IsPlayed l.records l.stamps l.stamp-index l.replay.until l.replay.map;
  other : (k : ℕ) → k < l.stamp-index → (get_or l.stamps k nowhere).index ≢ l.index;
}
