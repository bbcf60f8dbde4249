use Rattle.clsm_audit.proofs.Members.{ArePlayed}
use Rattle.clsm_audit.proofs.replay.apply_members.Given as goal

abbrev pub invariant-loop-key : goal.invariant-loop-key
invariant-loop-key l = ArePlayed l.seat l.members l.key-index l.fn.map l.map
