use Rattle.std.proofs.Common.{MatchOption, min}
use Rattle.clsm_audit.specs.Sought.{HasNoneIn, IsLastIn}
use Rattle.clsm_audit.proofs.wanted.last_in.Given as goal

abbrev pub invariant-loop-time : goal.invariant-loop-time
invariant-loop-time l =
    MatchOption l.last (HasNoneIn l.wanted l.call l.from (min l.below l.time)) (IsLastIn l.wanted l.index l.call l.from (min l.below l.time))
