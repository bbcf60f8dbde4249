use Rattle.std.proofs.Common.{MatchOption}
use Rattle.clsm_levels.specs.Cursors.{IsLeast, IsEmptied}
use Rattle.clsm_levels.proofs.cursor.least.Given as goal

abbrev pub invariant-loop-index : goal.invariant-loop-index
invariant-loop-index l = MatchOption l.best (IsEmptied l.cursors l.index) (λ p. IsLeast l.cursors l.index p.0 p.1)
