use Rattle.clsm_text.specs.Audit.{Grows}
use Rattle.clsm_text.proofs.history.write_history.Given as goal

abbrev pub invariant-loop-stamp : goal.invariant-loop-stamp
invariant-loop-stamp g l = Grows (g.W.Write.contents l.initial.output) (g.W.Write.contents l.output)
