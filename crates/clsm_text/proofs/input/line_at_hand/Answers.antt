use Rattle.std.proofs.Common.{arith}
use Rattle.clsm_text.proofs.AtHand.{begins_with}
use Rattle.clsm_text.proofs.input.line_at_hand.Goals as goal

pub returns : goal.returns
returns c = begins_with _ _ _ (omega arith) c.in_ok-end.ensures
