use Rattle.clsm_text.proofs.AtHand.{at_hand}
use Rattle.clsm_script.proofs.AtHand.{takes_command}
use Rattle.clsm_script.proofs.plain.call_at_hand.Goals as goal

pub returns-clause-taken : goal.returns-clause-taken
returns-clause-taken g c =
    let (is_said, text, says) = c.in_ok-call.ensures in
    takes_command _ _ _ _ _ _ c.buffer.ensures (at_hand _ _ _) c.in_ok-line.ensures
    c.consume.ensures.bytes is_said text says
