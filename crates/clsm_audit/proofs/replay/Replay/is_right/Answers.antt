use Rattle.std.proofs.Common.{sym, ◌∙◌}
use Rattle.std.proofs.lemmas.Result.{IfOk-weaker}
use Rattle.clsm_audit.proofs.Readings.{right_reply}
use Rattle.clsm_audit.proofs.replay.Replay.is_right.Goals as goal

pub returns : goal.returns
returns c =
    IfOk-weaker c.is_reply.result _ _ (λ right tested. right_reply c.args.call.now c.args.self.now.until c.args.self.now.map right
    (sym c.is_read.ensures ∙ c.if-not-is_read.false) c.if-call-self.false tested)
    c.is_reply.ensures
