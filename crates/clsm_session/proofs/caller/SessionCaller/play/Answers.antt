use Rattle.clsm_session.proofs.Waiting.{refused_play}
use Rattle.clsm_session.proofs.caller.SessionCaller.play.Goals as goal

pub returns-in_err-put-in-Put : goal.returns-in_err-put-in-Put
returns-in_err-put-in-Put g c =
    let refused = c.in_err-put-in-Put.ensures.refused in
    refused_play c.args.call.now _ c.args.self.now c.put.new.self _ c.from_residual.result c.in-Put.is c.from_residual.ensures.1
    c.put.ensures.cancels refused.refused.same refused

pub returns-in_err-remove-in-Remove : goal.returns-in_err-remove-in-Remove
returns-in_err-remove-in-Remove g c =
    let refused = c.in_err-remove-in-Remove.ensures.refused in
    refused_play c.args.call.now _ c.args.self.now c.remove.new.self _ c.from_residual-in_err-remove-in-Remove.result c.in-Remove.is
    c.from_residual-in_err-remove-in-Remove.ensures.1 c.remove.ensures.cancels refused.refused.same refused

pub returns-in_err-add-in-Add : goal.returns-in_err-add-in-Add
returns-in_err-add-in-Add g c =
    let change = c.in_err-add-in-Add.ensures.change in
    refused_play c.args.call.now _ c.args.self.now c.add.new.self _ c.from_residual-in_err-add-in-Add.result c.in-Add.is
    c.from_residual-in_err-add-in-Add.ensures.1 (change.patient, change.spared) change.refused.refused.same change.refused

pub returns-in_err-put_if_absent-in-Claim : goal.returns-in_err-put_if_absent-in-Claim
returns-in_err-put_if_absent-in-Claim g c =
    let change = c.in_err-put_if_absent-in-Claim.ensures.change in
    refused_play c.args.call.now _ c.args.self.now c.put_if_absent.new.self _ c.from_residual-in_err-put_if_absent-in-Claim.result c.in-Claim.is
    c.from_residual-in_err-put_if_absent-in-Claim.ensures.1 (change.patient, change.spared) change.refused.refused.same change.refused
