use Rattle.std.proofs.Common.{sym, ◌∙◌}
use Rattle.clsm_audit.proofs.Searches.{member_there, member_past}
use Rattle.clsm_audit.proofs.wanted.member_write.Goals as goal

pub returns-in_err-key : goal.returns-in_err-key
returns-in_err-key c =
    c.from_residual.ensures ∙ sym (member_past c.args.seat c.args.members.now c.args.number c.in_err-key.ensures.lookup.3)

pub returns : goal.returns
returns c =
    let found = c.in_ok-key.ensures.lookup in
    c.change_by.ensures ∙ sym (member_there c.args.seat c.args.members.now c.args.number c.in_ok-key.field-0.now found.3.0 found.1)
