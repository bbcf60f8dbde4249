use Rattle.std.proofs.Common.{sym, ◌∙◌}
use Rattle.clsm_text.proofs.Verdicts.{prints_fault, prints_lawful}
use Rattle.clsm_text.proofs.audit.audit_lines.Goals as goal

pub returns-in-Ok-clause-prints : goal.returns-in-Ok-clause-prints
returns-in-Ok-clause-prints g c status =
    prints_lawful _ _ _ c.in-Ok.verdict c.in-Ok.ensures.prints (sym c.status.ensures ∙ status)

pub returns-in-Ok-clause-fault : goal.returns-in-Ok-clause-fault
returns-in-Ok-clause-fault g c status =
    prints_fault _ _ _ _ _ _ c.in-Ok.verdict c.in-Ok.ensures.verdict c.in-Ok.ensures.prints (sym c.status.ensures ∙ status)
