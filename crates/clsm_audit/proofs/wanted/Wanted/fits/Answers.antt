use Rattle.std.proofs.Common.{sym, ◌∙◌}
use Rattle.clsm_model.proofs.Equals.{Value-Decides, option_eq-Decides}
use Rattle.clsm_audit.proofs.wanted.Wanted.fits.Goals as goal

pub returns-then-written-key : goal.returns-then-written-key
returns-then-written-key c =
    let same = option_eq-Decides Value-Decides c.in-Wrote.left c.in-Leaves.value in
    rw (c.in-Leaves.is, c.in-Wrote.is)
    (λ h. (c.if-written-key.true, same.0 (sym c.eq.ensures ∙ h)), λ fits. c.eq.ensures ∙ same.1 fits.1)
