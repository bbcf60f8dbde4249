use Rattle.std.proofs.Common.{sym, ◌∙◌}
use Rattle.clsm_model.proofs.Equals.{Value-Decides, option_eq-Decides}
use Rattle.clsm_store_audit.proofs.skew.is_same_read.Goals as goal

pub returns-then-eq : goal.returns-then-eq
returns-then-eq c =
    let one = c.args.one.now in
    let other = c.args.other.now in
    let own = option_eq-Decides Value-Decides one.own other.beside in
    let beside = option_eq-Decides Value-Decides one.beside other.own in (
      (λ yes. (own.0 (sym c.eq.ensures ∙ c.if-eq.true), beside.0 (sym c.eq-then-eq.ensures ∙ yes))),
      (λ same. c.eq-then-eq.ensures ∙ beside.1 same.1),
    )
