use Rattle.std.proofs.Common.{sym, ◌∙◌}
use Rattle.clsm_model.proofs.Equals.{Value-Decides, option_eq-Decides}
use Rattle.clsm_planner.proofs.testing.is_expected.Goals as goal

pub returns : goal.returns
returns c =
    let decides = option_eq-Decides Value-Decides c.args.reply.now c.args.expected.now in
    (λ is. decides.0 (sym c.eq.ensures ∙ is), λ same. c.eq.ensures ∙ decides.1 same)
