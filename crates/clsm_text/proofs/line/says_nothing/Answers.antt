use Rattle.std.proofs.Common.{◌≡◌, ◌∙◌, Some, ap, sym, arith}
use Rattle.clsm_text.proofs.Silence.{told_none, told_other, told_sign}
use Rattle.clsm_text.proofs.line.says_nothing.Goals as goal

pub returns-in-None : goal.returns-in-None
returns-in-None c = told_none c.args.line.now (sym c.first_said.ensures ∙ c.in-None.is)

pub returns-in-Some-eq35 : goal.returns-in-Some-eq35
returns-in-Some-eq35 c =
    let sign : c.in-Some-eq35.field-0 ≡ 35 = omega (arith, c.in-Some-eq35.field-0-test) in
    told_sign c.args.line.now (sym c.first_said.ensures ∙ c.in-Some-eq35.is ∙ ap Some sign)

pub returns-in-Some : goal.returns-in-Some
returns-in-Some c =
    told_other c.args.line.now c.in-Some.field-0 (sym c.first_said.ensures ∙ c.in-Some.is) c.in-Some.field-0-test.1
