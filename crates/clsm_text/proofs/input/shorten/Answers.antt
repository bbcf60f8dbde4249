use Rattle.std.proofs.Common.{◌≡◌, ◌∙◌, Some, None, ap, sym, inr, length, arith}
use Rattle.std.proofs.lemmas.List.{length-take}
use Rattle.clsm_text.specs.Taken.{first_said}
use Rattle.clsm_text.proofs.Silence.{said_take, told_none, told_other, told_sign}
use Rattle.clsm_text.proofs.input.shorten.Goals as goal

pub returns-in-None-clause-told : goal.returns-in-None-clause-told
returns-in-None-clause-told c =
    told_none c.args.line.now.items
    (sym (c.first_said.ensures ∙ ap first_said c.deref.ensures.value) ∙ c.in-None.is)

pub returns-in-None-clause-shortened : goal.returns-in-None-clause-shortened
returns-in-None-clause-shortened c =
    λ _.
    let none : first_said c.args.line.now.items ≡ None =
    sym (c.first_said.ensures ∙ ap first_said c.deref.ensures.value) ∙ c.in-None.is in
    inr (
      none,
      ap first_said c.truncate.ensures.items ∙ said_take c.args.line.now.items 4096 none,
      omega (arith, length-take 4096 c.args.line.now.items, ap length c.truncate.ensures.items, c.requires),
    )

pub returns-in-Some-eq35-clause-told : goal.returns-in-Some-eq35-clause-told
returns-in-Some-eq35-clause-told c =
    let sign : c.in-Some-eq35.field-0 ≡ 35 = omega (arith, c.in-Some-eq35.field-0-test) in
    told_sign c.args.line.now.items
    (sym (c.first_said.ensures ∙ ap first_said c.deref.ensures.value) ∙ c.in-Some-eq35.is ∙ ap Some sign)

pub returns-in-Some-clause-told : goal.returns-in-Some-clause-told
returns-in-Some-clause-told c =
    told_other c.args.line.now.items c.in-Some.field-0
    (sym (c.first_said.ensures ∙ ap first_said c.deref.ensures.value) ∙ c.in-Some.is)
    c.in-Some.field-0-test.1
