use Rattle.std.proofs.Common.{rules, ◌≡◌, ◌∷◌}
use Rattle.clsm_model.specs.declared.deal.Deal.{Deal}
use Rattle.clsm_text.specs.Deal.{SaysDeal}
use Rattle.clsm_text.specs.Line.{texts_of}
use Rattle.clsm_script.proofs.Commands.{no_call}
use Rattle.clsm_script.proofs.call.parse_call.Goals as goal

pub returns-in_default-name : goal.returns-in_default-name
returns-in_default-name c =
    let name = c.in-Some-split_first.name.now.now in
    let rest = texts_of c.in-Some-split_first.words.now in
    let is : texts_of c.args.words.now ≡ name ∷ rest = search rules in
    let none : (deal : Deal) → ¬ SaysDeal deal (texts_of c.args.words.now) = search rules in
    rw is (no_call name rest (rw is at none) c.in_default-name.not-try c.in_default-name.not-page c.in_default-name.not-batch)
