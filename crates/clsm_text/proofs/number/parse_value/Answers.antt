use Rattle.std.proofs.Common.{◌∙◌, sym, ap, ◌∷◌, []}
use Rattle.clsm_text.proofs.Digits.{value_of_number}
use Rattle.clsm_text.proofs.number.parse_value.Goals as goal

pub returns-in-Some : goal.returns-in-Some
returns-in-Some c =
    let (number, word) = c.in-Some.ensures in
    let (is, same) = value_of_number _ number in
    (is, c.from.ensures ∙ ap (λ w. w ∷ []) word ∙ sym same)
