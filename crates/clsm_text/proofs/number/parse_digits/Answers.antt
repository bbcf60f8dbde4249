use Rattle.std.proofs.Common.{refl, rules, arith}
use Rattle.clsm_text.proofs.Digits.{digits_front, fitting_number, longest_number}
use Rattle.clsm_text.proofs.number.parse_digits.Goals as goal

pub returns-then-bytes-eq-MOST_DIGITS : goal.returns-then-bytes-eq-MOST_DIGITS
returns-then-bytes-eq-MOST_DIGITS c =
    let (digits, value) = c.in_ok-number.ensures in
    longest_number c.args.bytes.now c.in_ok-number.number _ _ (omega arith) digits value refl
    c.append_digit.ensures

pub returns-in_err-number : goal.returns-in_err-number
returns-in_err-number c =
    rw c.from_residual.ensures
    (λ number. c.in_err-number.ensures (digits_front c.args.bytes.now 19 number.numeral.1))

pub returns : goal.returns
returns c = fitting_number _ _ (search rules) (search rules) c.parse_fitting-2.ensures
