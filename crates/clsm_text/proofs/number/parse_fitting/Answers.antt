use Rattle.std.proofs.Common.{◌<◌, ℕ, inl, inr, refl, length, take, get_or, arith}
use Rattle.std.proofs.lemmas.Int.Digits.{digits_more, digits_value_more}
use Rattle.std.proofs.lemmas.List.{length-take}
use Rattle.std.proofs.lemmas.Str.{digit_value_digit}
use Rattle.std.proofs.lemmas.Str.Parse.{digit_from_value}
use Rattle.clsm_text.proofs.Digits.{refuses_byte, small_value}
use Rattle.clsm_text.proofs.number.parse_fitting.Goals as goal

pub returns-then-not-is_ascii_digit : goal.returns-then-not-is_ascii_digit
returns-then-not-is_ascii_digit c =
    let inside : c.loop-byte.byte-index < length c.args.bytes.now = omega arith in
    refuses_byte c.args.bytes.now c.loop-byte.byte-index _ inside refl (λ below.
    let (low, high) = digit_from_value (get_or c.args.bytes.now c.loop-byte.byte-index 0) below in
    elim c.if-not-is_ascii_digit.ensures.cases [ inl less ↦ absurd (omega arith) | inr more ↦ absurd (omega arith) ])

pub overflow_mul-number : goal.overflow_mul-number
overflow_mul-number c =
    let small = small_value (take c.loop-byte.byte-index c.args.bytes.now) 18
    c.loop-byte.invariant.digits (omega (arith, length-take {A = ℕ})) in
    let value = c.loop-byte.invariant.value in omega (arith, small, value)

pub overflow_add-number : goal.overflow_add-number
overflow_add-number c =
    let small = small_value (take c.loop-byte.byte-index c.args.bytes.now) 18
    c.loop-byte.invariant.digits (omega (arith, length-take {A = ℕ})) in
    let value = c.loop-byte.invariant.value in
    let (low, high) = c.if-not-is_ascii_digit.ensures.cases in omega (arith, small, value, high)

pub loop-byte-preserved : goal.loop-byte-preserved
loop-byte-preserved c =
    let inside : c.loop-byte.byte-index < length c.args.bytes.now = omega arith in
    let byte = get_or c.args.bytes.now c.loop-byte.byte-index 0 in
    let digit = digit_value_digit byte c.if-not-is_ascii_digit.ensures.cases in
    let more = digits_value_more 10 c.args.bytes.now c.loop-byte.byte-index inside in
    let value = c.loop-byte.invariant.value in
    record {
      digits = digits_more 10 c.args.bytes.now c.loop-byte.byte-index inside c.loop-byte.invariant.digits
          c.if-not-is_ascii_digit.ensures.bound;
      value = omega (arith, digit, more, value);
    }
