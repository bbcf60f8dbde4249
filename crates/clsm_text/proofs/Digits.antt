-- Numbers, read digit by digit.
use Rattle.std.proofs.Common.{◌≡◌, ◌∙◌, ℕ, ◌+◌, ◌*◌, ◌^◌, ◌<◌, ◌≤◌, ◌==◌, false, List, [], ◌∷◌, length, map, take, get_or, All}
use Rattle.std.proofs.Common.{Option, Some, None, suc, zero, ap, arith}
use Rattle.std.proofs.lemmas.Int.Digits.{digits_more, digits_value_more}
use Rattle.std.proofs.lemmas.Bool.{ne_eqb}
use Rattle.std.proofs.lemmas.List.Elements.{All-cons, All-from_get_or, All-nil}
use Rattle.std.proofs.lemmas.List.{take_all}
use Rattle.std.proofs.lemmas.List.Splits.{slice_split_none}
use Rattle.std.proofs.lemmas.Str.{digit_value_digit}
use Rattle.std.proofs.lemmas.Str.Parse.{digit_at, digits_value_short, digits_value-take-le, numerals_by_value, tells_digits}
use Rattle.std.specs.Char.{digit_value}
use Rattle.std.specs.Option.{SomeIff}
use Rattle.std.specs.Str.Parse.{AllDigits, digits_value}
use Rattle.clsm_text.specs.Number.{IsNumber, IsValue, parts_of, value_of}

-- each of the bytes is a digit
digit_below : (bytes : List ℕ) (i : ℕ) → AllDigits 10 bytes → i < length bytes →
    digit_value (get_or bytes i 0) < 10
digit_below bytes i all inside =
    let range = digit_at bytes i all inside in
    let value = digit_value_digit (get_or bytes i 0) range in omega (arith, range.0, range.1)

-- bytes among which one is refused, behind the number that is read of those before it, are no
-- number
pub refuses_digit : (bytes : List ℕ) (i number byte : ℕ) →
    number ≡ digits_value 10 (take i bytes) → i < length bytes → byte ≡ get_or bytes i 0 →
    ¬ ((digit_value byte < 10) × (number * 10 + digit_value byte < 2 ^ 64)) → ¬ IsNumber bytes
refuses_digit bytes i number byte value inside is refused written =
    let below = digit_below bytes i written.numeral.1 inside in
    let more = digits_value_more 10 bytes i inside in
    let most = digits_value-take-le 10 bytes (i + 1) (omega arith) in
    let fits = written.fits in
    let same : digit_value byte ≡ digit_value (get_or bytes i 0) = ap digit_value is in
    refused (omega arith, omega arith)

-- a number has no separator in it
pub one_part : (text : List ℕ) (separator : ℕ) → separator < 48 → AllDigits 10 text →
    All (λ b. (b == separator) ≡ false) text
one_part text separator low all =
    All-from_get_or (λ b. (b == separator) ≡ false) text 0
    (λ i inside. let range = digit_at text i all inside in ne_eqb (get_or text i 0) separator (λ same. omega (arith, range.0)))

-- a number is the value of this one word
pub value_of_number : (text : List ℕ) → IsNumber text →
    IsValue text × (value_of text ≡ digits_value 10 text ∷ [])
value_of_number text number =
    let parts : parts_of text ≡ text ∷ [] = slice_split_none (λ b. b == 44) text (one_part text 44 (omega arith) number.numeral.1) in (
      record {
        numbers = rw parts (All-cons IsNumber text [] number (All-nil IsNumber));
        at_most_eight = rw parts (omega arith);
      },
      ap (map (digits_value 10)) parts,
    )

-- digits that are so few write a small number
pub small_value : (bytes : List ℕ) (most : ℕ) → AllDigits 10 bytes → length bytes ≤ most →
    digits_value 10 bytes < 10 ^ most
small_value bytes most all few =
    digits_value_short (numerals_by_value (AllDigits 10) tells_digits) bytes most all few

-- bytes one of which is no digit are not all digits
pub refuses_byte : (bytes : List ℕ) (i byte : ℕ) → i < length bytes → byte ≡ get_or bytes i 0 →
    ¬ (digit_value byte < 10) → ¬ AllDigits 10 bytes
refuses_byte bytes i byte inside is other all = other (rw is (digit_below bytes i all inside))

-- the first of some digits are digits
pub digits_front : (bytes : List ℕ) (i : ℕ) → AllDigits 10 bytes → AllDigits 10 (take i bytes)
digits_front bytes zero all = tt
digits_front [] (suc i) all = tt
digits_front (b ∷ bytes) (suc i) all = (all.0, digits_front bytes i all.1)

-- bytes that fit are a number if they are digits
pub fitting_number : (bytes : List ℕ) (r : Option ℕ) → 0 < length bytes → length bytes < 20 →
    SomeIff r (AllDigits 10 bytes) (digits_value 10 bytes) →
    SomeIff r (IsNumber bytes) (digits_value 10 bytes)
fitting_number bytes None some few read = λ number. read number.numeral.1
fitting_number bytes (Some value) some few read =
    let small = small_value bytes 19 read.0 (omega arith) in (
      record { numeral = (some, read.0); at_most_twenty = omega arith; fits = omega arith },
      read.1,
    )

-- twenty bytes are a number if the first nineteen are digits, and with the last it fits
pub longest_number : (bytes : List ℕ) (number byte : ℕ) (r : Option ℕ) → length bytes ≡ 20 →
    AllDigits 10 (take 19 bytes) → number ≡ digits_value 10 (take 19 bytes) →
    byte ≡ get_or bytes 19 0 →
    SomeIff r ((digit_value byte < 10) × (number * 10 + digit_value byte < 2 ^ 64))
    (number * 10 + digit_value byte) → SomeIff r (IsNumber bytes) (digits_value 10 bytes)
longest_number bytes number byte None long all value is refused =
    refuses_digit bytes 19 number byte value (omega arith) is refused
longest_number bytes number byte (Some x) long all value is read =
    let inside : 19 < length bytes = omega arith in
    let whole : take 20 bytes ≡ bytes = take_all 20 bytes (omega arith) in
    let more = digits_value_more 10 bytes 19 inside in
    let same : digit_value byte ≡ digit_value (get_or bytes 19 0) = ap digit_value is in
    let sum : number * 10 + digit_value byte ≡ digits_value 10 (take 20 bytes) = cc in
    let is_value : x ≡ digits_value 10 bytes = read.1 ∙ sum ∙ ap (digits_value 10) whole in (
      record {
        numeral = (omega arith, rw whole at (digits_more 10 bytes 19 inside all (rw (← is) read.0.0)));
        at_most_twenty = omega arith;
        fits = rw (← is_value) (rw read.1 read.0.1);
      },
      is_value,
    )
