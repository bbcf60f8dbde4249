-- The parts of a value's text that have been read.
use Rattle.std.proofs.Common.{◌≡◌, ℕ, ◌+◌, ◌<◌, ◌≤◌, ◌↔◌, List, length, map, take, set, get_or, All}
use Rattle.std.proofs.Common.{Result, Ok, Err, IsOk, IfOk, arith, subst, ◌∙◌}
use Rattle.std.proofs.lemmas.Grind.{common_steps}
use Rattle.std.proofs.lemmas.List.{take_more_set, map_more, take_all, length-take}
use Rattle.std.proofs.lemmas.List.Elements.{All-more}
use Rattle.std.proofs.lemmas.List.Splits.{length-slice_split}
use Rattle.std.specs.Option.{SomeIff}
use Rattle.std.specs.Result.{result_ok}
use Rattle.std.specs.Str.Parse.{digits_value}
use Rattle.clsm_text.specs.Number.{IsNumber, IsValue, parts_of, value_of}

-- the first `count` parts are numbers, and the first `count` places have their values
pub record HasRead (parts : List (List ℕ)) (places : List ℕ) (count : ℕ) : Type 0 where
  pub numbers : All IsNumber (take count parts)
  pub values : take count places ≡ map (digits_value 10) (take count parts)

-- one more part is read
pub has_read-more : (parts : List (List ℕ)) (places : List ℕ) (count : ℕ) (part : List ℕ) →
    HasRead parts places count → count < length parts → count < length places →
    part ≡ get_or parts count part → IsNumber part →
    HasRead parts (set places count (digits_value 10 part)) (count + 1)
has_read-more parts places count part read inside room is number =
    record {
      numbers = All-more IsNumber parts count part inside read.numbers (rw (← is) number);
      values = grind (arith, common_steps, take_more_set, map_more, read.values);
    }

-- a part that is no number makes the text no value
pub refuses_part : (text : List ℕ) (count : ℕ) (part : List ℕ) → count < length (parts_of text) →
    part ≡ get_or (parts_of text) count part → ¬ IsNumber part → ¬ IsValue text
refuses_part text count part inside is not_number value =
    not_number (rw is (value.numbers count part inside))

-- where every part is read, `Value::new` gives the value
pub value_of_parts : {E : Type 0} (text places : List ℕ) (count : ℕ) (r : Result (List ℕ) E) →
    HasRead (parts_of text) places count → count ≡ length (parts_of text) → count ≤ 8 →
    length places ≡ 8 →
    (IsOk r ↔ ((1 ≤ length (take count places)) × (length (take count places) ≤ 8))) →
    IfOk r (λ v. v ≡ take count places) →
    SomeIff (result_ok r) (IsValue text) (value_of text)
value_of_parts text places count (Ok v) read all small eight taken words =
    let whole : take count (parts_of text) ≡ parts_of text = take_all _ _ (omega arith) in (
      record { numbers = subst (All IsNumber) whole read.numbers; at_most_eight = omega arith },
      words ∙ (rw whole at read.values),
    )
value_of_parts text places count (Err e) read all small eight taken words =
    λ value. cc (taken.1 (
      omega (arith, length-take {A = ℕ}, length-slice_split {X = ℕ}),
      omega (arith, length-take {A = ℕ}),
    ))
