-- Numbers and values as a script writes them.
use Rattle.std.specs.Prelude.{ℕ, ◌^◌, ◌<◌, ◌≤◌, ◌==◌, List, length, map, All}
use Rattle.std.specs.List.{slice_split}
use Rattle.std.specs.Str.Parse.{IsNumeral, digits_value}

-- one to twenty decimal digits, whose number fits 64 bits
pub record IsNumber (text : List ℕ) : Type 0 where
  pub numeral : IsNumeral 10 text
  pub at_most_twenty : length text ≤ 20
  pub fits : digits_value 10 text < 2 ^ 64

-- the parts of a text between its commas
abbrev pub parts_of : List ℕ → List (List ℕ)
parts_of text = slice_split (λ b. b == 44) text

-- one to eight numbers, with a comma between each two
pub record IsValue (text : List ℕ) : Type 0 where
  pub numbers : All IsNumber (parts_of text)
  pub at_most_eight : length (parts_of text) ≤ 8

-- the words of the value that the text writes
abbrev pub value_of : List ℕ → List ℕ
value_of text = map (digits_value 10) (parts_of text)
