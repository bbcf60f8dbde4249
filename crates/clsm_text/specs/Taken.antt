-- The lines of an input as they are taken one by one, of which no more is kept than 4,097 bytes.
use Rattle.std.specs.Prelude.{◌≡◌, ℕ, ◌+◌, ◌-◌, ◌<◌, ◌≤◌, ◌==◌, ◌⊎◌, ◌↔◌, not, List, length, take, drop}
use Rattle.std.specs.Prelude.{Option, Some, None}
use Rattle.std.specs.Io.KnownBytes.{Consumes}
use Rattle.std.specs.List.{find}
use Rattle.clsm_text.specs.Input.{first_line}
use Rattle.clsm_text.specs.Line.{words_of, IsComment}

-- the first byte of a line that is no space
abbrev pub first_said : List ℕ → Option ℕ
first_said line = find (λ b. not (b == 32)) line

-- what is kept of a line that is too long: it says nothing where the line says nothing, and is too
-- long where the line says something
pub record StandsForLong (whole line : List ℕ) : Type 0 where
  pub long : 4096 < length whole
  pub silent : IsComment (words_of whole) ↔ IsComment (words_of line)
  pub too_long : ¬ IsComment (words_of whole) → 4096 < length line

-- what is kept of a line: the line, unless it is too long
abbrev pub StandsFor : List ℕ → List ℕ → Type 0
StandsFor whole line = (line ≡ whole) ⊎ StandsForLong whole line

-- so many bytes are taken of a line that is too long and says something: 4,097, or the spaces at its
-- front and the byte behind them
pub record TakesFront (bytes whole : List ℕ) (rest : Option (List ℕ)) : Type 0 where
  pub count : ℕ
  pub inside : count ≤ length whole
  pub few : (count ≤ 4097) ⊎ (first_said (take (count - 1) whole) ≡ None)
  pub rest_is : rest ≡ Some (drop count bytes)

-- the line is not too long, or says nothing
abbrev pub IsTakenWhole : List ℕ → Type 0
IsTakenWhole whole = 4096 < length whole → IsComment (words_of whole)

-- the first line of the bytes is taken with its line feed, whatever its length, if it is not too long
-- or says nothing; of any other its front is taken
pub record TakesLine (bytes line : List ℕ) (rest : Option (List ℕ)) : Type 0 where
  pub stands : StandsFor (first_line bytes) line
  pub whole : IsTakenWhole (first_line bytes) → rest ≡ Some (drop (length (first_line bytes) + 1) bytes)
  pub front : ¬ IsTakenWhole (first_line bytes) → TakesFront bytes (first_line bytes) rest

-- what is left of 4,097 bytes that are kept of a line and say nothing: they begin with `#`, or are
-- spaces
abbrev pub IsShortened : List ℕ → List ℕ → Type 0
IsShortened old new = ((first_said old ≡ Some 35) × (first_said new ≡ Some 35))
    ⊎ ((first_said old ≡ None) × (first_said new ≡ None) × (length new ≡ 4096))

-- spaces are taken, if any
pub record TakesSpaces (old new : Option (List ℕ)) : Type 0 where
  pub spaces : List ℕ
  pub blank : first_said spaces ≡ None
  pub takes : Consumes old new spaces
