-- The input of a script as its lines.
use Rattle.std.specs.Prelude.{◌≡◌, ◌≢◌, ℕ, ◌+◌, ◌≤◌, ◌==◌, Bool, All, List, [], ◌∷◌, ◌++◌}
use Rattle.std.specs.Prelude.{Option, IfSome, length, take}
use Rattle.std.specs.Io.KnownBytes.{Consumes, IsAtEnd}
use Rattle.std.specs.List.{before_first}
use Rattle.clsm_text.specs.declared.input.Part.{Part}
use Rattle.clsm_text.specs.declared.input.Part.TheVariants as parts

-- the byte is a line feed
abbrev pub is_line_feed : ℕ → Bool
is_line_feed b = b == 10

-- the first line of the bytes, without its line feed
abbrev pub first_line : List ℕ → List ℕ
first_line bytes = before_first is_line_feed bytes

-- the line stands at the beginning of the bytes with its line feed, and is not too long
pub record BeginsWithLine (bytes line : List ℕ) : Type 0 where
  pub begins : take (length line + 1) bytes ≡ line ++ 10 ∷ []
  pub no_feed : All (λ b. b ≢ 10) line
  pub short : length line ≤ 4096

-- bytes without a line feed are taken behind what was taken of the line: with its line feed, which
-- the line leaves room for, or none at the end of the input
abbrev pub TakesMore : Option (List ℕ) → Option (List ℕ) → List ℕ → Part → Type 0
TakesMore old new more parts.Some = Consumes old new more
TakesMore old new more parts.Last = Consumes old new (more ++ 10 ∷ [])
TakesMore old new more parts.None = (more ≡ []) × Consumes old new [] × IfSome old (λ _. IsAtEnd new)

pub record TakesPart (old new : Option (List ℕ)) (before after : List ℕ) (part : Part) :
    Type 0 where
  pub more : List ℕ
  pub grows : after ≡ before ++ more
  pub no_feed : All (λ b. b ≢ 10) more
  pub room : part ≡ parts.Last → length after ≤ 4096
  pub takes : TakesMore old new more part
