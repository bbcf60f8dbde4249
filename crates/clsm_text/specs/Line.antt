-- The lines of a text, and the words of a line.
use Rattle.std.specs.Prelude.{◌≡◌, ℕ, ◌≤◌, ◌-◌, ◌==◌, ◌⊎◌, not, ⊤, All, List, [], ◌∷◌, MatchOption, Option}
use Rattle.std.specs.Prelude.{length, map, filter, take, slice_index, slice_index_or}
use Rattle.std.specs.Borrow.{Bor}
use Rattle.std.specs.List.{slice_split}
use Rattle.std.specs.Str.{IsUtf8}
use Rattle.smallvec.specs.SmallVec.{SmallVec}
use Rattle.clsm_text.specs.Input.{is_line_feed}

-- the texts behind a row of `&str`
abbrev pub texts_of : List (Bor (List ℕ)) → List (List ℕ)
texts_of words = map (λ word. word.now) words

-- the words of a line: what stands between its spaces
abbrev pub words_of : List ℕ → List (List ℕ)
words_of line = filter (λ word. not (length word == 0)) (slice_split (λ b. b == 32) line)

-- a line of no words, or whose first word begins with `#`, says nothing, however long it is and
-- whatever bytes it has
abbrev pub IsComment : List (List ℕ) → Type 0
IsComment [] = ⊤
IsComment (word ∷ _) = slice_index word 0 ≡ 35

-- what a reader of the line says of it: its words, or nothing where it says nothing
abbrev pub SaysWords : List ℕ → Option (SmallVec (Bor (List ℕ))) → Type 0
SaysWords line said = MatchOption said
    (IsComment (words_of line))
    (λ words. (¬ IsComment (words_of line)) × (texts_of words.items ≡ words_of line))

-- a line that is text, and not too long
abbrev pub IsText : List ℕ → Type 0
IsText line = (length line ≤ 4096) × IsUtf8 line

-- the lines of an input: what stands between its line feeds
abbrev pub lines_of : List ℕ → List (List ℕ)
lines_of bytes = slice_split is_line_feed bytes

-- the line says nothing, or is text whose words say something that is known
abbrev pub IsGood : (List (List ℕ) → Type 0) → List ℕ → Type 0
IsGood IsKnown line = IsComment (words_of line) ⊎ (IsText line × IsKnown (words_of line))

-- the line says something, and is no text, or its words say something that is not known
abbrev pub IsBad : (List (List ℕ) → Type 0) → List ℕ → Type 0
IsBad IsKnown line =
    (¬ IsComment (words_of line)) × (IsText line → ¬ IsKnown (words_of line))

-- each line of the bytes is good
abbrev pub AllGood : (List (List ℕ) → Type 0) → List ℕ → Type 0
AllGood IsKnown bytes = All (IsGood IsKnown) (lines_of bytes)

-- the line of this number, counted from 1, is the first that is not good
pub record IsFirstBad (IsKnown : List (List ℕ) → Type 0) (bytes : List ℕ) (number : ℕ) :
    Type 0 where
  pub counted : 1 ≤ number
  pub there : number ≤ length (lines_of bytes)
  pub good_before : All (IsGood IsKnown) (take (number - 1) (lines_of bytes))
  pub bad : ¬ IsGood IsKnown (slice_index_or (lines_of bytes) (number - 1) [])
