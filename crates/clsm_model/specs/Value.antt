-- A value as its words in a row of eight places, and as its text.
use Rattle.std.specs.Prelude.{◌≡◌, ℕ, ◌-◌, ◌≤◌, List, ◌++◌, length, map, take, replicate}
use Rattle.std.specs.Fmt.{decimal}
use Rattle.std.specs.List.{join_with_byte}

-- the words, and zeros behind them
abbrev pub padded : List ℕ → List ℕ
padded words = words ++ replicate (8 - length words) 0

-- the first one to eight of the places are words, and the others are zeros
pub record IsPadded (places : List ℕ) (count : ℕ) : Type 0 where
  pub some : 1 ≤ count
  pub at_most_eight : count ≤ 8
  pub counted : length (take count places) ≡ count
  pub zeros : padded (take count places) ≡ places

-- the code of `,`
abbrev pub comma : ℕ
comma = 44

-- the words in decimal, joined by commas
abbrev pub text : List ℕ → List ℕ
text words = join_with_byte comma (map decimal words)
