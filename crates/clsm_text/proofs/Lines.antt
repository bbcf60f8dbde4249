-- The first line of bytes, up to a line feed or the end.
use Rattle.std.proofs.Common.{◌≡◌, ◌≢◌, ℕ, ◌+◌, ◌≤◌, List, [], ◌∷◌, ◌++◌, length, take, drop}
use Rattle.std.proofs.Common.{◌∙◌, arith, append-nil, add-zero, le_refl}
use Rattle.std.proofs.lemmas.Bool.Decides.{nat_tests}
use Rattle.std.proofs.lemmas.List.{length-append, length-take, take-take, take_all}
use Rattle.std.proofs.Math.Seq.{take-append_seam, drop-append-add}
use Rattle.std.specs.List.{AllByRecursion, position_or_len}
use Rattle.clsm_text.specs.Input.{is_line_feed, first_line}

-- no line feed stands in the line
abbrev pub HasNoFeed : List ℕ → Type 0
HasNoFeed line = AllByRecursion (λ b. b ≢ 10) line

-- the first line feed after such a line stands in what follows
position_past : (line rest : List ℕ) → HasNoFeed line →
    position_or_len is_line_feed (line ++ rest) ≡ length line + position_or_len is_line_feed rest
position_past [] rest none = grind arith
position_past (b ∷ line) rest none =
    let more = position_past line rest none.1 in grind (arith, nat_tests, more, none.0)

-- the first line of bytes that begin with such a line
module _ (line rest : List ℕ) (none : HasNoFeed line) where
  -- a line feed is next
  pub first_fed : first_line (line ++ 10 ∷ rest) ≡ line
  first_fed =
      let place : position_or_len is_line_feed (line ++ 10 ∷ rest) ≡ length line =
      position_past line (10 ∷ rest) none ∙ add-zero (length line) in
      rw place (take-append_seam line (10 ∷ rest))

  pub rest_fed : drop (length line + 1) (line ++ 10 ∷ rest) ≡ rest
  rest_fed = drop-append-add line (10 ∷ rest) 1

  -- no byte is next
  pub first_ended : first_line line ≡ line
  first_ended =
      let place : position_or_len is_line_feed line ≡ length line =
      (rw (append-nil line) at (position_past line [] none)) ∙ add-zero (length line) in
      rw place (take_all (length line) line (le_refl _))

  -- it begins with that line
  pub inside_first : length line ≤ length (first_line (line ++ rest))
  inside_first =
      let place = position_past line rest none in
      omega (
        arith,
        place,
        length-take (position_or_len is_line_feed (line ++ rest)) (line ++ rest),
        length-append line rest,
      )

  pub first_begins : take (length line) (first_line (line ++ rest)) ≡ line
  first_begins =
      let place = position_past line rest none in
      rw (
        place,
        take-take (length line) (length line + position_or_len is_line_feed rest) (line ++ rest)
            (omega arith),
      ) (take-append_seam line rest)
