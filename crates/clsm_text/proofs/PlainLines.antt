-- Lines of a name and one or two numbers, with one space between each two.
use Rattle.std.proofs.Common.{◌≡◌, ◌∙◌, ℕ, ◌<◌, ◌≤◌, ◌==◌, false, not, List, [], ◌∷◌, ◌++◌, length, All}
use Rattle.std.proofs.Common.{ap, refl, arith, lit<}
use Rattle.std.proofs.lemmas.Bool.{ne_eqb}
use Rattle.std.proofs.lemmas.Fmt.{IsAscii-from_digits}
use Rattle.std.proofs.lemmas.List.{length-append}
use Rattle.std.proofs.lemmas.List.Elements.{All-cons, All-nil}
use Rattle.std.proofs.lemmas.List.Splits.{slice_split_at, slice_split_none}
use Rattle.std.proofs.lemmas.Str.{IsAscii-append, IsUtf8-from_ascii}
use Rattle.std.proofs.lemmas.Str.Ascii.{IsAscii-from_all}
use Rattle.std.specs.List.{filter, slice_split}
use Rattle.std.specs.Str.{IsAscii}
use Rattle.clsm_text.proofs.Digits.{one_part}
use Rattle.clsm_text.specs.Line.{IsText, words_of}
use Rattle.clsm_text.specs.Number.{IsNumber}

-- bytes among which is no space
abbrev pub HasNoSpace : List ℕ → Type 0
HasNoSpace bytes = All (λ b. (b == 32) ≡ false) bytes

-- a word is kept
kept : (word : List ℕ) (words : List (List ℕ)) → 0 < length word →
    filter (λ w. not (length w == 0)) (word ∷ words) ≡ word ∷ filter (λ w. not (length w == 0)) words
kept word words some =
    let full : (length word == 0) ≡ false = ne_eqb (length word) 0 (λ none. omega arith) in rw full refl

-- the words of a line that is one word
word_alone : (word : List ℕ) → 0 < length word → HasNoSpace word → words_of word ≡ word ∷ []
word_alone word some plain =
    ap (filter (λ w. not (length w == 0))) (slice_split_none (λ b. b == 32) word plain)
    ∙ kept word [] some

-- the words of a line that begins with a word and a space
word_first : (word rest : List ℕ) → 0 < length word → HasNoSpace word →
    words_of (word ++ 32 ∷ rest) ≡ word ∷ words_of rest
word_first word rest some plain =
    ap (filter (λ w. not (length w == 0))) (slice_split_at (λ b. b == 32) word 32 rest plain refl)
    ∙ kept word (slice_split (λ b. b == 32) rest) some

space : IsAscii (32 ∷ [])
space = IsAscii-from_all (32 ∷ []) (All-cons (λ b. b < 128) 32 [] (lit< tt) (All-nil (λ b. b < 128)))

-- a line that begins with a word and a space is ASCII if its parts are
ascii_first : (word rest : List ℕ) → IsAscii word → IsAscii rest → IsAscii (word ++ 32 ∷ rest)
ascii_first word rest first others =
    IsAscii-append word (32 ∷ rest) first (IsAscii-append (32 ∷ []) rest space others)

module _ (name : List ℕ) (some : 0 < length name) (short : length name ≤ 8)
    (plain : HasNoSpace name) (ascii : IsAscii name) where
  -- a name and a number
  pub one_number : (key : List ℕ) → IsNumber key →
      IsText (name ++ 32 ∷ key) × (words_of (name ++ 32 ∷ key) ≡ name ∷ key ∷ [])
  one_number key number =
      let digits = number.numeral.1 in
      let sizes = length-append name (32 ∷ key) in
      let few = number.at_most_twenty in (
        (
          omega arith,
          IsUtf8-from_ascii _ (ascii_first name key ascii (IsAscii-from_digits key digits)),
        ),
        word_first name key some plain
            ∙ ap (λ words. name ∷ words) (word_alone key number.numeral.0 (one_part key 32 (omega arith) digits)),
      )

  -- a name and two numbers
  pub two_numbers : (key word : List ℕ) → IsNumber key → IsNumber word →
      IsText (name ++ 32 ∷ (key ++ 32 ∷ word))
      × (words_of (name ++ 32 ∷ (key ++ 32 ∷ word)) ≡ name ∷ key ∷ word ∷ [])
  two_numbers key word number other =
      let digits = number.numeral.1 in
      let more = other.numeral.1 in
      let sizes = length-append name (32 ∷ (key ++ 32 ∷ word)) in
      let inner = length-append key (32 ∷ word) in
      let few = number.at_most_twenty in
      let few_more = other.at_most_twenty in (
        (
          omega arith,
          IsUtf8-from_ascii _ (ascii_first name (key ++ 32 ∷ word) ascii
              (ascii_first key word (IsAscii-from_digits key digits) (IsAscii-from_digits word more))),
        ),
        word_first name (key ++ 32 ∷ word) some plain
            ∙ ap (λ words. name ∷ words)
            (word_first key word number.numeral.0 (one_part key 32 (omega arith) digits)
            ∙ ap (λ words. key ∷ words) (word_alone word other.numeral.0 (one_part word 32 (omega arith) more))),
      )
