-- Lines that say nothing: their first byte that is no space is `#`, or there is none.
use Rattle.std.proofs.Common.{◌≡◌, ◌≢◌, ◌∙◌, ℕ, ◌==◌, Bool, true, false, not, List, [], ◌∷◌, ◌++◌, length, Option, Some, None}
use Rattle.std.proofs.Common.{MatchOption, IsTrue, refl, ap, sym, subst, ◌⊎◌, inl, inr, arith, take, drop}
use Rattle.std.proofs.lemmas.Bool.{cases_eq, ne_eqb}
use Rattle.std.proofs.lemmas.List.{take-append-drop}
use Rattle.std.specs.Prelude.{⊤}
use Rattle.std.specs.List.{AllByRecursion, filter, onto_first, slice_split}
use Rattle.std.specs.Option.{option_or}
use Rattle.std.proofs.lemmas.List.Folds.{find-append}
use Rattle.clsm_text.specs.Line.{words_of, IsComment}
use Rattle.clsm_text.specs.Taken.{first_said}

-- by its first byte that is no space, a line says nothing
abbrev pub IsSilent : Option ℕ → Type 0
IsSilent first = MatchOption first ⊤ (λ b. b ≡ 35)

-- a line says nothing exactly if its first byte that is no space says so
abbrev pub IsToldBy : List ℕ → Option ℕ → Type 0
IsToldBy line first = (IsComment (words_of line) → IsSilent first) × (IsSilent first → IsComment (words_of line))

-- the words of a line that begins with a byte of a word
begins_word : (b : ℕ) (parts : List (List ℕ)) →
    (IsComment (filter (λ w. not (length w == 0)) (onto_first b parts)) → b ≡ 35)
    × (b ≡ 35 → IsComment (filter (λ w. not (length w == 0)) (onto_first b parts)))
begins_word b [] = ((λ is. is), λ is. is)
begins_word b (part ∷ parts) =
    let full : (length (b ∷ part) == 0) ≡ false = ne_eqb (length (b ∷ part)) 0 (λ none. omega arith) in
    let same : filter (λ w. not (length w == 0)) ((b ∷ part) ∷ parts) ≡ (b ∷ part) ∷ filter (λ w. not (length w == 0)) parts =
    rw full refl in
    ((λ is. subst IsComment same is), λ is. subst IsComment (sym same) is)

begins : (b : ℕ) (line : List ℕ) → IsToldBy line (first_said line) → (t : Bool) → (b == 32) ≡ t →
    IsToldBy (b ∷ line) (first_said (b ∷ line))
begins b line told true is = rw is told
begins b line told false is = rw is (begins_word b (slice_split (λ c. c == 32) line))

pub told_by_first : (line : List ℕ) → IsToldBy line (first_said line)
told_by_first [] = ((λ _. tt), λ _. tt)
told_by_first (b ∷ line) = begins b line (told_by_first line) (b == 32) refl

-- a line that begins with spaces begins as what follows them; any other as it begins
pub said_append : (xs ys : List ℕ) → first_said (xs ++ ys) ≡ option_or (first_said xs) (first_said ys)
said_append xs ys = find-append (λ b. not (b == 32)) xs ys

-- no line feed is among spaces
fed_after : (b : ℕ) (spaces : List ℕ) → (b ≡ 32) ⊎ (b ≢ 32) →
    (first_said spaces ≡ None → AllByRecursion (λ c. c ≢ 10) spaces) → first_said (b ∷ spaces) ≡ None →
    AllByRecursion (λ c. c ≢ 10) (b ∷ spaces)
fed_after b spaces (inl space) rest blank =
    ((λ feed. absurd (cc)), rest (subst (λ c. first_said (c ∷ spaces) ≡ None) space blank))
fed_after b spaces (inr other) rest blank =
    let wrong : Some b ≡ None = rw (ne_eqb b 32 other) at blank in absurd (cc)

pub blank_fed : (spaces : List ℕ) → first_said spaces ≡ None → AllByRecursion (λ c. c ≢ 10) spaces
blank_fed [] blank = tt
blank_fed (b ∷ spaces) blank = fed_after b spaces (cases_eq b 32) (blank_fed spaces) blank

or_kept : (first other : Option ℕ) → ¬ IsSilent first → option_or first other ≡ first
or_kept None other says = absurd (says tt)
or_kept (Some b) other says = refl

-- what follows the beginning of a line that says something does not tell whether it says something
pub said_kept : (xs ys : List ℕ) → ¬ IsSilent (first_said xs) → first_said (xs ++ ys) ≡ first_said xs
said_kept xs ys says = said_append xs ys ∙ or_kept (first_said xs) (first_said ys) says

by_first : (line : List ℕ) (first : Option ℕ) → first_said line ≡ first →
    IsComment (words_of line) ⊎ (¬ IsComment (words_of line))
by_first line None is = inl ((told_by_first line).1 (subst IsSilent (sym is) tt))
by_first line (Some b) is =
    elim (cases_eq b 35) [
      | inl same ↦ inl ((told_by_first line).1 (subst IsSilent (sym is) same))
      | inr other ↦ inr (λ comment. other (subst IsSilent is ((told_by_first line).0 comment)))
    ]

-- a line says nothing, or something
pub says_or_not : (line : List ℕ) → IsComment (words_of line) ⊎ (¬ IsComment (words_of line))
says_or_not line = by_first line (first_said line) refl

-- what a first byte that is no space, and is found, tells
pub told_none : (line : List ℕ) → first_said line ≡ None →
    (IsTrue true → IsComment (words_of line)) × (IsComment (words_of line) → IsTrue true)
told_none line none = ((λ _. (told_by_first line).1 (subst IsSilent (sym none) tt)), λ _. refl)

pub told_sign : (line : List ℕ) → first_said line ≡ Some 35 →
    (IsTrue true → IsComment (words_of line)) × (IsComment (words_of line) → IsTrue true)
told_sign line sign = ((λ _. (told_by_first line).1 (subst IsSilent (sym sign) refl)), λ _. refl)

pub told_other : (line : List ℕ) (b : ℕ) → first_said line ≡ Some b → ¬ (b ≡ 35) →
    (IsTrue false → IsComment (words_of line)) × (IsComment (words_of line) → IsTrue false)
told_other line b is other =
    ((λ wrong. absurd (cc)), λ comment. absurd (other (subst IsSilent is ((told_by_first line).0 comment))))

-- the beginning of spaces is spaces
or_none : (first other : Option ℕ) → option_or first other ≡ None → first ≡ None
or_none None other none = refl
or_none (Some b) other none = absurd (cc)

pub said_take : (line : List ℕ) (count : ℕ) → first_said line ≡ None → first_said (take count line) ≡ None
said_take line count none =
    or_none (first_said (take count line)) (first_said (drop count line))
    (sym (said_append (take count line) (drop count line)) ∙ ap first_said (take-append-drop count line) ∙ none)
