-- An input is read line by line.
use Rattle.std.proofs.Common.{◌≡◌, ◌≢◌, ◌↔◌, ℕ, ◌+◌, ◌-◌, ◌<◌, ◌≤◌, List, [], ◌∷◌, length, min}
use Rattle.std.proofs.Common.{take, drop, get_or, Bool, false, true, IsTrue, Option, Some, None}
use Rattle.std.proofs.Common.{IfSome, All, ap, sym, subst, ◌∙◌, refl, inl, inr}
use Rattle.std.proofs.Common.{drop_of_length-le, arith}
use Rattle.std.proofs.lemmas.Bool.Decides.{leb_tells}
use Rattle.std.proofs.lemmas.List.{drop_more, length-drop, length-take, take-append-drop, take_all}
use Rattle.std.proofs.lemmas.List.Elements.{All-nil, All-cons, All-append, All-more}
use Rattle.std.proofs.lemmas.List.Sums.{fails_before_first}
use Rattle.std.proofs.lemmas.List.Splits.{slice_split_first, slice_split_none}
use Rattle.std.specs.List.{position_or_len, after_first}
use Rattle.clsm_text.specs.Failure.{failure_at, StopsReading}
use Rattle.clsm_text.specs.Input.{is_line_feed, first_line}
use Rattle.clsm_text.specs.Line.{lines_of, words_of, IsComment, IsText, IsGood, IsBad, AllGood, IsFirstBad}
use Rattle.clsm_text.specs.Taken.{IsTakenWhole, StandsFor, TakesLine}
use Rattle.clsm_text.proofs.Silence.{says_or_not}
use Rattle.clsm_text.specs.declared.line.LineError.{LineError}
use Rattle.clsm_text.specs.declared.line.LineError.TheVariants.{Bad, Memory}

-- what is kept of a line is good: the line is
pub stands_good : (K : List (List ℕ) → Type 0) (whole line : List ℕ) → StandsFor whole line →
    IsGood K line → IsGood K whole
stands_good K whole line (inl same) good = subst (IsGood K) same good
stands_good K whole line (inr long) (inl comment) = inl (long.silent.1 comment)
stands_good K whole line (inr long) (inr (text, known)) =
    elim (says_or_not whole) [
      | inl comment ↦ inl comment
      | inr says ↦ let more = long.too_long says in let short = text.0 in absurd (omega arith)
    ]

-- what is kept of a line is bad: the line is not good
stands_bad : (K : List (List ℕ) → Type 0) (whole line : List ℕ) → StandsFor whole line →
    IsBad K line → ¬ IsGood K whole
stands_bad K whole line (inl same) bad (inl comment) =
    bad.0 (subst (λ (l : List ℕ). IsComment (words_of l)) (sym same) comment)
stands_bad K whole line (inl same) bad (inr (text, known)) =
    bad.1 (subst IsText (sym same) text) (subst (λ (l : List ℕ). K (words_of l)) (sym same) known)
stands_bad K whole line (inr long) bad (inl comment) = bad.0 (long.silent.0 comment)
stands_bad K whole line (inr long) bad (inr (text, known)) =
    let more = long.long in let short = text.0 in absurd (omega arith)

-- a good line is taken whole
good_whole_taken : (K : List (List ℕ) → Type 0) (whole : List ℕ) → IsGood K whole → IsTakenWhole whole
good_whole_taken K whole (inl comment) long = comment
good_whole_taken K whole (inr (text, known)) long = let short = text.0 in absurd (omega arith)

-- the empty line says nothing
good_nil : (K : List (List ℕ) → Type 0) → IsGood K []
good_nil K = inl tt

-- where no line feed is left, the line is the whole
whole_line : (bytes : List ℕ) → length bytes ≤ position_or_len is_line_feed bytes →
    lines_of bytes ≡ first_line bytes ∷ []
whole_line bytes far =
    let whole : first_line bytes ≡ bytes =
    take_all (position_or_len is_line_feed bytes) bytes far in
    rw whole (slice_split_none is_line_feed bytes
    (λ k d inside. fails_before_first is_line_feed bytes k d (omega arith)))

-- of no bytes each line is good
good_none : (K : List (List ℕ) → Type 0) → AllGood K []
good_none K = All-cons (IsGood K) [] [] (good_nil K) (All-nil (IsGood K))

-- one line more of some lines
module _ (K : List (List ℕ) → Type 0) (lines : List (List ℕ)) (count : ℕ) (line : List ℕ)
    (more : List (List ℕ)) (next : drop count lines ≡ line ∷ more) where
  pub inside : count < length lines
  inside = omega (arith, length-drop count lines, ap length next)

  pub line_at : (d : List ℕ) → get_or lines count d ≡ line
  line_at d = let at = drop_more lines count d inside in cc

  more_left : drop (count + 1) lines ≡ more
  more_left = let at = drop_more lines count [] inside in cc

  good_more : All (IsGood K) (take count lines) → IsGood K line →
      All (IsGood K) (take (count + 1) lines)
  good_more before good =
      All-more (IsGood K) lines count [] inside before (subst (IsGood K) (sym (line_at [])) good)

-- the lines in two parts
good_whole : (K : List (List ℕ) → Type 0) (lines : List (List ℕ)) (count : ℕ) →
    All (IsGood K) (take count lines) → All (IsGood K) (drop count lines) → All (IsGood K) lines
good_whole K lines count front back =
    subst (All (IsGood K)) (take-append-drop count lines) (All-append (IsGood K) _ _ front back)

-- the line is empty
abbrev pub IsEmpty : List ℕ → Type 0
IsEmpty line = line ≡ []

-- so many lines of the bytes are read, and all were good
pub record IsReadTo (K : List (List ℕ) → Type 0) (bytes rest : List ℕ) (count : ℕ) : Type 0 where
  pub good : All (IsGood K) (take count (lines_of bytes))
  pub left : rest ≢ [] → drop count (lines_of bytes) ≡ lines_of rest
  pub ended : rest ≡ [] → AllGood K bytes
  pub over : rest ≡ [] → All IsEmpty (drop count (lines_of bytes))

-- the same, where the bytes are known
abbrev pub LeadsTo : (List (List ℕ) → Type 0) → Option (List ℕ) → Option (List ℕ) → ℕ → Type 0
LeadsTo K None rest count = Unit {0}
LeadsTo K (Some bytes) None count = ⊥
LeadsTo K (Some bytes) (Some rest) count = IsReadTo K bytes rest count

-- no bytes have one line, which is empty
empty_none : (bytes : List ℕ) → bytes ≡ [] → All IsEmpty (lines_of bytes)
empty_none bytes none =
    subst (λ (b : List ℕ). All IsEmpty (lines_of b)) (sym none) (All-cons IsEmpty [] [] refl (All-nil IsEmpty))

-- nothing is read yet
pub leads_start : (K : List (List ℕ) → Type 0) (input : Option (List ℕ)) → LeadsTo K input input 0
leads_start K None = tt
leads_start K (Some bytes) =
    record {
      good = All-nil (IsGood K);
      left = λ _. refl;
      ended = λ empty. subst (AllGood K) (sym empty) (good_none K);
      over = λ empty. empty_none bytes empty;
    }

-- the first line, and the lines after it
split_line : (bytes : List ℕ) → (more : List (List ℕ)) × (lines_of bytes ≡ first_line bytes ∷ more)
split_line bytes =
    elim (leb_tells (length bytes) (position_or_len is_line_feed bytes)) [
      | inl (_, far) ↦ ([], whole_line bytes far)
      | inr (_, near) ↦ (
        lines_of (after_first is_line_feed bytes),
        slice_split_first is_line_feed bytes 0 near,
      )
    ]

-- the lines after a line that is not too long: those of what is left, where that is not empty
pub record IsSplit (K : List (List ℕ) → Type 0) (bytes rest : List ℕ) : Type 0 where
  pub more : List (List ℕ)
  pub split : lines_of bytes ≡ first_line bytes ∷ more
  pub follow : rest ≢ [] → more ≡ lines_of rest
  pub good_end : rest ≡ [] → All (IsGood K) more
  pub empty_end : rest ≡ [] → All IsEmpty more

splits : (K : List (List ℕ) → Type 0) (bytes rest : List ℕ) →
    rest ≡ drop (length (first_line bytes) + 1) bytes → IsSplit K bytes rest
splits K bytes rest left =
    let first = length-take (position_or_len is_line_feed bytes) bytes in
    elim (leb_tells (length bytes) (position_or_len is_line_feed bytes)) [
      | inl (_, far) ↦
          let empty : rest ≡ [] = left ∙ drop_of_length-le bytes (omega (arith, first)) in
          record {
            more = [];
            split = whole_line bytes far;
            follow = λ some. absurd (some empty);
            good_end = λ _. All-nil (IsGood K);
            empty_end = λ _. All-nil IsEmpty;
          }
      | inr (_, near) ↦
          let count : length (first_line bytes) + 1 ≡ position_or_len is_line_feed bytes + 1 =
          omega (arith, first) in
          let after : rest ≡ after_first is_line_feed bytes = left ∙ ap (λ n. drop n bytes) count in
          record {
            more = lines_of rest;
            split = slice_split_first is_line_feed bytes 0 near
                ∙ ap (λ r. first_line bytes ∷ lines_of r) (sym after);
            follow = λ _. refl;
            good_end = λ empty. subst (AllGood K) (sym empty) (good_none K);
            empty_end = λ empty. empty_none rest empty;
          }
    ]

-- what `read_line` tells where it found a line, or none
abbrev pub Tells : Option (List ℕ) → Bool → Type 0
Tells input found = IfSome input (λ bytes. IsTrue found ↔ (bytes ≢ []))

-- a good line is read
pub leads_on : (K : List (List ℕ) → Type 0) (old now new : Option (List ℕ)) (line : List ℕ)
    (found : Bool) (count : ℕ) →
    LeadsTo K old now count → Tells now found → found ≡ true →
    IfSome now (λ bytes. TakesLine bytes line new) → IsGood K line →
    LeadsTo K old new (count + 1)
leads_on K None now new line found count leads tells some takes good = tt
leads_on K (Some bytes) None new line found count leads tells some takes good = absurd leads
leads_on K (Some bytes) (Some now) None line found count leads tells some takes good =
    let whole = good_whole_taken K (first_line now) (stands_good K (first_line now) line takes.stands good) in
    cc (takes.whole whole)
leads_on K (Some bytes) (Some now) (Some rest) line found count leads tells some takes good =
    let is : IsGood K (first_line now) = stands_good K (first_line now) line takes.stands good in
    let left = takes.whole (good_whole_taken K (first_line now) is) in
    let s = splits K now rest (cc left) in
    let next : drop count (lines_of bytes) ≡ first_line now ∷ s.more =
    leads.left (tells.0 some) ∙ s.split in
    let front =
    good_more K (lines_of bytes) count (first_line now) s.more next leads.good is in
    let after = more_left K (lines_of bytes) count (first_line now) s.more next in
    record {
      good = front;
      left = λ more. after ∙ s.follow more;
      ended = λ empty.
          good_whole K (lines_of bytes) (count + 1) front
          (subst (All (IsGood K)) (sym after) (s.good_end empty));
      over = λ empty. subst (All IsEmpty) (sym after) (s.empty_end empty);
    }

-- the line that is read comes next
pub reads_next : (K : List (List ℕ) → Type 0) (bytes now : List ℕ) (found : Bool) (count : ℕ) →
    LeadsTo K (Some bytes) (Some now) count → Tells (Some now) found → found ≡ true →
    (more : List (List ℕ)) × (drop count (lines_of bytes) ≡ first_line now ∷ more)
reads_next K bytes now found count leads tells some =
    let (more, split) = split_line now in (more, leads.left (tells.0 some) ∙ split)

-- at the end only empty lines are left
pub leads_over : (K : List (List ℕ) → Type 0) (bytes now : List ℕ) (found : Bool) (count : ℕ) →
    LeadsTo K (Some bytes) (Some now) count → Tells (Some now) found → found ≡ false →
    All IsEmpty (drop count (lines_of bytes))
leads_over K bytes [] found count leads tells none = leads.over refl
leads_over K bytes (b ∷ more) found count leads tells none =
    let there : found ≡ true = tells.1 (λ empty. cc) in cc

-- no line is left
pub leads_to_end : (K : List (List ℕ) → Type 0) (old now : Option (List ℕ)) (found : Bool)
    (count : ℕ) →
    LeadsTo K old now count → Tells now found → found ≡ false → IfSome old (AllGood K)
leads_to_end K None now found count leads tells none = tt
leads_to_end K (Some bytes) None found count leads tells none = absurd leads
leads_to_end K (Some bytes) (Some []) found count leads tells none = leads.ended refl
leads_to_end K (Some bytes) (Some (b ∷ more)) found count leads tells none =
    let there : found ≡ true = tells.1 (λ empty. cc) in cc

-- a bad line is read
leads_to_bad : (K : List (List ℕ) → Type 0) (old now new : Option (List ℕ)) (line : List ℕ)
    (found : Bool) (count : ℕ) →
    LeadsTo K old now count → Tells now found → found ≡ true →
    IfSome now (λ bytes. TakesLine bytes line new) → IsBad K line →
    IfSome old (λ bytes. IsFirstBad K bytes (count + 1))
leads_to_bad K None now new line found count leads tells some takes bad = tt
leads_to_bad K (Some bytes) None new line found count leads tells some takes bad = absurd leads
leads_to_bad K (Some bytes) (Some now) new line found count leads tells some takes bad =
    let (more, split) = split_line now in
    let next : drop count (lines_of bytes) ≡ first_line now ∷ more =
    leads.left (tells.0 some) ∙ split in
    let room = inside K (lines_of bytes) count (first_line now) more next in
    let same : count + 1 - 1 ≡ count = omega arith in
    record {
      counted = omega arith;
      there = omega (arith, room);
      good_before = subst (λ n. All (IsGood K) (take n (lines_of bytes))) (sym same) leads.good;
      bad = λ good.
          let at : get_or (lines_of bytes) (count + 1 - 1) [] ≡ first_line now =
          ap (λ n. get_or (lines_of bytes) n []) same
          ∙ line_at K (lines_of bytes) count (first_line now) more next [] in
          stands_bad K (first_line now) line takes.stands bad (subst (IsGood K) at good);
    }

-- a line is not read
pub stops_at_line : (K : List (List ℕ) → Type 0) (old now new : Option (List ℕ)) (line : List ℕ)
    (found : Bool) (number : ℕ) (error : LineError) →
    LeadsTo K old now (number - 1) → Tells now found → found ≡ true →
    IfSome now (λ bytes. TakesLine bytes line new) → 1 ≤ number → (error ≡ Bad → IsBad K line) →
    StopsReading K old (failure_at number error)
stops_at_line K old now new line found number Bad leads tells some takes counted bad =
    subst (λ n. IfSome old (λ bytes. IsFirstBad K bytes n)) (omega arith)
    (leads_to_bad K old now new line found (number - 1) leads tells some takes (bad refl))
stops_at_line K old now new line found number Memory leads tells some takes counted wanted = tt
