-- What is taken of a line at a time, and what is kept of it.
use Rattle.std.proofs.Common.{◌≡◌, ◌≢◌, ℕ, ◌+◌, ◌-◌, ◌<◌, ◌≤◌, ◌⊎◌, List, [], ◌∷◌, ◌++◌, length, take, drop, Option, Some, None, IfSome, All}
use Rattle.std.proofs.Common.{refl, sym, ap, ◌∙◌, append-nil, subst, inl, inr, ⊎_elim, arith}
use Rattle.std.proofs.Common.{append_assoc, drop_of_length-le}
use Rattle.std.proofs.KnownBytes.{Consumes-trans}
use Rattle.std.proofs.Math.Seq.{take-append_seam, drop-append_seam}
use Rattle.std.proofs.lemmas.List.{length-append, take-append-drop, take-take}
use Rattle.std.proofs.lemmas.List.Elements.{All-nil, All-append, All-from_recursion, recursion_from_All}
use Rattle.std.specs.Io.KnownBytes.{Consumes, IsAtEnd, Keeps}
use Rattle.std.specs.Option.{option_or}
use Rattle.clsm_text.specs.Input.{first_line, TakesPart}
use Rattle.clsm_text.specs.Line.{words_of, IsComment}
use Rattle.clsm_text.specs.Taken.{first_said, IsShortened, IsTakenWhole, StandsFor, TakesLine, TakesSpaces}
use Rattle.clsm_text.proofs.Lines.{HasNoFeed, first_begins, first_ended, first_fed, inside_first, rest_fed}
use Rattle.clsm_text.proofs.Silence.{IsSilent, blank_fed, said_append, said_kept, told_by_first}
use Rattle.clsm_text.specs.declared.input.Part.TheVariants as parts

-- nothing was left to take
pub part_end : (old new : Option (List ℕ)) (line shown : List ℕ) → Keeps old new →
    IfSome old (λ bytes. length shown ≡ 0 → bytes ≡ []) → length shown ≡ 0 →
    TakesPart old new line line parts.None
part_end None new line shown kept end none = record {
  more = [];
  grows = sym (append-nil line);
  no_feed = All-nil (λ b. b ≢ 10);
  room = λ same. cc;
  takes = (refl, tt, tt);
}
part_end (Some bytes) None line shown kept end none = absurd kept
part_end (Some bytes) (Some rest) line shown kept end none = record {
  more = [];
  grows = sym (append-nil line);
  no_feed = All-nil (λ b. b ≢ 10);
  room = λ same. cc;
  takes = (refl, sym kept, kept ∙ end none);
}

-- ---- what is kept of a line, for what was taken of it

abbrev pub IsKept : List ℕ → List ℕ → Type 0
IsKept taken kept = (kept ≡ taken) ⊎ ((4096 < length taken) × IsShortened taken kept)

-- what is kept begins as what was taken does, whatever follows
same_said : (taken kept more : List ℕ) → IsKept taken kept →
    first_said (taken ++ more) ≡ first_said (kept ++ more)
same_said taken kept more (inl same) = ap (λ l. first_said (l ++ more)) (sym same)
same_said taken kept more (inr (long, inl (a, b))) =
    said_append taken more ∙ ap (λ o. option_or o (first_said more)) (a ∙ sym b) ∙ sym (said_append kept more)
same_said taken kept more (inr (long, inr (a, b, full))) =
    said_append taken more ∙ ap (λ o. option_or o (first_said more)) (a ∙ sym b) ∙ sym (said_append kept more)

-- more is taken, and kept as it is
kept_more : (taken kept more : List ℕ) → IsKept taken kept → length (kept ++ more) ≤ 4096 →
    IsKept (taken ++ more) (kept ++ more)
kept_more taken kept more (inl same) short = inl (ap (λ l. l ++ more) same)
kept_more taken kept more (inr (long, inl (a, b))) short =
    inr (
      omega (arith, length-append taken more),
      inl (
        said_append taken more ∙ ap (λ o. option_or o (first_said more)) a,
        said_append kept more ∙ ap (λ o. option_or o (first_said more)) b,
      ),
    )
kept_more taken kept [] (inr (long, inr which)) short =
    subst (λ l. IsKept l (kept ++ [])) (sym (append-nil taken))
    (subst (IsKept taken) (sym (append-nil kept)) (inr (long, inr which)))
kept_more taken kept (b ∷ more) (inr (long, inr (x, y, full))) short =
    absurd (omega (arith, length-append kept (b ∷ more)))

-- more is taken, and what is kept is shortened
kept_short : (taken kept more new : List ℕ) → IsKept taken kept → length (kept ++ more) ≡ 4097 →
    IsShortened (kept ++ more) new → (4096 < length (taken ++ more)) × IsShortened (taken ++ more) new
kept_short taken kept more new is full short =
    let same = same_said taken kept more is in (
      ⊎_elim (λ (e : kept ≡ taken). let whole = ap (λ (l : List ℕ). length (l ++ more)) e in omega arith)
          (λ (o : (4096 < length taken) × IsShortened taken kept). let long = o.0 in omega (arith, length-append taken more)) is,
      ⊎_elim
          (λ (o : (first_said (kept ++ more) ≡ Some 35) × (first_said new ≡ Some 35)). inl (same ∙ o.0, o.1))
          (λ (o : (first_said (kept ++ more) ≡ None) × (first_said new ≡ None) × (length new ≡ 4096)).
          inr (same ∙ o.0, o.1, o.2)) short,
    )

-- spaces are taken behind that, and not kept
short_skipped : (taken spaces new : List ℕ) → first_said spaces ≡ None →
    (4096 < length taken) × IsShortened taken new → IsKept (taken ++ spaces) new
short_skipped taken spaces new blank (long, inl (a, b)) =
    inr (
      omega (arith, length-append taken spaces),
      inl (said_append taken spaces ∙ ap (λ o. option_or o (first_said spaces)) a, b),
    )
short_skipped taken spaces new blank (long, inr (a, b, full)) =
    inr (
      omega (arith, length-append taken spaces),
      inr (
        said_append taken spaces ∙ ap (λ o. option_or o (first_said spaces)) a ∙ blank,
        b,
        full,
      ),
    )

-- shortened lines say nothing
silent_both : (old new : List ℕ) → IsShortened old new →
    IsComment (words_of old) × IsComment (words_of new)
silent_both old new (inl (a, b)) = (
  (told_by_first old).1 (subst IsSilent (sym a) refl),
  (told_by_first new).1 (subst IsSilent (sym b) refl),
)
silent_both old new (inr (a, b, full)) = (
  (told_by_first old).1 (subst IsSilent (sym a) tt),
  (told_by_first new).1 (subst IsSilent (sym b) tt),
)

-- what is kept of a whole line stands for it
stands_for : (whole kept : List ℕ) → IsKept whole kept → StandsFor whole kept
stands_for whole kept (inl same) = inl same
stands_for whole kept (inr (long, which)) =
    let (silent, other) = silent_both whole kept which in
    inr (record { long = long; silent = ((λ _. other), λ _. silent); too_long = λ says. absurd (says silent) })

-- a line of which no more is kept than it may have is not too long, or says nothing
taken_whole : (whole kept : List ℕ) → IsKept whole kept → length kept ≤ 4096 → IsTakenWhole whole
taken_whole whole kept (inl same) short long = let e = ap length same in absurd (omega arith)
taken_whole whole kept (inr (long, which)) short _ = (silent_both whole kept which).0

-- ---- the line is taken

-- with its line feed
takes_fed : (whole kept rest : List ℕ) → HasNoFeed whole → IsKept whole kept → length kept ≤ 4096 →
    TakesLine (whole ++ 10 ∷ rest) kept (Some rest)
takes_fed whole kept rest plain is short =
    let first : first_line (whole ++ 10 ∷ rest) ≡ whole = first_fed whole rest plain in
    let left : Some rest ≡ Some (drop (length whole + 1) (whole ++ 10 ∷ rest)) = ap Some (sym (rest_fed whole rest plain)) in
    record {
      stands = subst (λ w. StandsFor w kept) (sym first) (stands_for whole kept is);
      whole = λ _. subst (λ (w : List ℕ). Some rest ≡ Some (drop (length w + 1) (whole ++ 10 ∷ rest))) (sym first) left;
      front = λ cut. absurd (cut (subst IsTakenWhole (sym first) (taken_whole whole kept is short)));
    }

-- at the end of the input
takes_ended : (whole kept : List ℕ) → HasNoFeed whole → IsKept whole kept → length kept ≤ 4096 →
    TakesLine whole kept (Some [])
takes_ended whole kept plain is short =
    let first : first_line whole ≡ whole = first_ended whole [] plain in
    let left : Some [] ≡ Some (drop (length whole + 1) whole) = ap Some (sym (drop_of_length-le whole (omega arith))) in
    record {
      stands = subst (λ w. StandsFor w kept) (sym first) (stands_for whole kept is);
      whole = λ _. subst (λ (w : List ℕ). Some [] ≡ Some (drop (length w + 1) whole)) (sym first) left;
      front = λ cut. absurd (cut (subst IsTakenWhole (sym first) (taken_whole whole kept is short)));
    }

-- its front, since it is too long and says something
module _ (taken kept more rest : List ℕ) (plain : HasNoFeed (taken ++ more)) (is : IsKept taken kept)
    (full : length (kept ++ more) ≡ 4097) (says : ¬ IsComment (words_of (kept ++ more))) where
  kept_says : ¬ IsSilent (first_said (kept ++ more))
  kept_says silent = says ((told_by_first (kept ++ more)).1 silent)

  front_says : ¬ IsSilent (first_said (taken ++ more))
  front_says = subst (λ (o : Option ℕ). ¬ IsSilent o) (sym (same_said taken kept more is)) kept_says

  begins_so : take (length (taken ++ more)) (first_line ((taken ++ more) ++ rest)) ≡ taken ++ more
  begins_so = first_begins (taken ++ more) rest plain

  whole_is : first_line ((taken ++ more) ++ rest)
      ≡ (taken ++ more) ++ drop (length (taken ++ more)) (first_line ((taken ++ more) ++ rest))
  whole_is =
      sym (take-append-drop (length (taken ++ more)) (first_line ((taken ++ more) ++ rest)))
      ∙ ap (λ l. l ++ drop (length (taken ++ more)) (first_line ((taken ++ more) ++ rest))) begins_so

  whole_says : ¬ IsComment (words_of (first_line ((taken ++ more) ++ rest)))
  whole_says comment =
      front_says
      (subst IsSilent
      (ap first_said whole_is
      ∙ said_kept (taken ++ more) (drop (length (taken ++ more)) (first_line ((taken ++ more) ++ rest))) front_says)
      ((told_by_first (first_line ((taken ++ more) ++ rest))).0 comment))

  long_front : 4097 ≤ length (taken ++ more)
  long_front =
      ⊎_elim (λ (e : kept ≡ taken). let whole = ap (λ (l : List ℕ). length (l ++ more)) e in omega arith)
      (λ (o : (4096 < length taken) × IsShortened taken kept). let long = o.0 in omega (arith, length-append taken more)) is

  few_taken : (length (taken ++ more) ≤ 4097)
      ⊎ (first_said (take (length (taken ++ more) - 1) (first_line ((taken ++ more) ++ rest))) ≡ None)
  few_taken =
      ⊎_elim
      (λ (e : kept ≡ taken). let whole = ap (λ (l : List ℕ). length (l ++ more)) e in inl (omega arith))
      (λ (o : (4096 < length taken) × IsShortened taken kept).
      ⊎_elim
      (λ (hash : (first_said taken ≡ Some 35) × (first_said kept ≡ Some 35)).
      absurd (kept_says (subst IsSilent (sym (said_append kept more ∙ ap (λ (x : Option ℕ). option_or x (first_said more)) hash.1)) refl)))
      (λ (blank : (first_said taken ≡ None) × (first_said kept ≡ None) × (length kept ≡ 4096)).
      let size = blank.2 in
      let one : length (taken ++ more) - 1 ≡ length taken = omega (arith, length-append taken more, length-append kept more) in
      let shorter : take (length taken) (first_line ((taken ++ more) ++ rest)) ≡ taken =
      sym (take-take (length taken) (length (taken ++ more)) (first_line ((taken ++ more) ++ rest)) (omega (arith, length-append taken more)))
      ∙ ap (take (length taken)) begins_so ∙ take-append_seam taken more in
      inr (ap (λ (n : ℕ). first_said (take n (first_line ((taken ++ more) ++ rest)))) one ∙ ap first_said shorter ∙ blank.0))
      o.1)
      is

  pub takes_front : TakesLine ((taken ++ more) ++ rest) (kept ++ more) (Some rest)
  takes_front =
      let inside = inside_first (taken ++ more) rest plain in
      let long : 4096 < length (first_line ((taken ++ more) ++ rest)) = let l = long_front in omega arith in
      record {
        stands = inr (record {
          long = long;
          silent = ((λ comment. absurd (whole_says comment)), λ comment. absurd (says comment));
          too_long = λ _. omega arith;
        });
        whole = λ all. absurd (whole_says (all long));
        front = λ _. record {
          count = length (taken ++ more);
          inside = inside;
          few = few_taken;
          rest_is = ap Some (sym (drop-append_seam (taken ++ more) rest));
        };
      }

-- ---- the line is taken of an input

fed : (old new : Option (List ℕ)) (whole kept : List ℕ) → Consumes old new (whole ++ 10 ∷ []) →
    All (λ b. b ≢ 10) whole → IsKept whole kept → length kept ≤ 4096 →
    IfSome old (λ bytes. TakesLine bytes kept new)
fed None new whole kept taken plain is short = tt
fed (Some bytes) None whole kept taken plain is short = elim taken [ ]
fed (Some bytes) (Some rest) whole kept taken plain is short =
    subst (λ all. TakesLine all kept (Some rest)) (sym (taken ∙ append_assoc whole (10 ∷ []) rest))
    (takes_fed whole kept rest (recursion_from_All _ whole plain) is short)

ended : (old now new : Option (List ℕ)) (whole kept : List ℕ) → Consumes old now whole →
    Consumes now new [] → IfSome now (λ _. IsAtEnd new) → All (λ b. b ≢ 10) whole → IsKept whole kept →
    length kept ≤ 4096 → IfSome old (λ bytes. TakesLine bytes kept new)
ended None now new whole kept taken none end plain is short = tt
ended (Some bytes) None new whole kept taken none end plain is short = elim taken [ ]
ended (Some bytes) (Some rest) None whole kept taken none end plain is short = elim none [ ]
ended (Some bytes) (Some rest) (Some left) whole kept taken none end plain is short =
    let all : bytes ≡ whole = taken ∙ ap (λ l. whole ++ l) (none ∙ end) ∙ append-nil whole in
    subst (λ b. TakesLine b kept (Some left)) (sym all)
    (subst (λ l. TakesLine whole kept (Some l)) (sym end)
    (takes_ended whole kept (recursion_from_All _ whole plain) is short))

cut : (old new : Option (List ℕ)) (taken kept more : List ℕ) → Consumes old new (taken ++ more) →
    All (λ b. b ≢ 10) (taken ++ more) → IsKept taken kept → length (kept ++ more) ≡ 4097 →
    ¬ IsComment (words_of (kept ++ more)) → IfSome old (λ bytes. TakesLine bytes (kept ++ more) new)
cut None new taken kept more takes plain is full says = tt
cut (Some bytes) None taken kept more takes plain is full says = elim takes [ ]
cut (Some bytes) (Some rest) taken kept more takes plain is full says =
    subst (λ b. TakesLine b (kept ++ more) (Some rest)) (sym takes)
    (takes_front taken kept more rest (recursion_from_All _ (taken ++ more) plain) is full says)

-- a line that is not too long is taken with its line feed
pub line_to_feed : (old new : Option (List ℕ)) (line : List ℕ) → Consumes old new (line ++ 10 ∷ []) →
    All (λ b. b ≢ 10) line → length line ≤ 4096 → IfSome old (λ bytes. TakesLine bytes line new)
line_to_feed old new line taken plain short = fed old new line line taken plain (inl refl) short

consumes_nothing : (input : Option (List ℕ)) → Consumes input input []
consumes_nothing None = tt
consumes_nothing (Some bytes) = refl

-- ---- line by line

-- the bytes of a line that were taken of an input so far, of which some are kept
pub record IsTaken (old now : Option (List ℕ)) (kept : List ℕ) : Type 0 where
  pub taken : List ℕ
  pub takes : Consumes old now taken
  pub no_feed : All (λ b. b ≢ 10) taken
  pub kept_is : IsKept taken kept

-- nothing yet
pub taken_start : (input : Option (List ℕ)) (kept : List ℕ) → kept ≡ [] → IsTaken input input kept
taken_start input kept none = record {
  taken = [];
  takes = consumes_nothing input;
  no_feed = All-nil (λ b. b ≢ 10);
  kept_is = inl none;
}

-- the part of it that is taken next
module _ (old now new : Option (List ℕ)) (before after : List ℕ) (was : IsTaken old now before) where
  plain_more : (more : List ℕ) → All (λ b. b ≢ 10) more → All (λ b. b ≢ 10) (was.taken ++ more)
  plain_more more plain = All-append (λ b. b ≢ 10) _ _ was.no_feed plain

  -- bytes of it
  pub taken_some : TakesPart now new before after parts.Some → length after ≤ 4096 → IsTaken old new after
  taken_some part short = record {
    taken = was.taken ++ part.more;
    takes = Consumes-trans _ _ _ was.taken part.more was.takes part.takes;
    no_feed = plain_more part.more part.no_feed;
    kept_is = subst (IsKept (was.taken ++ part.more)) (sym part.grows)
        (kept_more was.taken before part.more was.kept_is (subst (λ l. length l ≤ 4096) part.grows short));
  }

  -- what is kept is shortened, and spaces behind it are not kept
  pub taken_short : (newer : Option (List ℕ)) (kept : List ℕ) → TakesPart now new before after parts.Some →
      length after ≡ 4097 → IsShortened after kept → TakesSpaces new newer → IsTaken old newer kept
  taken_short newer kept part full short skips = record {
    taken = (was.taken ++ part.more) ++ skips.spaces;
    takes = Consumes-trans _ _ _ (was.taken ++ part.more) skips.spaces
        (Consumes-trans _ _ _ was.taken part.more was.takes part.takes) skips.takes;
    no_feed = All-append (λ b. b ≢ 10) _ _ (plain_more part.more part.no_feed)
        (All-from_recursion (λ b. b ≢ 10) skips.spaces (blank_fed skips.spaces skips.blank));
    kept_is = short_skipped (was.taken ++ part.more) skips.spaces kept skips.blank
        (kept_short was.taken before part.more kept was.kept_is (subst (λ l. length l ≡ 4097) part.grows full)
        (subst (λ l. IsShortened l kept) part.grows short));
  }

  -- the rest of it, with its line feed
  pub taken_last : TakesPart now new before after parts.Last → IfSome old (λ bytes. TakesLine bytes after new)
  taken_last part =
      let short = part.room refl in
      fed old new (was.taken ++ part.more) after
      (subst (Consumes old new) (sym (append_assoc was.taken part.more (10 ∷ [])))
      (Consumes-trans _ _ _ was.taken (part.more ++ 10 ∷ []) was.takes part.takes))
      (plain_more part.more part.no_feed)
      (subst (IsKept (was.taken ++ part.more)) (sym part.grows)
      (kept_more was.taken before part.more was.kept_is (subst (λ l. length l ≤ 4096) part.grows short)))
      short

  -- nothing, at the end
  pub taken_none : TakesPart now new before after parts.None → length before ≤ 4096 →
      IfSome old (λ bytes. TakesLine bytes after new)
  taken_none part short =
      let same : after ≡ before = part.grows ∙ ap (λ l. before ++ l) part.takes.0 ∙ append-nil before in
      subst (λ l. IfSome old (λ bytes. TakesLine bytes l new)) (sym same)
      (ended old now new was.taken before was.takes part.takes.1 part.takes.2 was.no_feed was.kept_is short)

  -- it is too long, and says something
  pub taken_cut : TakesPart now new before after parts.Some → length after ≡ 4097 → ¬ IsComment (words_of after) →
      IfSome old (λ bytes. TakesLine bytes after new)
  taken_cut part full says =
      subst (λ l. IfSome old (λ bytes. TakesLine bytes l new)) (sym part.grows)
      (cut old new was.taken before part.more
      (Consumes-trans _ _ _ was.taken part.more was.takes part.takes)
      (plain_more part.more part.no_feed) was.kept_is (subst (λ l. length l ≡ 4097) part.grows full)
      (subst (λ l. ¬ IsComment (words_of l)) part.grows says))
