-- The records that lines say, line by line.
use Rattle.std.proofs.Common.{◌≡◌, ℕ, zero, suc, ◌+◌, ◌-◌, ◌<◌, List, [], ◌∷◌, ◌++◌}
use Rattle.std.proofs.Common.{length, take, get_or, Option, Some, None, Ok, Err, All, IsSome, refl}
use Rattle.std.proofs.Common.{ap, sym, ◌∙◌, subst, Bool, true, false, MatchOption}
use Rattle.std.specs.Option.{option_to_list}
use Rattle.std.proofs.Common.{arith, rules, append-nil, IsSomeAnd, slice_get, inl, inr}
use Rattle.std.proofs.lemmas.Bool.Decides.{leb_tells}
use Rattle.std.proofs.lemmas.List.{take-append-le, length-append, length-take, get_or_append_left}
use Rattle.std.proofs.lemmas.List.{take_more, get_or_default}
use Rattle.std.proofs.lemmas.List.Elements.{All-nil, All-cons, filter_map-append}
use Rattle.std.proofs.Math.Seq.{take-append_seam}
use Rattle.clsm_model.specs.declared.record.CallRecord.{CallRecord}
use Rattle.clsm_text.specs.Failure.{failure_at}
use Rattle.clsm_text.specs.Line.{lines_of}
use Rattle.clsm_text.specs.declared.line.LineError.{LineError}
use Rattle.clsm_text.specs.declared.line.LineError.TheVariants.{Bad, Memory}
use Rattle.clsm_audit.specs.declared.place.Moments.{Moments}
use Rattle.clsm_text.specs.Audit.{AreSaid, moments_in, moments_of, record_in, records_of, StandsOn, IsListOf, IsGood, StopsLines}
use Rattle.clsm_text.specs.Line.{words_of}
use Rattle.clsm_text.specs.Lines.{ReadsLine, SayTimed}
use Rattle.clsm_text.specs.Record.{Say}
use Rattle.clsm_text.specs.declared.timed.RecordLine.{RecordLine}
use Rattle.clsm_text.proofs.Zips.{zip_push, get_seam}

-- a line that is not good is bad
pub bad_not_good : (timed : Bool) (line : List ℕ) → ReadsLine timed line (Err Bad) → ¬ IsGood timed line
bad_not_good timed line bad (None, comment) = bad.0 comment
bad_not_good timed line bad (Some r, (text, says)) = bad.1 text r says

-- lines that say records, or nothing, are good
pub all_good : (timed : Bool) (lines : List (List ℕ)) (said : List (Option RecordLine)) → AreSaid timed lines said →
    All (IsGood timed) lines
all_good timed [] said says = All-nil (IsGood timed)
all_good timed (line ∷ lines) [] says = absurd says
all_good timed (line ∷ lines) (one ∷ said) says =
    All-cons (IsGood timed) line lines (one, says.0) (all_good timed lines said says.1)

-- ---- places in lists that grow

pub get_inside : {A : Type 0} (P : A → Type 0) (xs : List A) (i : ℕ) →
    IsSomeAnd (slice_get xs i) P → i < length xs
get_inside P [] i some = absurd some
get_inside P (x ∷ xs) zero some = omega arith
get_inside P (x ∷ xs) (suc i) some = let more = get_inside P xs i some in omega arith

get_kept : {A : Type 0} (P : A → Type 0) (xs ys : List A) (i : ℕ) → IsSomeAnd (slice_get xs i) P →
    IsSomeAnd (slice_get (xs ++ ys) i) P
get_kept P [] ys i some = absurd some
get_kept P (x ∷ xs) ys zero some = some
get_kept P (x ∷ xs) ys (suc i) some = get_kept P xs ys i some

get_last : {A : Type 0} (xs : List A) (x : A) → slice_get (xs ++ x ∷ []) (length xs) ≡ Some x
get_last [] x = refl
get_last (y ∷ xs) x = get_last xs x

-- ---- lists of records

-- so much is said as there are lines
said_length : (timed : Bool) (lines : List (List ℕ)) (said : List (Option RecordLine)) → AreSaid timed lines said →
    length said ≡ length lines
said_length timed [] [] says = refl
said_length timed [] (one ∷ said) says = absurd says
said_length timed (line ∷ lines) [] says = absurd says
said_length timed (line ∷ lines) (one ∷ said) says = ap (λ n. suc n) (said_length timed lines said says.1)

-- a record stands where it stood when more lines are read
stands_on : (said more : List (Option RecordLine)) (index number : ℕ) → StandsOn said index number →
    StandsOn (said ++ more) index number
stands_on said more index number stands =
    let inside = get_inside IsSome said (number - 1) stands.there in
    let same : take (number - 1) (said ++ more) ≡ take (number - 1) said =
    take-append-le (number - 1) said more (omega arith) in
    record {
      counted = stands.counted;
      there = get_kept IsSome said more (number - 1) stands.there;
      before = ap (λ (front : List (Option RecordLine)). length (records_of front)) same
          ∙ stands.before;
    }

is_said : (line : RecordLine) → IsSomeAnd (Some (Some line)) IsSome
is_said line = search rules

-- the record of the last line
stands_last : (said : List (Option RecordLine)) (r : RecordLine) (index number : ℕ) →
    number ≡ length said + 1 → index ≡ length (records_of said) →
    StandsOn (said ++ Some r ∷ []) index number
stands_last said r index number is last =
    let place : length said ≡ number - 1 = omega arith in
    record {
      counted = omega arith;
      there = subst (λ n. IsSomeAnd (slice_get (said ++ Some r ∷ []) n) IsSome) place
          (subst (λ (o : Option (Option RecordLine)). IsSomeAnd o IsSome)
          (sym (get_last said (Some r))) (is_said r));
      before = ap (λ (front : List (Option RecordLine)). length (records_of front))
          (ap (λ n. take n (said ++ Some r ∷ [])) (sym place) ∙ take-append_seam said (Some r ∷ []))
          ∙ sym last;
    }

-- the moments of one line more
last_moments : (r : CallRecord) (o : Option Moments) →
    moments_of (Some (record { «record» = r; moments = o }) ∷ []) ≡ option_to_list o
last_moments r None = refl
last_moments r (Some moments) = refl

-- it has some where they are asked for
has_moments : (timed : Bool) (words : List (List ℕ)) (r : CallRecord) (o : Option Moments) → timed ≡ true →
    MatchOption o ((timed ≡ false) × Say words r) (SayTimed words r) → length (option_to_list o) ≡ 1
has_moments timed words r None asked says = let clash : true ≡ false = sym asked ∙ says.0 in absurd (cc clash)
has_moments timed words r (Some moments) asked says = refl

-- no lines say no records
pub list_nil : (timed : Bool) → IsListOf timed [] [] [] []
list_nil timed = record {
  said = [];
  says = tt;
  records_are = refl;
  moments_are = refl;
  each_timed = λ asked. refl;
  count = refl;
  stand = λ index inside. absurd (omega (arith, inside));
}

module _ (timed : Bool) (lines : List (List ℕ)) (records : List CallRecord) (numbers : List ℕ) (moments : List Moments)
    (list : IsListOf timed lines records numbers moments) (line : List ℕ) where
  -- a line more that says nothing
  list_none : ReadsLine timed line (Ok None) → IsListOf timed (lines ++ line ∷ []) records numbers moments
  list_none reads = record {
    said = list.said ++ None ∷ [];
    says = zip_push _ lines list.said line None list.says reads;
    records_are = list.records_are
        ∙ sym (filter_map-append record_in list.said (None ∷ []) ∙ append-nil (records_of list.said));
    moments_are = list.moments_are
        ∙ sym (filter_map-append moments_in list.said (None ∷ []) ∙ append-nil (moments_of list.said));
    each_timed = list.each_timed;
    count = list.count;
    stand = λ index inside. stands_on list.said (None ∷ []) index _ (list.stand index inside);
  }

  -- a line more that says a record
  list_some : (r : RecordLine) (number : ℕ) → number ≡ length lines + 1 →
      ReadsLine timed line (Ok (Some r)) →
      IsListOf timed (lines ++ line ∷ []) (records ++ r.record ∷ []) (numbers ++ number ∷ []) (moments ++ option_to_list r.moments)
  list_some r number is reads =
      let long = said_length timed lines list.said list.says in
      let all : length records ≡ length (records_of list.said) = ap length list.records_are in
      let more : length (numbers ++ number ∷ []) ≡ length numbers + 1 =
      length-append numbers (number ∷ []) in
      record {
        said = list.said ++ Some r ∷ [];
        says = zip_push _ lines list.said line (Some r) list.says reads;
        records_are = ap (λ (rs : List CallRecord). rs ++ r.record ∷ []) list.records_are
            ∙ sym (filter_map-append record_in list.said (Some r ∷ []));
        moments_are = ap (λ (ms : List Moments). ms ++ option_to_list r.moments) list.moments_are
            ∙ ap (λ (ms : List Moments). moments_of list.said ++ ms) (sym (last_moments r.record r.moments))
            ∙ sym (filter_map-append moments_in list.said (Some r ∷ []));
        each_timed = λ asked.
            let one = has_moments timed (words_of line) r.record r.moments asked reads.1 in
            let before = list.each_timed asked in
            omega (arith, one, before, length-append moments (option_to_list r.moments), length-append records (r.record ∷ []));
        count = omega (arith, list.count, more, length-append records (r.record ∷ []));
        stand = λ index inside.
            elim (leb_tells (length numbers) index) [
              | inl (_, last) ↦
                  let here : index ≡ length numbers = omega arith in
                  let at : number ≡ get_or (numbers ++ number ∷ []) index 0 =
                  sym (ap (λ n. get_or (numbers ++ number ∷ []) n 0) here
                  ∙ get_seam numbers number [] 0) in
                  subst (StandsOn (list.said ++ Some r ∷ []) index) at
                  (stands_last list.said r index number (omega arith) (omega (arith, list.count)))
              | inr (_, before) ↦
                  let early : index < length numbers = omega arith in
                  let kept : get_or (numbers ++ number ∷ []) index 0 ≡ get_or numbers index 0 =
                  get_or_append_left numbers (number ∷ []) 0 index early in
                  subst (StandsOn (list.said ++ Some r ∷ []) index) (sym kept)
                  (stands_on list.said (Some r ∷ []) index _ (list.stand index early))
            ];
      }

-- one of the lines more
module _ (timed : Bool) (lines : List (List ℕ)) (count : ℕ) (line : List ℕ) (records : List CallRecord)
    (numbers : List ℕ) (moments : List Moments) (list : IsListOf timed (take count lines) records numbers moments)
    (inside : count < length lines) (at : line ≡ get_or lines count line) where
  longer : take count lines ++ line ∷ [] ≡ take (count + 1) lines
  longer =
      sym (take_more lines count line inside
      ∙ ap (λ (l : List ℕ). take count lines ++ l ∷ []) (sym at))

  pub more_none : ReadsLine timed line (Ok None) → IsListOf timed (take (count + 1) lines) records numbers moments
  more_none reads =
      subst (λ (ls : List (List ℕ)). IsListOf timed ls records numbers moments) longer
      (list_none timed (take count lines) records numbers moments list line reads)

  pub more_some : (r : RecordLine) → ReadsLine timed line (Ok (Some r)) →
      IsListOf timed (take (count + 1) lines) (records ++ r.record ∷ []) (numbers ++ (count + 1) ∷ [])
      (moments ++ option_to_list r.moments)
  more_some r reads =
      subst
      (λ (ls : List (List ℕ)). IsListOf timed ls (records ++ r.record ∷ []) (numbers ++ (count + 1) ∷ [])
      (moments ++ option_to_list r.moments)) longer
      (list_some timed (take count lines) records numbers moments list line r (count + 1)
      (omega (arith, length-take count lines)) reads)

-- a line that is not read
pub stops_at : (timed : Bool) (bytes : List ℕ) (count : ℕ) (line : List ℕ) (records : List CallRecord)
    (numbers : List ℕ) (moments : List Moments) (error : LineError) →
    IsListOf timed (take count (lines_of bytes)) records numbers moments →
    count < length (lines_of bytes) → line ≡ get_or (lines_of bytes) count line →
    ReadsLine timed line (Err error) → StopsLines timed bytes (failure_at (count + 1) error)
stops_at timed bytes count line records numbers moments Memory list inside at reads = tt
stops_at timed bytes count line records numbers moments Bad list inside at reads =
    let same : count + 1 - 1 ≡ count = omega arith in
    record {
      counted = omega arith;
      there = omega (arith, inside);
      good_before = subst (λ n. All (IsGood timed) (take n (lines_of bytes))) (sym same)
          (all_good timed (take count (lines_of bytes)) list.said list.says);
      bad = λ good.
          bad_not_good timed line reads
          (subst (IsGood timed)
          (ap (λ n. get_or (lines_of bytes) n []) same
          ∙ get_or_default (lines_of bytes) count [] line inside
          ∙ sym at) good);
    }
