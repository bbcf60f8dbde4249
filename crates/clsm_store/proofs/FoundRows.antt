-- The row of a page of one row is the range's first, and that of a page downwards its last.
use Rattle.std.proofs.Common.{◌≡◌, ◌≢◌, ◌∙◌, ℕ, ◌<◌, ◌≤◌, zero, suc, List, [], ◌∷◌, ◌++◌, take, reverse, get_or, length, map, option_to_list, refl, sym, ap, subst, arith, ⊎_elim}
use Rattle.std.proofs.Common.{Option, Some, None, MatchOption}
use Rattle.std.proofs.lemmas.Bool.{cases_lt}
use Rattle.std.proofs.lemmas.List.{reverse-append, reverse-reverse}
use Rattle.std.proofs.lemmas.Map.Keys.{sorted_tail}
use Rattle.std.specs.List.{AllByRecursion}
use Rattle.std.specs.Map.{keys_of}
use Rattle.std.specs.Ordering.{nat_cmp}
use Rattle.clsm_model.specs.History.{History, end_of, or_else, plain}
use Rattle.clsm_model.specs.Map.{IsRange, KeysRise, Pair, value_at}
use Rattle.clsm_model.specs.Right.{IsRight, page_deed}
use Rattle.clsm_model.specs.Seats.{IsRightRecord}
use Rattle.clsm_model.proofs.Pages.{EachKey, each_weaker, rise_first, value_at-append, value_at-behind, value_at-here}
use Rattle.clsm_law.specs.Relation.{call_of}
use Rattle.clsm_store_calls.specs.Downwards.{IsPageDown, ReadsDown}
use Rattle.clsm_store_calls.specs.Scanning.{IsAtClock}
use Rattle.clsm_store_calls.specs.Seats.{Answers, IsLawfulAlone, SeatState, known_by}
use Rattle.clsm_store_calls.specs.Tally.{TakesNoLock}
use Rattle.clsm_store.specs.declared.ends.FoundRow.{FoundRow}
use Rattle.clsm_store.specs.Ends.{HasNoRow, IsFirst, IsLast, IsRow}
use Rattle.clsm_store.specs.Promises.{FindsFirst, FindsLast}

-- a key that none of the pairs has
absent : (k : ℕ) (pairs : List Pair) → EachKey (λ q. k ≢ q) pairs → value_at pairs k ≡ None
absent k [] none = refl
absent k (x ∷ xs) none = value_at-behind x xs k none.0 ∙ absent k xs none.1

-- what holds of all holds of the last
last_of_all : {A : Type 0} (P : A → Type 0) (xs : List A) (x : A) → AllByRecursion P (xs ++ x ∷ []) → P x
last_of_all P [] x all = all.0
last_of_all P (y ∷ ys) x all = last_of_all P ys x all.1

-- the keys before the last are below it
below_last : (pairs : List Pair) (row : Pair) → KeysRise (pairs ++ row ∷ []) → EachKey (λ k. k < row.0) pairs
below_last [] row rise = tt
below_last (x ∷ xs) row rise = (
  last_of_all (λ (pair : Pair). x.0 < pair.0) xs row (rise_first x (xs ++ row ∷ []) rise),
  below_last xs row (sorted_tail nat_cmp x.0 (keys_of (xs ++ row ∷ [])) rise),
)

module _ (h : History) (s lo hi : ℕ) where
  none_of : IsRange h s lo hi [] → HasNoRow h s lo hi
  none_of range k from until = sym (range.inside k from until)

  row_of : (all : List Pair) (row : Pair) → IsRange h s lo hi all → value_at all row.0 ≡ Some row.1 → IsRow h s lo hi row
  row_of all row range is =
      let from : lo ≤ row.0 = ⊎_elim (λ (lt : row.0 < lo). absurd (cc (sym is ∙ range.below row.0 lt))) (λ (le : lo ≤ row.0). le) (cases_lt row.0 lo) in
      let until : row.0 ≤ hi = ⊎_elim (λ (lt : hi < row.0). absurd (cc (sym is ∙ range.above row.0 lt))) (λ (le : row.0 ≤ hi). le) (cases_lt hi row.0) in
      record { from = from; until = until; value = sym (range.inside row.0 from until) ∙ is }

  first_of : (row : Pair) (rows : List Pair) → IsRange h s lo hi (row ∷ rows) → IsFirst h s lo hi row
  first_of row rows range =
      let is = row_of (row ∷ rows) row range (value_at-here row rows) in
      record {
        is = is;
        below = λ k from lt.
            let high = is.until in
            let others = each_weaker (λ q. row.0 < q) (λ q. k ≢ q) (λ q above e. omega arith) rows (rise_first row rows range.rise) in
            sym (range.inside k from (omega arith)) ∙ value_at-behind row rows k (λ e. omega arith) ∙ absent k rows others;
      }

  last_of : (rows : List Pair) (row : Pair) → IsRange h s lo hi (rows ++ row ∷ []) → IsLast h s lo hi row
  last_of rows row range =
      let each = below_last rows row range.rise in
      let found : value_at (rows ++ row ∷ []) row.0 ≡ Some row.1 =
      value_at-append rows (row ∷ []) row.0
      ∙ ap (λ (o : Option (List ℕ)). or_else o (value_at (row ∷ []) row.0))
      (absent row.0 rows (each_weaker (λ q. q < row.0) (λ q. row.0 ≢ q) (λ q lt e. omega arith) rows each))
      ∙ value_at-here row [] in
      let is = row_of (rows ++ row ∷ []) row range found in
      record {
        is = is;
        above = λ k lt until.
            let low = is.from in
            sym (range.inside k (omega arith) until)
            ∙ value_at-append rows (row ∷ []) k
            ∙ ap (λ (o : Option (List ℕ)). or_else o (value_at (row ∷ []) k))
            (absent k rows (each_weaker (λ q. q < row.0) (λ q. k ≢ q) (λ q below e. omega arith) rows each))
            ∙ value_at-behind row [] k (λ e. omega arith);
      }

  -- the one row that a page of one row has
  pub first_row : (all : List Pair) (row : Option Pair) → IsRange h s lo hi all → option_to_list row ≡ take 1 all
      → MatchOption row (HasNoRow h s lo hi) (IsFirst h s lo hi)
  first_row [] None range is = none_of range
  first_row [] (Some row) range is = absurd (cc is)
  first_row (x ∷ xs) None range is = absurd (cc is)
  first_row (x ∷ xs) (Some row) range is = let same : row ≡ x = cc is in rw same (first_of x xs range)

  -- and so downwards
  last_from : (all turned : List Pair) (row : Option Pair) → reverse turned ≡ all → IsRange h s lo hi all → option_to_list row ≡ take 1 turned
      → MatchOption row (HasNoRow h s lo hi) (IsLast h s lo hi)
  last_from all [] None same range is = none_of (subst (IsRange h s lo hi) (sym same) range)
  last_from all [] (Some row) same range is = absurd (cc is)
  last_from all (x ∷ xs) None same range is = absurd (cc is)
  last_from all (x ∷ xs) (Some row) same range is =
      let one : row ≡ x = cc is in
      rw one (last_of (reverse xs) x (subst (IsRange h s lo hi) (sym same ∙ reverse-append (x ∷ []) xs) range))

  pub last_row : (all : List Pair) (row : Option Pair) → IsRange h s lo hi all → option_to_list row ≡ take 1 (reverse all)
      → MatchOption row (HasNoRow h s lo hi) (IsLast h s lo hi)
  last_row all row range is = last_from all (reverse all) row (reverse-reverse all) range is

-- what the seat found that recorded a page of one row
pub found_first : (old new : SeatState) (t lo hi : ℕ) (row : Option Pair) (more : Option ℕ) → IsLawfulAlone new
    → Answers old new t (page_deed lo hi 1 (option_to_list row) more)
    → (t ≤ end_of (known_by new)) × MatchOption row (HasNoRow (known_by new) t lo hi) (IsFirst (known_by new) t lo hi)
found_first old new t lo hi row more lawful answers =
    let deed = page_deed lo hi 1 (option_to_list row) more in
    let right : IsRight (plain new.past) t deed =
    last_of_all (IsRightRecord (plain new.past)) old.calls (call_of old.number t deed)
    (subst (AllByRecursion (IsRightRecord (plain new.past))) answers.calls lawful.0.right) in
    let page = right.reads in
    let range = page.1 in (
      right.readable.reached,
      first_row (known_by new) t lo hi page.0 row (record { rise = range.rise; inside = range.inside; below = range.below; above = range.above }) page.2.front,
    )

-- the one place of a page, as far as it is filled
pub one_row : (places : List Pair) (none : Pair) (n : ℕ) → length places ≡ 1 → n ≤ length places → take n (get_or places 0 none ∷ [])
    ≡ map (λ row. row) (take n places)
one_row [] none n long within = absurd (omega arith)
one_row (x ∷ []) none zero long within = refl
one_row (x ∷ []) none (suc zero) long within = refl
one_row (x ∷ []) none (suc (suc n)) long within = absurd (omega arith)
one_row (x ∷ y ∷ rest) none n long within = absurd (omega arith)

-- what was found in it, upwards and downwards
pub finds_first : (old new : SeatState) (lo hi : ℕ) (result : FoundRow) (t : ℕ) (more : Option ℕ) (rows : List Pair) → result.time ≡ t
    → option_to_list result.row ≡ rows → Answers old new t (page_deed lo hi 1 rows more) → IsAtClock old new t → TakesNoLock old.tally new.tally
    → IsLawfulAlone new → FindsFirst old new lo hi result
finds_first old new lo hi result t more rows at one answers clock lock lawful =
    let page = subst (λ (z : ℕ × List Pair). Answers old new z.0 (page_deed lo hi 1 z.1 more)) (λ i. (sym at i, sym one i)) answers in
    let found = found_first old new result.time lo hi result.row more lawful page in
    record {
      more = more;
      answers = page;
      row = found.1;
      reached = found.0;
      clock = subst (λ (n : ℕ). IsAtClock old new n) (sym at) clock;
      lock = lock;
    }

pub finds_last : (old new : SeatState) (lo hi : ℕ) (result : FoundRow) (t : ℕ) (more : Option ℕ) (rows : List Pair) → result.time ≡ t
    → option_to_list result.row ≡ rows → ReadsDown old new t lo hi 1 rows more → TakesNoLock old.tally new.tally → FindsLast old new lo hi result
finds_last old new lo hi result t more rows at one reads lock =
    let page = subst (λ (z : ℕ × List Pair). IsPageDown (known_by new) z.0 lo hi 1 z.1 more) (λ i. (sym at i, sym one i)) reads.page in
    record {
      first = reads.first;
      answers = subst (λ (n : ℕ). Answers old new n (page_deed lo hi 0 [] reads.first)) (sym at) reads.answers;
      row = last_row (known_by new) result.time lo hi page.all result.row page.range page.page.front;
      reached = subst (λ (n : ℕ). n ≤ end_of (known_by new)) (sym at) reads.reached;
      clock = subst (λ (n : ℕ). IsAtClock old new n) (sym at) reads.clock;
      lock = lock;
    }
