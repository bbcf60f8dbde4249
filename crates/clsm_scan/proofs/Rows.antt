-- The rows of a scan, one after another.
use Rattle.std.proofs.Common.{◌≡◌, ℕ, ◌+◌, ◌<◌, ◌≤◌, ◌==◌, true, false, List, [], ◌∷◌, ◌++◌, length, is_some, true≢false, Option, Some, None, refl, sym, ap}
use Rattle.std.proofs.Common.{◌∙◌, subst, arith, inl, inr}
use Rattle.std.proofs.lemmas.Bool.{cases_lt, le-leb, leb-true}
use Rattle.std.proofs.lemmas.List.{length_push}
use Rattle.std.proofs.lemmas.Bool.Decides.{nat_tests}
use Rattle.clsm_model.specs.History.{or_else}
use Rattle.clsm_model.proofs.Pages.{EachKey, each-append, each_weaker, or_none, rise-append, rise-cons, rise-nil, value_at-append}
use Rattle.clsm_model.specs.Map.{KeysRise, Pair, value_at}
use Rattle.clsm_levels.specs.declared.entry.Entry.{Entry}
use Rattle.clsm_levels.specs.Entry.{value_of}
use Rattle.clsm_levels.specs.Yields.{IsNextFrom}
use Rattle.clsm_scan.specs.Collected.{AreAll, AreRowsTo, IsAtMost, IsHeadRow, IsNextRow, IsStopped, is_full, left_at}
use Rattle.clsm_scan.specs.Heads.{has_value, key_of, row_of}

-- none of the keys from one on and below another has a value
abbrev pub ArePassed : (ℕ → Option (List ℕ)) → ℕ → ℕ → Type 0
ArePassed value from to = (k : ℕ) → from ≤ k → k < to → value k ≡ None

-- nothing is found from one key on and below another
abbrev AreEmpty : (ℕ → Option Entry) → ℕ → ℕ → Type 0
AreEmpty found from to = (k : ℕ) → from ≤ k → k < to → found k ≡ None

absurd_order : {A : Type 0} {lo : ℕ} (k : ℕ) → lo ≤ k → k < lo → A
absurd_order k le lt = absurd (omega arith)

other_below : (k j : ℕ) → k < j → (k == j) ≡ false
other_below k j lt = grind (arith, nat_tests)

other_above : (k j : ℕ) → j < k → (k == j) ≡ false
other_above k j lt = grind (arith, nat_tests)

module _ (found found' : ℕ → Option Entry) (from sought : ℕ) (same : (k : ℕ) → sought ≤ k → found' k ≡ found k)
    (passed : ArePassed (left_at found) from sought) where
  pass_empty : (to : ℕ) → AreEmpty found' sought to → ArePassed (left_at found) from to
  pass_empty to empty = λ k le lt. elim (cases_lt k sought) [
    | inl before ↦ passed k le before
    | inr here ↦ ap value_of (sym (same k here) ∙ empty k here lt)
  ]

  pub none_left : (hi : ℕ) → IsNextFrom found' sought None → IsNextRow (left_at found) from hi None
  none_left hi next = λ k le until. pass_empty (hi + 1) (λ j above below. next j above) k le (omega arith)

  pub none_before : (hi : ℕ) (e : Entry) → IsNextFrom found' sought (Some e) → hi < e.key → IsNextRow (left_at found) from hi None
  none_before hi e next lt = λ k le until. pass_empty e.key next.2 k le (omega arith)

  value_here : (e : Entry) (written : Option (List ℕ)) → IsNextFrom found' sought (Some e) → e.value ≡ written → left_at found e.key ≡ written
  value_here e written next is = ap value_of (sym (same e.key next.0) ∙ next.1) ∙ is

  pub row_here : (hi : ℕ) (e : Entry) (words : List ℕ) → IsNextFrom found' sought (Some e) → from ≤ sought → e.key ≤ hi → e.value ≡ Some words
      → IsNextRow (left_at found) from hi (Some (e.key, words))
  row_here hi e words next le until is = let later = next.0 in (omega arith, until, value_here e (Some words) next is, pass_empty e.key next.2)

  pub pass_removal : (e : Entry) → IsNextFrom found' sought (Some e) → e.value ≡ None → ArePassed (left_at found) from (e.key + 1)
  pass_removal e next is = λ k le lt. elim (cases_lt k e.key) [
    | inl before ↦ pass_empty e.key next.2 k le before
    | inr here ↦ let at : k ≡ e.key = omega arith in ap (left_at found) at ∙ value_here e None next is
  ]

  -- by what was read of a cursor: there is nothing more
  pub no_key : (hi : ℕ) (head : Option Entry) → key_of head ≡ None → IsNextFrom found' sought head → IsNextRow (left_at found) from hi None
  no_key hi None is next = none_left hi next
  no_key hi (Some e) is next = absurd (cc is)

  -- or the next key is past the last one
  pub key_past : (hi key : ℕ) (head : Option Entry) → key_of head ≡ Some key → hi < key → IsNextFrom found' sought head → IsNextRow (left_at found) from hi None
  key_past hi key None is lt next = absurd (cc is)
  key_past hi key (Some e) is lt next = let at : e.key ≡ key = cc is in none_before hi e next (omega arith)

  head_here : (hi key : ℕ) (e : Entry) (written : Option (List ℕ)) → e.key ≡ key → e.value ≡ written → is_some written ≡ true → from ≤ sought → key ≤ hi
      → IsNextFrom found' sought (Some e) → IsHeadRow (left_at found) from hi (Some e) key
  head_here hi key e None at is some le until next = absurd (true≢false (sym some))
  head_here hi key e (Some words) at is some le until next = record {
    words = words;
    is = (λ i. row_of (at i) (is i));
    has = ap (λ (v : Option (List ℕ)). is_some v) is;
    next = subst (λ (n : ℕ). IsNextRow (left_at found) from hi (Some (n, words))) at (row_here hi e words next le (omega arith) is);
  }

  -- or it has a value
  pub key_found : (hi key : ℕ) (head : Option Entry) → key_of head ≡ Some key → has_value head ≡ true → from ≤ sought → key ≤ hi → IsNextFrom found' sought head
      → IsHeadRow (left_at found) from hi head key
  key_found hi key None is has le until next = absurd (cc is)
  key_found hi key (Some e) is has le until next = head_here hi key e e.value (cc is) refl has le until next

  removed_here : (e : Entry) (written : Option (List ℕ)) → e.value ≡ written → is_some written ≡ false → IsNextFrom found' sought (Some e)
      → ArePassed (left_at found) from (e.key + 1)
  removed_here e None is none next = pass_removal e next is
  removed_here e (Some words) is none next = absurd (true≢false none)

  -- or it has none, and is skipped
  pub key_passed : (key : ℕ) (head : Option Entry) → key_of head ≡ Some key → has_value head ≡ false → IsNextFrom found' sought head
      → ArePassed (left_at found) from (key + 1)
  key_passed key None is none next = absurd (cc is)
  key_passed key (Some e) is none next = let at : e.key ≡ key = cc is in
      subst (λ (n : ℕ). ArePassed (left_at found) from (n + 1)) at (removed_here e e.value refl none next)

  pub none_at_end : (hi : ℕ) → hi < sought → IsNextRow (left_at found) from hi None
  none_at_end hi lt = λ k le until. passed k le (omega arith)

pub head_later : (found : ℕ → Option Entry) (from key : ℕ) (head : Option Entry) → key_of head ≡ Some key → IsNextFrom found from head → from ≤ key
head_later found from key None is next = absurd (cc is)
head_later found from key (Some e) is next = let at : e.key ≡ key = cc is in let le = next.0 in omega arith

-- ---- one row more

value_pushed_other : (rows : List Pair) (row : Pair) (k : ℕ) → (k == row.0) ≡ false → value_at (rows ++ row ∷ []) k ≡ value_at rows k
value_pushed_other rows row k other =
    let alone : value_at (row ∷ []) k ≡ None = rw other refl in
    value_at-append rows (row ∷ []) k ∙ ap (or_else (value_at rows k)) alone ∙ or_none (value_at rows k)

value_pushed_here : (rows : List Pair) (row : Pair) → value_at rows row.0 ≡ None → value_at (rows ++ row ∷ []) row.0 ≡ Some row.1
value_pushed_here rows row none =
    let alone : value_at (row ∷ []) row.0 ≡ Some row.1 = grind (arith, nat_tests) in
    value_at-append rows (row ∷ []) row.0 ∙ ap (λ (o : Option (List ℕ)). or_else o (value_at (row ∷ []) row.0)) none ∙ alone

rise_pushed : (rows : List Pair) (row : Pair) → EachKey (λ (k : ℕ). k < row.0) rows → KeysRise rows → KeysRise (rows ++ row ∷ [])
rise_pushed rows row below rise = rise-append row.0 rows (row ∷ []) rise (rise-cons row [] tt rise-nil) below (omega arith, tt)

module _ (value : ℕ → Option (List ℕ)) (lo : ℕ) where
  pub rows_none : AreRowsTo value lo lo []
  rows_none = record { rise = rise-nil; ends = tt; inside = λ k le lt. absurd_order k le lt; below = λ k lt. refl; above = λ k le. refl }

  -- the next row behind those up to a key
  pub rows_next : (from hi : ℕ) (rows : List Pair) (row : Pair) → AreRowsTo value lo from rows → lo ≤ from → IsNextRow value from hi (Some row)
      → AreRowsTo value lo row.0 rows
  rows_next from hi rows row are le next = record {
    rise = are.rise;
    ends = each_weaker (λ (k : ℕ). k < from) (λ (k : ℕ). k < row.0) (λ k lt. let later = next.0 in omega arith) rows are.ends;
    inside = λ k above below. elim (cases_lt k from) [
      | inl before ↦ are.inside k above before
      | inr here ↦ are.above k here ∙ sym (next.3 k here below)
    ];
    below = are.below;
    above = λ k above. are.above k (let later = next.0 in omega arith);
  }

  pub rows_pushed : (rows : List Pair) (row : Pair) → AreRowsTo value lo row.0 rows → lo ≤ row.0 → value row.0 ≡ Some row.1
      → AreRowsTo value lo (row.0 + 1) (rows ++ row ∷ [])
  rows_pushed rows row are le is = record {
    rise = rise_pushed rows row are.ends are.rise;
    ends = each-append (λ (k : ℕ). k < row.0 + 1) rows (row ∷ [])
        (each_weaker (λ (k : ℕ). k < row.0) (λ (k : ℕ). k < row.0 + 1) (λ k lt. omega arith) rows are.ends) (omega arith, tt);
    inside = λ k above below. elim (cases_lt k row.0) [
      | inl before ↦ value_pushed_other rows row k (other_below k row.0 before) ∙ are.inside k above before
      | inr here ↦ let at : row.0 ≡ k = omega arith in
          subst (λ (j : ℕ). value_at (rows ++ row ∷ []) j ≡ value j) at (value_pushed_here rows row (are.above row.0 (omega arith)) ∙ sym is)
    ];
    below = λ k lt. value_pushed_other rows row k (other_below k row.0 (omega arith)) ∙ are.below k lt;
    above = λ k above. value_pushed_other rows row k (other_above k row.0 (omega arith)) ∙ are.above k (omega arith);
  }

  pub beyond_pushed : (hi : ℕ) (rows : List Pair) (row : Pair) → row.0 ≤ hi → ((k : ℕ) → hi < k → value_at rows k ≡ None) → (k : ℕ) → hi < k
      → value_at (rows ++ row ∷ []) k ≡ None
  beyond_pushed hi rows row le beyond k lt = value_pushed_other rows row k (other_above k row.0 (omega arith)) ∙ beyond k lt

  pub all_rows : (from hi : ℕ) (rows : List Pair) → AreRowsTo value lo from rows → IsNextRow value from hi None → ((k : ℕ) → hi < k → value_at rows k ≡ None)
      → AreAll value lo hi rows
  all_rows from hi rows are next beyond = record {
    rise = are.rise;
    inside = λ k above below. elim (cases_lt k from) [
      | inl before ↦ are.inside k above before
      | inr here ↦ are.above k here ∙ sym (next k here below)
    ];
    below = are.below;
    above = beyond;
  }

  pub rows_stopped : (from hi : ℕ) (max : Option ℕ) (rows : List Pair) (row : Pair) → AreRowsTo value lo from rows → lo ≤ from
      → IsNextRow value from hi (Some row) → max ≡ Some (length rows) → IsStopped value lo hi max rows row.0
  rows_stopped from hi max rows row are le next full = record {
    gives = rows_next from hi rows row are le next;
    from = let later = next.0 in omega arith;
    until = next.1;
    there = (row.1, next.2);
    full = full;
  }

  pub rows_taken : (from hi : ℕ) (rows : List Pair) (row : Pair) → AreRowsTo value lo from rows → lo ≤ from → IsNextRow value from hi (Some row)
      → AreRowsTo value lo (row.0 + 1) (rows ++ row ∷ [])
  rows_taken from hi rows row are le next = rows_pushed rows row (rows_next from hi rows row are le next) (let later = next.0 in omega arith) next.2

  -- the row of the last key is taken
  pub rows_ended : (from hi : ℕ) (rows : List Pair) (row : Pair) → AreRowsTo value lo from rows → lo ≤ from → IsNextRow value from hi (Some row)
      → ((k : ℕ) → hi < k → value_at rows k ≡ None) → hi ≤ row.0 → AreAll value lo hi (rows ++ row ∷ [])
  rows_ended from hi rows row are le next beyond last =
      all_rows (row.0 + 1) hi (rows ++ row ∷ []) (rows_taken from hi rows row are le next) (λ k above below. absurd_order k above (omega arith))
      (beyond_pushed hi rows row next.1 beyond)

pub next_row_same : (value value' : ℕ → Option (List ℕ)) (from hi : ℕ) (o : Option Pair) → ((k : ℕ) → from ≤ k → value' k ≡ value k)
    → IsNextRow value' from hi o
    → IsNextRow value from hi o
next_row_same value value' from hi None same next = λ k above below. sym (same k above) ∙ next k above below
next_row_same value value' from hi (Some row) same next =
    (next.0, next.1, sym (same row.0 next.0) ∙ next.2, λ k above below. sym (same k above) ∙ next.3 k above below)

-- where there are not as many as may be, one more is not too many
pub not_full : (max : Option ℕ) (n : ℕ) → is_full max n ≡ false → IsAtMost (n + 1) max
not_full None n not = tt
not_full (Some m) n not = elim (cases_lt n m) [
  | inl lt ↦ omega arith
  | inr le ↦ absurd (true≢false (sym (le-leb m n le) ∙ not))
]

pub most_pushed : (max : Option ℕ) (old new : List Pair) (row : Pair) → new ≡ old ++ row ∷ [] → is_full max (length old) ≡ false → IsAtMost (length new) max
most_pushed max old new row put not =
    let long : length new ≡ length old + 1 = ap (λ (l : List Pair). length l) put ∙ length_push old row in
    subst (λ (n : ℕ). IsAtMost n max) (sym long) (not_full max (length old) not)

-- or there are just as many
pub just_full : (max : Option ℕ) (n : ℕ) → is_full max n ≡ true → IsAtMost n max → max ≡ Some n
just_full None n full most = absurd (true≢false (sym full))
just_full (Some m) n full most = let le = leb-true m n full in let same : m ≡ n = omega arith in ap (λ (i : ℕ). Some i) same

-- none are not too many
pub none_at_most : (max : Option ℕ) → IsAtMost 0 max
none_at_most None = tt
none_at_most (Some m) = omega arith
