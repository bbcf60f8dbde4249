-- When rows are a page of a history: what each row and the next key have to be.
use Rattle.std.proofs.Common.{◌≡◌, ◌≢◌, ◌↔◌, ℕ, suc, ◌+◌, ◌-◌, ◌<◌, ◌≤◌, ◌==◌, inl, inr, Bool, true, IsTrue, List, [], ◌∷◌, ◌++◌, length, get_or, drop}
use Rattle.std.proofs.Common.{Option, Some, None, refl, sym, ap, ◌∙◌, subst, arith, length-append, length-drop}
use Rattle.std.specs.List.{All}
use Rattle.std.specs.Map.{keys_of}
use Rattle.std.proofs.lemmas.Bool.{cases_lt, eqb-true}
use Rattle.std.proofs.lemmas.List.{get_or_append_left, get_or-append-add, length-map, take-append-drop, take_all}
use Rattle.std.proofs.lemmas.List.Elements.{All-from_get_or, All-cons}
use Rattle.std.proofs.lemmas.Map.Keys.{below_from_sorted}
use Rattle.clsm_model.specs.History.{History, or_else, value}
use Rattle.clsm_model.specs.Map.{Pair, IsRange, KeysRise, value_at}
use Rattle.clsm_model.specs.Right.{first_key}
use Rattle.clsm_model.proofs.Pages.{or_none, page_of, page_of_all, rise-nil, value_at-append, value_at-here}
use Rattle.clsm_law.specs.SeatReads.{IsNextKey, IsPageOf, IsRangeBelow}
use Rattle.clsm_machine_caller.proofs.SeatRanges.{KeysRise-next, next-KeysRise, key_at}
use Rattle.clsm_machine_caller.proofs.SeatRows.{some_is_not_none, value_at-row, value_at-some}

-- ---- rows one behind the other

-- rows none of which has the key give nothing
value_at-absent : (P : Pair → Type 0) (rows : List Pair) (k : ℕ) → All P rows → ((row : Pair) → P row → row.0 ≢ k) → value_at rows k ≡ None
value_at-absent P rows k all other = at (value_at rows k) refl where
  at : (o : Option (List ℕ)) → value_at rows k ≡ o → value_at rows k ≡ None
  at None e = e
  at (Some v) e = let row = value_at-row P rows k v all e in absurd (other row.0 row.2 row.1)

rises : (rows : List Pair) → KeysRise rows → (i j : ℕ) → i < j → j < length rows → (get_or rows i (0, [])).0 < (get_or rows j (0, [])).0
rises rows rise i j lt in_rows =
    let n = length-map rows (λ (row : Pair). row.0) in
    let less = below_from_sorted (keys_of rows) i j 0 rise lt (omega (arith, n)) in
    let a = key_at rows i (omega arith) in let b = key_at rows j in_rows in omega arith

-- what two rows of rows, one behind the other, have at a place
key_left : (xs ys : List Pair) (i : ℕ) → i < length xs → (get_or (xs ++ ys) i (0, [])).0 ≡ (get_or xs i (0, [])).0
key_left xs ys i lt = ap (λ (row : Pair). row.0) (get_or_append_left xs ys (0, []) i lt)

key_right : (xs ys : List Pair) (i : ℕ) → (get_or (xs ++ ys) (length xs + i) (0, [])).0 ≡ (get_or ys i (0, [])).0
key_right xs ys i = ap (λ (row : Pair). row.0) (get_or-append-add xs ys i (0, []))

-- the rows before a row have lower keys, and it and those behind it no lower ones
rows_before : (xs ys : List Pair) (y : Pair) → KeysRise (xs ++ y ∷ ys) → All (λ row. row.0 < y.0) xs
rows_before xs ys y rise = All-from_get_or (λ row. row.0 < y.0) xs (0, []) (λ i lt.
    let n = length-append xs (y ∷ ys) in
    let less = rises (xs ++ y ∷ ys) rise i (length xs + 0) (omega arith) (omega (arith, n)) in
    let a = key_left xs (y ∷ ys) i lt in let b = key_right xs (y ∷ ys) 0 in omega arith)

rows_behind : (xs ys : List Pair) (y : Pair) → KeysRise (xs ++ y ∷ ys) → All (λ row. y.0 ≤ row.0) (y ∷ ys)
rows_behind xs ys y rise = All-cons (λ row. y.0 ≤ row.0) y ys (omega arith) (All-from_get_or (λ row. y.0 ≤ row.0) ys (0, []) (λ i lt.
    let n = length-append xs (y ∷ ys) in
    let less = rises (xs ++ y ∷ ys) rise (length xs + 0) (length xs + suc i) (omega arith) (omega (arith, n)) in
    let a = key_right xs (y ∷ ys) 0 in let b = key_right xs (y ∷ ys) (suc i) in omega arith))

KeysRise-front : (xs ys : List Pair) → KeysRise (xs ++ ys) → KeysRise xs
KeysRise-front xs ys rise = KeysRise-next xs (λ i lt.
    let less = next-KeysRise (xs ++ ys) rise i (omega (arith, length-append xs ys)) in
    let a = key_left xs ys i (omega arith) in let b = key_left xs ys (i + 1) lt in omega arith)

-- ---- a range below a key

-- no row is below 0
IsRangeBelow-zero : (h : History) (s lo : ℕ) (rows : List Pair) → rows ≡ [] ↔ IsRangeBelow h s lo 0 rows
IsRangeBelow-zero h s lo rows = (
  λ e. rw e (record {
    rise = rise-nil;
    inside = λ k a b. absurd (omega arith);
    below = λ k lt. refl;
    above = λ k le. refl;
  }),
  λ range. empty rows range.above,
) where
  empty : (rows : List Pair) → ((k : ℕ) → 0 ≤ k → value_at rows k ≡ None) → rows ≡ []
  empty [] none = refl
  empty (row ∷ rows) none = absurd (value_at-some (row ∷ rows) 0 row (omega arith) (none row.0 (omega arith)))

pub IsRangeBelow-empty : (h : History) (s lo hi : ℕ) (rows : List Pair) (r : Bool) → hi ≡ 0 → r ≡ (length rows == 0) → IsTrue r ↔ IsRangeBelow h s lo hi rows
IsRangeBelow-empty h s lo hi rows r low is = rw low (
  λ e. (IsRangeBelow-zero h s lo rows).0 (no_row rows (sym is ∙ e)),
  λ range. is ∙ ap (λ (rs : List Pair). length rs == 0) ((IsRangeBelow-zero h s lo rows).1 range),
) where
  no_row : (rows : List Pair) → (length rows == 0) ≡ true → rows ≡ []
  no_row [] e = refl
  no_row (row ∷ rows) e = absurd (let n = eqb-true (length (row ∷ rows)) 0 e in omega arith)

-- a range below a key is one up to the key before it
pub IsRangeBelow-up_to : (h : History) (s lo hi : ℕ) (rows : List Pair) → 0 < hi → IsRange h s lo (hi - 1) rows ↔ IsRangeBelow h s lo hi rows
IsRangeBelow-up_to h s lo hi rows some = (
  λ range. record { rise = range.rise; inside = λ k a b. range.inside k a (omega arith); below = range.below; above = λ k le. range.above k (omega arith) },
  λ range. record { rise = range.rise; inside = λ k a b. range.inside k a (omega arith); below = range.below; above = λ k lt. range.above k (omega arith) },
)

-- ---- a range in two

-- the rows before a row of a range are the range below its key, which has the row's value
pub record IsSplit (h : History) (s lo hi : ℕ) (rows : List Pair) (next : Pair) : Type 0 where
  pub from : lo ≤ next.0
  pub until : next.0 ≤ hi
  pub value_is : value h next.0 s ≡ Some next.1
  pub front : IsRangeBelow h s lo next.0 rows

IsRange-split : (h : History) (s lo hi : ℕ) (rows behind : List Pair) (next : Pair) → IsRange h s lo hi (rows ++ next ∷ behind) → IsSplit h s lo hi rows next
IsRange-split h s lo hi rows behind next range =
    let before = rows_before rows behind next range.rise in
    let after = rows_behind rows behind next range.rise in
    let none_after : (k : ℕ) → k < next.0 → value_at (next ∷ behind) k ≡ None =
    λ k lt. value_at-absent (λ row. next.0 ≤ row.0) (next ∷ behind) k after (λ row le is. omega arith) in
    let none_before : (k : ℕ) → next.0 ≤ k → value_at rows k ≡ None = λ k le. value_at-absent (λ row. row.0 < next.0) rows k before
    (λ row lt is. omega arith) in
    let in_front : (k : ℕ) → k < next.0 → value_at (rows ++ next ∷ behind) k ≡ value_at rows k = λ k lt. value_at-append rows (next ∷ behind) k
    ∙ ap (or_else (value_at rows k)) (none_after k lt) ∙ or_none (value_at rows k) in
    let here : value_at (rows ++ next ∷ behind) next.0 ≡ Some next.1 = value_at-append rows (next ∷ behind) next.0
    ∙ ap (λ o. or_else o (value_at (next ∷ behind) next.0)) (none_before next.0 (omega arith)) ∙ value_at-here next behind in
    let from : lo ≤ next.0 = elim (cases_lt next.0 lo) [ inl lt ↦ absurd (some_is_not_none (sym here ∙ range.below next.0 lt)) | inr le ↦ le ] in
    let until : next.0 ≤ hi = elim (cases_lt hi next.0) [ inl lt ↦ absurd (some_is_not_none (sym here ∙ range.above next.0 lt)) | inr le ↦ le ] in
    record {
      from = from;
      until = until;
      value_is = sym (range.inside next.0 from until) ∙ here;
      front = record {
        rise = KeysRise-front rows (next ∷ behind) range.rise;
        inside = λ k a b. sym (in_front k b) ∙ range.inside k a (omega arith);
        below = λ k lt. elim (cases_lt k next.0) [ inl less ↦ sym (in_front k less) ∙ range.below k lt | inr le ↦ none_before k le ];
        above = none_before;
      };
    }

-- ---- pages

-- a last page is a range of at most so many rows
pub last_page : (h : History) (s from hi max : ℕ) (rows : List Pair) → length rows ≤ max → IsRange h s from hi rows → IsPageOf h s from hi max rows None
last_page h s from hi max rows few range = page_of_all h s from hi rows max range few

none_behind : (rows : List Pair) → None ≡ first_key rows → rows ≡ []
none_behind [] e = refl
none_behind (row ∷ rows) e = absurd (some_is_not_none (sym e))

pub of_last_page : (h : History) (s from hi max : ℕ) (rows : List Pair) → IsPageOf h s from hi max rows None → (length rows ≤ max) × IsRange h s from hi rows
of_last_page h s from hi max rows p =
    let all = p.0 in
    let none = ap length (none_behind (drop max all) p.2.next) in
    let few : length all ≤ max = omega (arith, length-drop max all) in
    let same : all ≡ rows = sym (p.2.front ∙ take_all max all few) in
    (subst (λ (r : List Pair). length r ≤ max) same few, subst (IsRange h s from hi) same p.1)

row_behind : (m : ℕ) (rows : List Pair) → Some m ≡ first_key rows → (v : List ℕ) × (behind : List Pair) × (rows ≡ (m, v) ∷ behind)
row_behind m [] e = absurd (some_is_not_none e)
row_behind m (row ∷ rows) e = (row.1, rows, let is : m ≡ row.0 = cc in ap (λ (k : ℕ). (k, row.1) ∷ rows) (sym is))

-- another has so many rows, a range below the next key, which has a value
pub page : (h : History) (s from hi max m : ℕ) (rows : List Pair) → length rows ≡ max → IsNextKey h s from hi m → IsRangeBelow h s from m rows
    → IsPageOf h s from hi max rows (Some m)
page h s from hi max m rows full next range = at (value h m s) refl where
  at : (o : Option (List ℕ)) → value h m s ≡ o → IsPageOf h s from hi max rows (Some m)
  at None is = absurd (next.2 is)
  at (Some v) is = page_of h s from hi m v rows max full range.rise range.inside range.below range.above next.0 next.1 is

-- the facts that make such a page
pub record IsPageBefore (h : History) (s from hi max m : ℕ) (rows : List Pair) : Type 0 where
  pub full : length rows ≡ max
  pub next : IsNextKey h s from hi m
  pub front : IsRangeBelow h s from m rows

pub of_page : (h : History) (s from hi max m : ℕ) (rows : List Pair) → IsPageOf h s from hi max rows (Some m) → IsPageBefore h s from hi max m rows
of_page h s from hi max m rows p =
    let all = p.0 in
    let next = row_behind m (drop max all) p.2.next in
    let whole : all ≡ rows ++ (m, next.0) ∷ next.1 = sym (take-append-drop max all) ∙ ap (λ (r : List Pair). r ++ drop max all) (sym p.2.front)
    ∙ ap (λ (r : List Pair). rows ++ r) next.2 in
    let split = IsRange-split h s from hi rows next.1 (m, next.0) (subst (IsRange h s from hi) whole p.1) in
    record {
      full = omega (arith, length-drop max all, ap length next.2, ap length whole, length-append rows ((m, next.0) ∷ next.1));
      next = (split.from, split.until, λ none. some_is_not_none (sym split.value_is ∙ none));
      front = split.front;
    }
