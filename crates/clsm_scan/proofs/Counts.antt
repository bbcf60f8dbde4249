-- A count of rows, one after another.
use Rattle.std.proofs.Common.{◌≡◌, ◌∙◌, ℕ, ◌+◌, ◌<◌, ◌≤◌, min, List, [], ◌∷◌, ◌++◌, length, ap, refl, subst, sym, arith, Option, Some, None, unwrap_or}
use Rattle.std.proofs.lemmas.List.{length_push}
use Rattle.std.specs.List.{FoldsTo}
use Rattle.clsm_model.specs.Map.{Pair, value_at}
use Rattle.clsm_model.specs.Right.{first_key}
use Rattle.clsm_scan.specs.Collected.{AreRowsTo, IsCount, IsNextRow, IsVisit}
use Rattle.clsm_scan.proofs.ComponentCursors.{collected_same}
use Rattle.clsm_scan.proofs.Rows.{all_rows, beyond_pushed, rows_none, rows_taken}

-- the first key stays where a row is put behind
first_pushed : (rows : List Pair) (row : Pair) → first_key (rows ++ row ∷ []) ≡ Some (unwrap_or (first_key rows) row.0)
first_pushed [] row = refl
first_pushed (x ∷ xs) row = refl

-- so many keys from `lo` on and below `end` have a value, and none of these is above `hi`; this is
-- the first of them
pub record IsCountTo (value : ℕ → Option (List ℕ)) (lo end hi n : ℕ) (first : Option ℕ) : Type 0 where
  pub rows : List Pair
  pub are : AreRowsTo value lo end rows
  pub beyond : (k : ℕ) → hi < k → value_at rows k ≡ None
  pub counted : n ≡ min (length rows) 18446744073709551615
  pub begins : first ≡ first_key rows

module _ (value : ℕ → Option (List ℕ)) (lo hi : ℕ) where
  abbrev count_none : IsCountTo value lo lo hi 0 None
  count_none = record { rows = []; are = rows_none value lo; beyond = λ k lt. refl; counted = omega arith; begins = refl }

  -- one row more
  abbrev count_next : (from n n' : ℕ) (row : Pair) (first : Option ℕ) → IsCountTo value lo from hi n first → lo ≤ from
      → IsNextRow value from hi (Some row) → n' ≡ min (n + 1) 18446744073709551615
      → IsCountTo value lo (row.0 + 1) hi n' (Some (unwrap_or first row.0))
  count_next from n n' row first is le next more = record {
    rows = is.rows ++ row ∷ [];
    are = rows_taken value lo from hi is.rows row is.are le next;
    beyond = beyond_pushed value lo hi is.rows row next.1 is.beyond;
    counted = let long = length_push is.rows row in let before = is.counted in omega arith;
    begins = ap (λ (o : Option ℕ). Some (unwrap_or o row.0)) is.begins ∙ sym (first_pushed is.rows row);
  }

  -- no row is left
  abbrev count_all : (from n : ℕ) (first : Option ℕ) → IsCountTo value lo from hi n first → IsNextRow value from hi None → IsCount value lo hi n first
  count_all from n first is next = record {
    rows = is.rows;
    all = (all_rows value lo from hi is.rows is.are next is.beyond, tt);
    counted = is.counted;
    begins = is.begins;
  }

-- what is found between the bounds decides the count
abbrev count_same : (value value' : ℕ → Option (List ℕ)) (lo hi n : ℕ) (first : Option ℕ) → ((k : ℕ) → lo ≤ k → k ≤ hi → value' k ≡ value k)
    → IsCount value lo hi n first → IsCount value' lo hi n first
count_same value value' lo hi n first same is = record {
  rows = is.rows;
  all = collected_same value value' lo hi None is.rows None same is.all;
  counted = is.counted;
  begins = is.begins;
}

-- ---- visits

-- one step more
folds_push : {V A : Type 0} (Takes : V → A → V → Type 0) (before : V) (xs : List A) (now after : V) (x : A) → FoldsTo Takes before xs now → Takes now x after
    → FoldsTo Takes before (xs ++ x ∷ []) after
folds_push Takes before [] now after x same step = (after, subst (λ v. Takes v x after) (sym same) step, refl)
folds_push Takes before (y ∷ ys) now after x folds step = (folds.0, folds.1, folds_push Takes folds.0 ys now after x folds.2 step)

-- the visitor took the rows of so many keys from `lo` on and below `end`
pub record IsVisitTo {V : Type 0} (Takes : V → Pair → V → Type 0) (value : ℕ → Option (List ℕ)) (lo end hi n : ℕ) (first : Option ℕ)
    (before after : V) : Type 0 where
  pub count : IsCountTo value lo end hi n first
  pub taken : FoldsTo Takes before count.rows after

module _ {V : Type 0} (Takes : V → Pair → V → Type 0) (value : ℕ → Option (List ℕ)) (lo hi : ℕ) where
  pub visit_none : (before : V) → IsVisitTo Takes value lo lo hi 0 None before before
  visit_none before = record { count = count_none value lo hi; taken = refl }

  pub visit_next : (from n n' : ℕ) (row : Pair) (first : Option ℕ) (before now after : V) → IsVisitTo Takes value lo from hi n first before now → lo ≤ from
      → IsNextRow value from hi (Some row) → n' ≡ min (n + 1) 18446744073709551615 → Takes now row after
      → IsVisitTo Takes value lo (row.0 + 1) hi n' (Some (unwrap_or first row.0)) before after
  visit_next from n n' row first before now after is le next more takes = record {
    count = count_next value lo hi from n n' row first is.count le next more;
    taken = folds_push Takes before is.count.rows now after row is.taken takes;
  }

  pub visit_all : (from n : ℕ) (first : Option ℕ) (before after : V) → IsVisitTo Takes value lo from hi n first before after → IsNextRow value from hi None
      → IsVisit Takes value lo hi n first before after
  visit_all from n first before after is next = record { count = count_all value lo hi from n first is.count next; taken = is.taken }

  pub visit_ended : (key n : ℕ) (first : Option ℕ) (before after : V) → IsVisitTo Takes value lo (key + 1) hi n first before after → hi ≤ key
      → IsVisit Takes value lo hi n first before after
  visit_ended key n first before after is last = visit_all (key + 1) n first before after is (λ k above below. absurd (omega arith))

-- what is found between the bounds decides what is visited
pub visit_same : {V : Type 0} (Takes : V → Pair → V → Type 0) (value value' : ℕ → Option (List ℕ)) (lo hi n : ℕ) (first : Option ℕ) (before after : V)
    → ((k : ℕ) → lo ≤ k → k ≤ hi → value' k ≡ value k) → IsVisit Takes value lo hi n first before after → IsVisit Takes value' lo hi n first before after
visit_same Takes value value' lo hi n first before after same is = record { count = count_same value value' lo hi n first same is.count; taken = is.taken }
