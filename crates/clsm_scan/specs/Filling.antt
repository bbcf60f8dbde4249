-- Rows of a caller's that are filled one after another.
use Rattle.std.specs.Prelude.{◌≡◌, ℕ, ◌-◌, ◌+◌, ◌≤◌, List, drop, length, take, refl}
use Rattle.std.specs.Borrow.{MutBor}
use Rattle.std.specs.List.{AllByRecursion}
use Rattle.std.proofs.Common.{◌∙◌, ap, arith, subst, sym}
use Rattle.std.proofs.lemmas.List.{drop-drop}

-- there are so many rows at least, and each of the first so many is one
pub record AreFilled {R : Type 0} (IsRow : R → Type 0) (rows : List R) (count : ℕ) : Type 0 where
  pub within : count ≤ length rows
  pub each : AllByRecursion IsRow (take count rows)

-- behind the reference more rows are filled than before, and those behind them are as they were
pub record FillsOn {R : Type 0} (before : MutBor (List R)) (count : ℕ) (after : MutBor (List R)) (filled : ℕ) : Type 0 where
  pub same_reference : after.ghost_name ≡ before.ghost_name
  pub long : length after.now ≡ length before.now
  pub more : count ≤ filled
  pub rest : drop filled after.now ≡ drop filled before.now

-- ---- filled further, and further again

pub fills_none : {R : Type 0} (rows : MutBor (List R)) (count : ℕ) → FillsOn rows count rows count
fills_none rows count = record { same_reference = refl; long = refl; more = omega arith; rest = refl }

rest_later : {R : Type 0} (xs ys : List R) (n m : ℕ) → n ≤ m → drop n xs ≡ drop n ys → drop m xs ≡ drop m ys
rest_later xs ys n m le same =
    let at : n + (m - n) ≡ m = omega arith in
    subst (λ (i : ℕ). drop i xs ≡ drop i ys) at (sym (drop-drop (m - n) n xs) ∙ ap (drop (m - n)) same ∙ drop-drop (m - n) n ys)

pub fills_on : {R : Type 0} (a : MutBor (List R)) (l : ℕ) (b : MutBor (List R)) (m : ℕ) (c : MutBor (List R)) (n : ℕ) → FillsOn a l b m → FillsOn b m c n
    → FillsOn a l c n
fills_on a l b m c n first second = record {
  same_reference = second.same_reference ∙ first.same_reference;
  long = second.long ∙ first.long;
  more = let le = first.more in let le' = second.more in omega arith;
  rest = second.rest ∙ rest_later b.now a.now m n second.more first.rest;
}
