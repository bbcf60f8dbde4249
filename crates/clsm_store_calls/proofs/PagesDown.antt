-- The rows that were collected downwards are a page of the range turned round.
use Rattle.std.proofs.Common.{◌≡◌, ◌∙◌, ℕ, ◌+◌, ◌-◌, ◌<◌, ◌≤◌, List, [], ◌∷◌, ◌++◌, length, take, drop, reverse, ap, refl, subst, sym, arith, inl, inr}
use Rattle.std.proofs.Common.{Option, Some, None}
use Rattle.std.proofs.Math.Seq.{take-append_seam, drop-append_seam}
use Rattle.std.proofs.lemmas.Bool.{cases_lt}
use Rattle.std.proofs.lemmas.List.{drop_all, reverse-append, reverse-reverse, take_all}
use Rattle.clsm_model.specs.History.{History, value}
use Rattle.clsm_model.specs.Map.{Pair, between}
use Rattle.clsm_model.specs.Right.{first_key}
use Rattle.clsm_model.proofs.Pages.{each_below, is_range_of, map_of}
use Rattle.clsm_scan.specs.Collected.{AreAll, AreRowsTo}
use Rattle.clsm_scan.specs.Downwards.{IsCollectedDown}
use Rattle.clsm_scan.proofs.Falling.{all_joined}
use Rattle.clsm_scan.proofs.Rows.{rows_none, rows_pushed}
use Rattle.clsm_store_calls.specs.Downwards.{IsPageDown}
use Rattle.clsm_store_calls.proofs.Asking.{range_of_all}

-- what is found decides what is collected
pub down_same : (value value' : ℕ → Option (List ℕ)) (lo hi max : ℕ) (rows : List Pair) (more : Option ℕ) → ((k : ℕ) → value' k ≡ value k)
    → IsCollectedDown value lo hi max rows more → IsCollectedDown value' lo hi max rows more
down_same value value' lo hi max rows None same is =
    let all = is.0 in
    (record { rise = all.rise; inside = λ k from until. all.inside k from until ∙ sym (same k); below = all.below; above = all.above }, is.1)
down_same value value' lo hi max rows (Some more) same is =
    let all = is.gives in
    record {
      gives = record { rise = all.rise; inside = λ k from until. all.inside k from until ∙ sym (same k); below = all.below; above = all.above };
      from = is.from;
      until = is.until;
      there = (is.there.0, same more ∙ is.there.1);
      full = is.full;
    }

module _ (h : History) (s : ℕ) where
  abbrev here : ℕ → Option (List ℕ)
  here key = value h key s

  -- the rows of the keys from one on and below another
  rows_between : (lo more : ℕ) → lo ≤ more → (rows : List Pair) × AreRowsTo here lo more rows
  rows_between lo more le = elim (cases_lt lo more) [
    | inl lt ↦
        let range = is_range_of h s lo (more - 1) in
        let rows = between lo (more - 1) (map_of h s) in (
          rows,
          record {
            rise = range.rise;
            ends = each_below more rows (λ k from. range.above k (omega arith));
            inside = λ k from until. range.inside k from (omega arith);
            below = range.below;
            above = λ k from. range.above k (omega arith);
          },
        )
    | inr ge ↦ let same : lo ≡ more = omega arith in ([], subst (λ (end : ℕ). AreRowsTo here lo end []) same (rows_none here lo))
  ]

  all_to : (lo end : ℕ) (rows : List Pair) → AreRowsTo here lo (end + 1) rows → AreAll here lo end rows
  all_to lo end rows are = record {
    rise = are.rise;
    inside = λ k from until. are.inside k from (omega arith);
    below = are.below;
    above = λ k lt. are.above k (omega arith);
  }

  pub page_down : (lo hi max : ℕ) (rows : List Pair) (more : Option ℕ) → IsCollectedDown here lo hi max rows more → IsPageDown h s lo hi max rows more
  page_down lo hi max rows None is = record {
    all = reverse rows;
    range = range_of_all h s lo hi (reverse rows) is.0;
    page = record {
      front = sym (ap (take max) (reverse-reverse rows) ∙ take_all max rows is.1);
      next = sym (ap (λ (l : List Pair). first_key (drop max l)) (reverse-reverse rows) ∙ ap first_key (drop_all max rows is.1));
    };
  }
  page_down lo hi max rows (Some more) is =
      let lower = rows_between lo more is.from in
      let row : Pair = (more, is.there.0) in
      let upto = lower.0 ++ row ∷ [] in
      let all = upto ++ reverse rows in
      let turned : reverse all ≡ rows ++ row ∷ reverse lower.0 =
      reverse-append upto (reverse rows)
      ∙ (λ i. reverse-reverse rows i ++ reverse-append lower.0 (row ∷ []) i) in
      let high = is.until in
      let low = is.from in
      record {
        all = all;
        range = range_of_all h s lo hi all (all_joined here lo more hi upto (reverse rows) (omega arith) high
            (all_to lo more upto (rows_pushed here lo lower.0 row lower.1 low is.there.1)) is.gives);
        page = record {
          front = sym (ap (λ (n : ℕ). take n (reverse all)) is.full ∙ ap (take (length rows)) turned ∙ take-append_seam rows (row ∷ reverse lower.0));
          next = sym (ap (λ (n : ℕ). first_key (drop n (reverse all))) is.full ∙ ap (λ (l : List Pair). first_key (drop (length rows) l)) turned
              ∙ ap first_key (drop-append_seam rows (row ∷ reverse lower.0)));
        };
      }
