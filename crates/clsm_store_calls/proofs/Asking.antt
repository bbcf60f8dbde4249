-- The rows that were collected are what their record says.
use Rattle.std.proofs.Common.{◌≡◌, ℕ, List, length, Option, Some, None}
use Rattle.clsm_model.specs.History.{History, value}
use Rattle.clsm_model.specs.Map.{IsRange, Pair}
use Rattle.clsm_model.specs.Right.{Reads}
use Rattle.clsm_model.proofs.Pages.{page_of, page_of_all}
use Rattle.clsm_scan.specs.Collected.{AreAll, IsCollected}
use Rattle.clsm_store_calls.specs.Scanning.{rows_deed}

same_number : (m n : ℕ) → Some m ≡ Some n → n ≡ m
same_number m n e = cc e

module _ (h : History) (s : ℕ) where
  abbrev here : ℕ → Option (List ℕ)
  here key = value h key s

  pub range_of_all : (lo hi : ℕ) (rows : List Pair) → AreAll here lo hi rows → IsRange h s lo hi rows
  range_of_all lo hi rows all = record { rise = all.rise; inside = all.inside; below = all.below; above = all.above }

  pub reads_rows : (most : Option ℕ) (lo hi : ℕ) (rows : List Pair) (more : Option ℕ) → IsCollected here lo hi most rows more
      → Reads h s (rows_deed most lo hi rows more)
  reads_rows None lo hi rows None is = range_of_all lo hi rows is.0
  reads_rows None lo hi rows (Some key) is = absurd (cc is.full)
  reads_rows (Some most) lo hi rows None is = page_of_all h s lo hi rows most (range_of_all lo hi rows is.0) is.1
  reads_rows (Some most) lo hi rows (Some key) is =
      let gives = is.gives in
      let full : Some most ≡ Some (length rows) = is.full in
      page_of h s lo hi key is.there.0 rows most (same_number most (length rows) full) gives.rise gives.inside gives.below gives.above is.from is.until
      is.there.1
