-- Pages one after another.
use Rattle.std.specs.Prelude.{◌≡◌, ℕ, max, Option, Some, None}
use Rattle.clsm_model.specs.Right.{page_deed}
use Rattle.clsm_store_calls.specs.declared.got.Page.{Page}
use Rattle.clsm_store_calls.specs.Scanning.{IsAtClock}
use Rattle.clsm_store_calls.specs.Seats.{Answers, SeatState}
use Rattle.clsm_store.specs.declared.pages.Pages.{Pages}

-- a page of no pairs would not go on
abbrev pub at_least_one : ℕ → ℕ
at_least_one n = max n 1

-- the page was answered that begins where the pages stood, and they stand behind it
pub record ReadsPage (old new : SeatState) (before after : Pages) (page : Page) : Type 0 where
  pub from : ℕ
  pub stood : before.next ≡ Some from
  pub answers : Answers old new page.time (page_deed from before.hi before.max page.rows page.more)
  pub clock : IsAtClock old new page.time
  pub stands : after ≡ record before { next = page.more }

-- so was the next page; or there was none, and nothing was done
abbrev pub ReadsNext : SeatState → SeatState → Pages → Pages → Option Page → Type 0
ReadsNext old new before after (Some page) = ReadsPage old new before after page
ReadsNext old new before after None = (before.next ≡ None) × (new ≡ old) × (after ≡ before)
