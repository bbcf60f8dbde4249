-- Pages downwards, at the words and of a seat.
use Rattle.std.specs.Prelude.{◌≡◌, ℕ, ◌≤◌, List, [], Option, reverse}
use Rattle.clsm_model.specs.History.{History, end_of}
use Rattle.clsm_model.specs.Map.{IsRange, Pair}
use Rattle.clsm_model.specs.Right.{IsPage, page_deed}
use Rattle.clsm_store_calls.specs.Scanning.{IsAtClock}
use Rattle.clsm_store_calls.specs.Seats.{Answers, SeatState, known_by}

-- the page of the greatest keys from `lo` to `hi` that have a value below the time: the first rows
-- of the whole range turned round, and the key of the next one
pub record IsPageDown (h : History) (s lo hi max : ℕ) (rows : List Pair) (more : Option ℕ) : Type 0 where
  pub all : List Pair
  pub range : IsRange h s lo hi all
  pub page : IsPage (reverse all) max rows more

-- The seat read this page below the time, up to which it knows all. It is recorded as a page of no
-- rows, which has the first of the range's keys
pub record ReadsDown (old new : SeatState) (t lo hi max : ℕ) (rows : List Pair) (more : Option ℕ) : Type 0 where
  pub first : Option ℕ
  pub answers : Answers old new t (page_deed lo hi 0 [] first)
  pub clock : IsAtClock old new t
  pub reached : t ≤ end_of (known_by new)
  pub page : IsPageDown (known_by new) t lo hi max rows more
