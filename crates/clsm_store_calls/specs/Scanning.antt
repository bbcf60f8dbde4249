-- Scans, pages and counts at the words.
use Rattle.std.specs.List.{FoldsTo}
use Rattle.std.specs.Prelude.{◌≡◌, ℕ, ◌≤◌, [], List, length, Option, Some, None}
use Rattle.clsm_model.specs.declared.record.Deed.{Deed}
use Rattle.clsm_model.specs.declared.record.Deed.TheVariants.{Get, Scan}
use Rattle.clsm_model.specs.History.{History, end_of}
use Rattle.clsm_model.specs.Map.{IsRange, Pair}
use Rattle.clsm_model.specs.Right.{page_deed}
use Rattle.clsm_words.specs.declared.known.Known.{Known}
use Rattle.clsm_store_calls.specs.Seats.{Answers, SeatState, known_by}
use Rattle.clsm_store_calls.specs.Resting.{GoesOn}
use Rattle.clsm_store_calls.specs.Tally.{TakesNoLock, tally_of}

-- the deed of a read that collected these rows: all of the range, or so many of the first, and the
-- key of the next one
abbrev pub rows_deed : Option ℕ → ℕ → ℕ → List Pair → Option ℕ → Deed
rows_deed None lo hi rows more = Scan lo hi rows
rows_deed (Some most) lo hi rows more = page_deed lo hi most rows more

-- where no snapshot is open, the time is the clock as the seat looked at it last
abbrev pub IsAtClock : SeatState → SeatState → ℕ → Type 0
IsAtClock old new t = old.snapshot ≡ None → new.clock ≡ Some t

-- the read was given up: nothing is recorded
pub record GivesUpRead (old new : Known) : Type 0 where
  pub goes_on : GoesOn old new
  pub calls : new.view.calls ≡ old.view.calls
  pub due : new.view.due ≡ old.view.due
  pub unlocked : TakesNoLock (tally_of old) (tally_of new)

-- ---- visits

-- so many keys from `lo` to `hi` have a value below the time: as many as there are rows of them
pub record IsKeyCount (h : History) (s lo hi n : ℕ) : Type 0 where
  pub rows : List Pair
  pub all : IsRange h s lo hi rows
  pub counted : n ≡ length rows

-- and a visitor took their rows, by rising key
pub record IsKeyVisit {V : Type 0} (Takes : V → Pair → V → Type 0) (h : History) (s lo hi n : ℕ) (before after : V) : Type 0 where
  pub count : IsKeyCount h s lo hi n
  pub taken : FoldsTo Takes before count.rows after

-- The seat counted the keys below the time, up to which it knows all. It is recorded as a page of
-- no rows, which has the first of the keys
pub record CountsKeys (old new : SeatState) (t lo hi n : ℕ) (first : Option ℕ) : Type 0 where
  pub answers : Answers old new t (page_deed lo hi 0 [] first)
  pub clock : IsAtClock old new t
  pub reached : t ≤ end_of (known_by new)
  pub counts : IsKeyCount (known_by new) t lo hi n

-- The seat visited the keys below the time, up to which it knows all: by calls with their rows, one
-- with each, by rising key, and no other call, the function went from one state to the other. It is
-- recorded as a page of no rows, which has the first of the keys
pub record VisitsKeys {F : Type 0} (Calls : F → Pair → F → Type 0) (old new : SeatState) (t lo hi n : ℕ) (first : Option ℕ) (before after : F) : Type 0 where
  pub answers : Answers old new t (page_deed lo hi 0 [] first)
  pub clock : IsAtClock old new t
  pub reached : t ≤ end_of (known_by new)
  pub visits : IsKeyVisit Calls (known_by new) t lo hi n before after

-- ---- scans of the present

-- The rows are all pairs of the range below the time, up to which the seat knows all, and which is
-- the clock as it looked at it last. The scan is recorded as a read of the first key of the range,
-- at its own time, whether or not a snapshot is open
pub record ScansNow (old new : SeatState) (t lo hi : ℕ) (rows : List Pair) : Type 0 where
  pub reply : Option (List ℕ)
  pub answers : Answers old new t (Get lo reply)
  pub clock : new.clock ≡ Some t
  pub reached : t ≤ end_of (known_by new)
  pub range : IsRange (known_by new) t lo hi rows
