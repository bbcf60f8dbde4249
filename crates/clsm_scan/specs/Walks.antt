-- What a walk along an epoch or a run finds, where it stands, and what looks leave of it.
use Rattle.std.specs.Prelude.{◌≡◌, ℕ, ◌≤◌, Option}
use Rattle.clsm_levels.specs.declared.entry.Entry.{Entry}
use Rattle.clsm_levels.specs.Entry.{first_below}
use Rattle.clsm_words.specs.declared.known.Known.{Known}
use Rattle.clsm_words.specs.Keeping.{LooksAside}
use Rattle.clsm_search.specs.Ordering.{MayWalk, StandsAt, found_in_epoch}
use Rattle.clsm_search.proofs.Orders.{walk_on}
use Rattle.clsm_runs.specs.Passing.{IsPassageFrom, IsPassed, passed_entry}
use Rattle.clsm_runs.specs.Searching.{IsSearchable, run_at}
use Rattle.clsm_runs.proofs.Standing.{passage_later, passage_stays}
use Rattle.clsm_scan.specs.declared.any_walk.AnyWalk.{AnyWalk}
use Rattle.clsm_scan.specs.declared.any_walk.AnyWalk.TheVariants.{AlongEpoch, AlongRun}
use Rattle.clsm_scan.specs.Optional.{If, if_so}
use Rattle.clsm_scan.specs.Walking.{IsWriteAt, found_in_run_on, found_on, passed_on, passed_same, run_on, spot_entry, spot_same, stands_later, stands_on}
use Rattle.clsm_scan.specs.Walking.{write_on}

-- the newest write of the key below the walk's time
abbrev pub any_found : Known → AnyWalk → ℕ → Option Entry
any_found k (AlongEpoch w) key = found_in_epoch k w.epoch key
any_found k (AlongRun w) key = first_below (run_at k w.run.place) key w.until

-- the walk is along an epoch or a run that the seat may go along
abbrev pub any_over : Known → AnyWalk → Type 0
any_over k (AlongEpoch w) = MayWalk k w.epoch × If (IsWriteAt k w.epoch) w.last
any_over k (AlongRun w) = IsSearchable k w.run.component w.run.place × If (IsPassed k w.run.component w.run.place) w.last

-- no write with a key from this one on is behind it
abbrev pub any_stands : Known → AnyWalk → ℕ → Type 0
any_stands k (AlongEpoch w) from = StandsAt k w.epoch from w.stand.ahead
any_stands k (AlongRun w) from = IsPassageFrom k w.run w.until from w.passage

-- the write that it came by last
abbrev pub any_last : Known → AnyWalk → Option Entry
any_last k (AlongEpoch w) = spot_entry k w.epoch w.last
any_last k (AlongRun w) = passed_entry k w.run.place w.last

-- ---- looks leave all of it

pub any_over_stays : (k k' : Known) (w : AnyWalk) → LooksAside k k' → any_over k w → any_over k' w
any_over_stays k k' (AlongEpoch w) looks over = (
  walk_on k k' w.epoch looks.looks over.0,
  if_so (IsWriteAt k w.epoch) (IsWriteAt k' w.epoch) w.last (λ spot. write_on k k' w.epoch spot looks.looks over.0) over.1,
)
any_over_stays k k' (AlongRun w) looks over = (
  run_on k k' w.run.component w.run.place looks.looks over.0,
  if_so (IsPassed k w.run.component w.run.place) (IsPassed k' w.run.component w.run.place) w.last
      (λ passed. passed_on k k' w.run.component w.run.place passed looks.looks) over.1,
)

pub any_found_stays : (k k' : Known) (w : AnyWalk) → LooksAside k k' → any_over k w → (key : ℕ) → any_found k' w key ≡ any_found k w key
any_found_stays k k' (AlongEpoch w) looks over key = found_on k k' w.epoch looks.looks key
any_found_stays k k' (AlongRun w) looks over key = found_in_run_on k k' w.run.component w.run.place w.until looks.looks over.0 key

pub any_stands_stays : (k k' : Known) (w : AnyWalk) (from : ℕ) → LooksAside k k' → any_over k w → any_stands k w from → any_stands k' w from
any_stands_stays k k' (AlongEpoch w) from looks over stands = stands_on k k' w.epoch from w.stand.ahead looks.looks over.0 stands
any_stands_stays k k' (AlongRun w) from looks over stands = passage_stays k k' w.run w.until from w.passage looks.looks over.0 stands

pub any_stands_later : (k : Known) (w : AnyWalk) (from later : ℕ) → from ≤ later → any_stands k w from → any_stands k w later
any_stands_later k (AlongEpoch w) from later le stands = stands_later k w.epoch from later w.stand.ahead le stands
any_stands_later k (AlongRun w) from later le stands = passage_later k w.run w.until from later w.passage le stands

pub any_last_stays : (k k' : Known) (w : AnyWalk) → LooksAside k k' → any_over k w → any_last k' w ≡ any_last k w
any_last_stays k k' (AlongEpoch w) looks over = spot_same k k' w.epoch w.last looks.looks
any_last_stays k k' (AlongRun w) looks over = passed_same k k' w.run.component w.run.place w.last looks.looks over.0
