-- What a cursor may read, and what it has read.
use Rattle.std.specs.Prelude.{◌≡◌, ◌≤◌, ℕ, Option}
use Rattle.clsm_levels.specs.declared.entry.Entry.{Entry}
use Rattle.clsm_words.specs.declared.known.Known.{Known}
use Rattle.clsm_words.specs.declared.words.WordTable.{WordTable}
use Rattle.clsm_words.specs.Keeping.{LooksAside}
use Rattle.clsm_words.specs.Plays.{IsSeatOf}
use Rattle.clsm_words.specs.Seats.{RawState}

-- the cursor is over what the seat holds, and stands at this key
pub record MayReadFrom {C : Type 0} (IsOver : Known → C → Type 0) (StandsAt : Known → C → ℕ → Type 0) (words : WordTable) (seat : RawState) (cursor : C)
    (from : ℕ) : Type 0 where
  pub of : IsSeatOf words seat
  pub over : IsOver seat.knows cursor
  pub stands : StandsAt seat.knows cursor from

-- by looks it came to stand at this key: it is over what it was over, and finds what it found from
-- there on
pub record HasReadTo {C : Type 0} (IsOver : Known → C → Type 0) (found : Known → C → ℕ → Option Entry) (StandsAt : Known → C → ℕ → Type 0)
    (words : WordTable) (first seat : RawState) (begun cursor : C) (from : ℕ) : Type 0 where
  pub of : IsSeatOf words seat
  pub looks : LooksAside first.knows seat.knows
  pub over : IsOver seat.knows cursor
  pub same : (key : ℕ) → from ≤ key → found seat.knows cursor key ≡ found first.knows begun key
  pub stands : StandsAt seat.knows cursor from
