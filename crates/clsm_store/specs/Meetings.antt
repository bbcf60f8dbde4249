-- What meetings make of seats.
use Rattle.std.specs.Prelude.{◌≡◌, ℕ, ◌+◌, ◌≤◌, List, length, Some}
use Rattle.std.specs.List.{All}
use Rattle.clsm_model.specs.History.{History, IsBeginning, end_of}
use Rattle.clsm_words.specs.Knowing.{Agrees}
use Rattle.clsm_words.specs.Seats.{MessageState}
use Rattle.clsm_store.specs.Headline.{IsAt}
use Rattle.clsm_store_calls.specs.Seats.{IsLawfulAlone, IsSameSeat, SeatState, StoreId, known_by}
use Rattle.clsm_store_calls.specs.Tally.{TakesNoLock}

-- the seat read with no record, at the time that is its due from then on, which is the clock as it
-- looked at it then: the same calls and snapshot, and no lock taken; the time is not below its old
-- due, and the seat knows all below it
pub record IsUnrecorded (old new : SeatState) : Type 0 where
  pub same : IsSameSeat old new
  pub calls : new.calls ≡ old.calls
  pub snapshot : new.snapshot ≡ old.snapshot
  pub unlocked : TakesNoLock old.tally new.tally
  pub read : new.clock ≡ Some new.due
  pub above : old.due ≤ new.due
  pub reaches : new.due ≤ end_of (known_by new)

-- the time at which it did so is not below t
pub record Meets (t : ℕ) (old new : SeatState) : Type 0 where
  pub read : IsUnrecorded old new
  pub due : t ≤ new.due

-- the beginning of the history that the message carries
abbrev pub told_by : MessageState → History
told_by m = record { slots = m.told; batches = m.batches }

-- it took the message in and read at t: it knows what it was told, and t is not below the due in
-- the message
pub record Follows (message : MessageState) (t : ℕ) (old new : SeatState) : Type 0 where
  pub read : IsUnrecorded old new
  pub due : new.due ≡ t
  pub above_told : message.heard ≤ t
  pub has_told : IsBeginning (told_by message) (known_by new)

-- the same seats in the same order, each of which read at a time that is its new due and is not
-- below any old due
pub record AreMet (old new : List SeatState) : Type 0 where
  pub count : length new ≡ length old
  pub each : (i j : ℕ) (s s' other : SeatState) → IsAt old i s → IsAt new i s' → IsAt old j other → Meets other.due s s'

-- ---- how seats settle: each follows the one before it, so that the last one knows all

-- the seats are of this store
abbrev pub AreOf : StoreId → List SeatState → Type 0
AreOf store seats = All (λ s. s.store ≡ store) seats

-- no due is above t
abbrev pub AreDueBelow : ℕ → List SeatState → Type 0
AreDueBelow t seats = (i : ℕ) (s : SeatState) → IsAt seats i s → s.due ≤ t

-- each met at t or later
pub record AreMetAt (t : ℕ) (old new : List SeatState) : Type 0 where
  pub count : length new ≡ length old
  pub each : (i : ℕ) (s s' : SeatState) → IsAt old i s → IsAt new i s' → Meets t s s'

abbrev pub IsLast : List SeatState → SeatState → Type 0
IsLast seats s = (i : ℕ) × (i + 1 ≡ length seats) × IsAt seats i s

-- each knows what those before it in the list know, and no due of theirs is above its own
abbrev pub AreChained : List SeatState → Type 0
AreChained seats = (i j : ℕ) (s s' : SeatState) → i ≤ j → IsAt seats i s → IsAt seats j s' → (s.due ≤ s'.due) × IsBeginning (known_by s) (known_by s')

-- the seat is lawful, and its calls agree with this history
pub record IsConfirmedBy (h : History) (s : SeatState) : Type 0 where
  pub lawful : IsLawfulAlone s
  pub agrees : Agrees s.store.layout.seats s.number s.calls h

-- each seat is confirmed by what the last seat knows
abbrev pub AreConfirmed : List SeatState → Type 0
AreConfirmed seats = (i : ℕ) (s last : SeatState) → IsAt seats i s → IsLast seats last → IsConfirmedBy (known_by last) s
