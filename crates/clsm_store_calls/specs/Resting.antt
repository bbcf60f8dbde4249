-- A seat at the words between two calls, and what parts of a call leave of it.
use Rattle.std.specs.Prelude.{◌≡◌, ℕ, ◌+◌, ◌≤◌, ◌++◌, ◌∷◌, [], Bool, List, Option, false, true, Some, None}
use Rattle.clsm_model.specs.History.{IsBeginning}
use Rattle.clsm_model.specs.declared.record.Deed.{Deed}
use Rattle.clsm_model.specs.declared.record.Deed.TheVariants.{Put, Remove}
use Rattle.clsm_law.specs.declared.view.Mode.TheVariants.{Free, Shared}
use Rattle.clsm_law.specs.declared.view.SnapshotState.{SnapshotState}
use Rattle.clsm_law.specs.declared.view.SnapshotState.TheVariants.{Absent, Open}
use Rattle.clsm_law.specs.declared.view.View.{View}
use Rattle.clsm_law.specs.OpenSteps.{open_time}
use Rattle.clsm_law.specs.Relation.{call_of}
use Rattle.clsm_words.specs.declared.known.Known.{Known}
use Rattle.clsm_words.specs.Knowing.{known_of}
use Rattle.clsm_words.specs.declared.words.WordTable.{WordTable}
use Rattle.clsm_words.specs.Plays.{IsSeatOf}
use Rattle.clsm_words.specs.Seats.{RawState as RawState}
use Rattle.clsm_store_calls.specs.Seats.{SeatState, StoreId}
use Rattle.clsm_store_calls.specs.Tally.{counted}
use Rattle.clsm_store_calls.specs.declared.writing.Attempt.{Attempt}
use Rattle.clsm_store_calls.specs.declared.writing.Attempt.TheVariants.{Written, Full}

-- what contracts see of a seat at the words that has this view
abbrev pub seat_with : RawState → View → SeatState
seat_with s v = record {
  store = record { table = s.table; layout = s.knows.layout };
  number = s.knows.number;
  past = s.knows.past;
  batches = s.knows.batches;
  calls = v.calls;
  due = v.due;
  snapshot = open_time v.snapshot;
  tally = counted v;
  clock = v.clock;
}

-- what contracts see of a seat at the words
abbrev pub seat_of : RawState → SeatState
seat_of s = seat_with s s.knows.view

-- the store that has these words
abbrev pub store_of : WordTable → StoreId
store_of words = record { table = words.table.shared.table_id; layout = words.layout }

-- no snapshot, or an open one
abbrev pub IsSettled : SnapshotState → Type 0
IsSettled Absent = Unit {0}
IsSettled (Open noted time) = Unit {0}
IsSettled _ = ⊥

-- it holds nothing, has drawn nothing, and has no look at the lock left over
pub record IsAtRest (k : Known) : Type 0 where
  pub free : k.view.mode ≡ Free
  pub unlooked : k.view.fresh_lock ≡ None
  pub undrawn : k.view.drawn ≡ None
  pub unpinned : k.view.pinned ≡ false
  pub settled : IsSettled k.view.snapshot

-- the seat is one of these words, and at rest; this is the word of its pin
pub record RestsAt (words : WordTable) (seat : RawState) (pin_word : ℕ) : Type 0 where
  pub of : IsSeatOf words seat
  pub rests : IsAtRest seat.knows
  pub pin : pin_word ≡ seat.knows.view.pin

-- it holds the lock, and has drawn nothing
pub record IsInHold (k : Known) : Type 0 where
  pub shared : k.view.mode ≡ Shared
  pub undrawn : k.view.drawn ≡ None
  pub unpinned : k.view.pinned ≡ false
  pub settled : IsSettled k.view.snapshot

-- it is the seat that it was, with the snapshot that it had, and its past only grew
pub record GoesOn (old new : Known) : Type 0 where
  pub number : new.number ≡ old.number
  pub layout : new.layout ≡ old.layout
  pub past : IsBeginning (known_of old) (known_of new)
  pub snapshot : new.view.snapshot ≡ old.view.snapshot

-- and it read nothing meanwhile: its pin stayed too
pub record Keeps (old new : Known) : Type 0 where
  pub number : new.number ≡ old.number
  pub layout : new.layout ≡ old.layout
  pub past : IsBeginning (known_of old) (known_of new)
  pub pin : new.view.pin ≡ old.view.pin
  pub snapshot : new.view.snapshot ≡ old.view.snapshot

-- it only looked, and learned of no time more
pub record OnlyLooks (old new : Known) : Type 0 where
  pub number : new.number ≡ old.number
  pub layout : new.layout ≡ old.layout
  pub past : new.past ≡ old.past
  pub batches : new.batches ≡ old.batches
  pub pin : new.view.pin ≡ old.view.pin
  pub snapshot : new.view.snapshot ≡ old.view.snapshot
  pub calls : new.view.calls ≡ old.view.calls
  pub due : new.view.due ≡ old.view.due

-- no call was made
pub record Still (old new : Known) : Type 0 where
  pub keeps : Keeps old new
  pub calls : new.view.calls ≡ old.view.calls
  pub due : new.view.due ≡ old.view.due

-- the write that the deed is stands at the time, and is recorded
pub record Records (old new : Known) (t : ℕ) (deed : Deed) : Type 0 where
  pub keeps : Keeps old new
  pub calls : new.view.calls ≡ old.view.calls ++ call_of old.number t deed ∷ []
  pub due : new.view.due ≡ t + 1
  pub above : old.view.due ≤ t

-- in its hold of the lock the seat found the clock at the limit, which is this time
pub record FindsFull (old new : Known) (t : ℕ) : Type 0 where
  pub still : Still old new
  pub limit : new.view.hold_limit ≡ Some t
  pub clock : new.view.hold_clock ≡ Some t

-- the write of the value at the key, or its removal
abbrev pub deed_of : ℕ → Option (List ℕ) → Deed
deed_of key None = Remove key
deed_of key (Some words) = Put key words

-- ---- tries in a hold

-- what came of tries to write: the write at its time, a clock at the limit, or nothing
abbrev pub Tries : Known → Known → Deed → Attempt → Type 0
Tries old new deed (Written t) = Records old new t deed
Tries old new deed (Full t) = FindsFull old new t
Tries old new deed _ = Still old new

-- the write was made, or is refused for good
abbrev pub is_answer : Attempt → Bool
is_answer (Written t) = true
is_answer (Full t) = true
is_answer _ = false
