-- What contracts see of a store and its seats, and what calls make of a seat.
use Rattle.std.specs.Prelude.{◌≡◌, ℕ, ◌<◌, ◌≤◌, ◌==◌, ◌&&◌, not, Bool, false, List, [], ◌∷◌, ◌++◌, length, drop, take, replicate, slice_index_or, Option, Some}
use Rattle.std.specs.Prelude.{None}
use Rattle.std.specs.Fn.{iterate}
use Rattle.std.specs.List.{AllByRecursion, count_by}
use Rattle.atomic_table.specs.Seated.{TableId}
use Rattle.clsm_model.specs.declared.batch.Batch.{Batch}
use Rattle.clsm_model.specs.declared.slot.Slot.{Slot}
use Rattle.clsm_model.specs.declared.slot.Slot.TheVariants.{Nothing, Wrote}
use Rattle.clsm_model.specs.declared.record.Deed.{Deed}
use Rattle.clsm_model.specs.declared.record.CallRecord.{CallRecord}
use Rattle.clsm_model.specs.History.{AreInTurn, History, IsBeginning, plain}
use Rattle.clsm_model.specs.declared.config.Config.{Config}
use Rattle.clsm_levels.specs.declared.entry.Entry.{Entry}
use Rattle.clsm_law.specs.declared.layout.Layout.{Layout}
use Rattle.clsm_law.specs.declared.merger.Reader.{Reader}
use Rattle.clsm_law.specs.Layout.{HasSizesOf}
use Rattle.clsm_law.specs.Views.{next_word}
use Rattle.clsm_law.specs.Merging.{unseen}
use Rattle.clsm_law.specs.Relation.{call_of}
use Rattle.clsm_model.specs.Seats.{FitsRecord, IsNext, IsRightRecord, IsRising, due_after, open_after}
use Rattle.clsm_words.specs.Knowing.{Agrees}
use Rattle.clsm_store_calls.specs.Tally.{Tally}

-- which store it is, and its sizes
pub record StoreId : Type 0 where
  pub table : TableId
  pub layout : Layout

-- its sizes are those asked for
abbrev pub HasSizes : StoreId → Config → Type 0
HasSizes store config = HasSizesOf store.layout config

-- a seat: its store, its number, the beginning of the history that it knows, its slots and its
-- batches, its records in order, the time below which it answers no more, the time of its open
-- snapshot, what it counts, and the clock as it looked at it last
pub record SeatState : Type 0 where
  pub store : StoreId
  pub number : ℕ
  pub past : List Slot
  pub batches : List Batch
  pub calls : List CallRecord
  pub due : ℕ
  pub snapshot : Option ℕ
  pub tally : Tally
  pub clock : Option ℕ

-- the history as far as the seat knows it
abbrev pub known_by : SeatState → History
known_by s = record { slots = s.past; batches = s.batches }

-- the seat with this number, which did nothing yet
abbrev pub newcomer : StoreId → ℕ → SeatState
newcomer store number = record {
  store = store;
  number = number;
  past = [];
  batches = [];
  calls = [];
  due = 0;
  snapshot = None;
  tally = record {
    entries = 0;
    busy = 0;
    raced = 0;
    overtaken = 0;
    gave_up = 0;
    cancelled = 0;
    hasty = 0;
    clock_looks = 0;
    limit_looks = 0;
    limit = None;
    first = None;
    clock = None;
  };
  clock = None;
}

-- the seats of the store in order, none of which did anything
pub record AreNew (store : StoreId) (count : ℕ) (seats : List SeatState) : Type 0 where
  pub counted : length seats ≡ count
  pub each : (i : ℕ) → i < length seats → slice_index_or seats i (newcomer store i) ≡ newcomer store i

-- the merger: its store, the number of merges, how often it held the lock, and how often it tried
-- that and found it held; how often it looked at the clock while nothing was frozen and it did not
-- hold the lock, and what the last of these looks found, or 0. The counts are modulo 2^64
pub record MergerState : Type 0 where
  pub store : StoreId
  pub merges : ℕ
  pub holds : ℕ
  pub busy : ℕ
  pub polls : ℕ
  pub polled : ℕ

-- and, while nothing is frozen, the floor of the last try to merge, how many rounds of looks at all
-- snapshot words it made, modulo 2^64, and what was noted of each seat since the last merge
pub record CleanState : Type 0 where
  pub merger : MergerState
  pub floor : ℕ
  pub rounds : ℕ
  pub readers : List Reader

-- and, while an epoch is frozen, the floor and the rounds, the least time that the last round found
-- noted, the epoch's writes, the newest first, and the runs in the order in which they are searched
pub record FrozenState : Type 0 where
  pub merger : MergerState
  pub floor : ℕ
  pub rounds : ℕ
  pub noted : Option ℕ
  pub epoch : List Entry
  pub runs : List (List Entry)

-- and, while a component is retired, the floor of the merge that retired it, the rounds, the least
-- time that its round found noted, and what was noted of each seat since
pub record RetiredState : Type 0 where
  pub merger : MergerState
  pub floor : ℕ
  pub rounds : ℕ
  pub noted : Option ℕ
  pub readers : List Reader

-- the store's merger, which did nothing yet
abbrev pub IsNewMerger : StoreId → CleanState → Type 0
IsNewMerger store new = new ≡ record {
  merger = record { store = store; merges = 0; holds = 0; busy = 0; polls = 0; polled = 0 };
  floor = 0;
  rounds = 0;
  readers = replicate store.layout.seats unseen;
}

-- ---- what holds of every seat

-- The seat is lawful in the history h: its past is a beginning of h; each of its writes stands in h
-- and each write in h with its number is one of its records, as far as h reaches; what it read is
-- right; each batch that it recorded fits an epoch; and its records' times rise to its due
pub record IsLawfulIn (h : History) (s : SeatState) : Type 0 where
  pub begins : IsBeginning (known_by s) h
  pub agrees : Agrees s.store.layout.seats s.number s.calls h
  pub right : AllByRecursion (IsRightRecord (plain h.slots)) s.calls
  pub fits : AllByRecursion (FitsRecord s.store.layout.cells) s.calls
  pub rising : IsRising s.calls s.due s.snapshot

-- it is lawful in as much of the history as it knows itself, in which the batches don't overlap,
-- and none ends beyond it
abbrev pub IsLawfulAlone : SeatState → Type 0
IsLawfulAlone s = IsLawfulIn (known_by s) s × AreInTurn 0 s.batches (length s.past)

-- ---- what calls make of a seat

-- it is the same seat, and forgot nothing
pub record IsSameSeat (old new : SeatState) : Type 0 where
  pub store : new.store ≡ old.store
  pub number : new.number ≡ old.number
  pub longer : IsBeginning (known_by old) (known_by new)

-- The call was answered: one record more, at a time that may come next, and the due and the open
-- snapshot as it leaves them
pub record Answers (old new : SeatState) (t : ℕ) (deed : Deed) : Type 0 where
  pub same : IsSameSeat old new
  pub next : IsNext old.due old.snapshot t deed
  pub calls : new.calls ≡ old.calls ++ call_of old.number t deed ∷ []
  pub due : new.due ≡ due_after old.due old.snapshot t deed
  pub snapshot : new.snapshot ≡ open_after old.snapshot t deed

-- the call was refused: no record, and due and snapshot as before
pub record Refuses (old new : SeatState) : Type 0 where
  pub same : IsSameSeat old new
  pub calls : new.calls ≡ old.calls
  pub due : new.due ≡ old.due
  pub snapshot : new.snapshot ≡ old.snapshot

-- in the one hold of the lock of this call, the clock was found at the limit, which is this time
pub record IsFull (old new : SeatState) (t : ℕ) : Type 0 where
  pub refused : Refuses old new
  pub entered : new.tally.entries ≡ next_word old.tally.entries
  pub limit : new.tally.limit ≡ Some t
  pub clock : new.tally.clock ≡ Some t

-- ---- times that a read-modify-write gives up

-- the slot is a write of the key by another seat than this one
abbrev pub is_write_beside : ℕ → ℕ → Slot → Bool
is_write_beside number key Nothing = false
is_write_beside number key (Wrote seat k written) = k == key && not (seat == number)

-- how many writes of the key by other seats stand at the first time or above it, and below the last
abbrev pub writes_beside : List Slot → ℕ → ℕ → ℕ → ℕ → ℕ
writes_beside slots number key first last = count_by (is_write_beside number key) (drop first (take last slots))

-- a count went up, modulo 2^64, as many times as this or fewer
pub record CountsUpTo (most old new : ℕ) : Type 0 where
  pub times : ℕ
  pub counted : new ≡ iterate next_word times old
  pub within : times ≤ most

-- The call gave up at most one time for each write of the key by another seat that stands at or
-- above the time of the call's first read, and below this time, its record's own. The first read is
-- at the clock as the call looked at it first in its hold of the lock: not below the due, and above
-- all that the seat knew before
pub record GivesUpForWrites (old new : SeatState) (key last : ℕ) : Type 0 where
  pub first : ℕ
  pub looked : new.tally.first ≡ Some first
  pub due : old.due ≤ first
  pub known : length old.past ≤ first
  pub reached : first ≤ length new.past
  pub until : first ≤ last
  pub counts : CountsUpTo (writes_beside new.past old.number key first last) old.tally.gave_up new.tally.gave_up
