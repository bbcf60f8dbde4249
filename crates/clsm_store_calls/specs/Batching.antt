-- A batch at the words: its members, staged one after another in a hold of the lock alone, and its
-- record.
use Rattle.std.specs.Prelude.{◌≡◌, ◌≢◌, ℕ, ◌+◌, ◌^◌, ◌<◌, ◌≤◌, ◌++◌, ◌∷◌, [], List, length, false, Result, Ok, Err, Some, None}
use Rattle.clsm_model.specs.declared.record.Deed.TheVariants.{Batch as Group}
use Rattle.clsm_model.specs.Right.{AreWrites, Member}
use Rattle.clsm_model.specs.Seats.{FitsDeed}
use Rattle.clsm_law.specs.declared.view.View.{View}
use Rattle.clsm_law.specs.declared.view.Mode.TheVariants.{Exclusive}
use Rattle.clsm_law.specs.Views.{next_word}
use Rattle.clsm_law.specs.Relation.{call_of}
use Rattle.clsm_words.specs.declared.known.Known.{Known}
use Rattle.clsm_words.specs.Keeping.{KeepsSeat}
use Rattle.clsm_lock.specs.Keeping.{StaysOut}
use Rattle.clsm_store_calls.specs.declared.refusal.BatchError.{BatchError}
use Rattle.clsm_store_calls.specs.declared.refusal.BatchError.TheVariants.{Full, TooLong, Empty, Keep}
use Rattle.clsm_store_calls.specs.declared.refusal.TryBatchError.{TryBatchError}
use Rattle.clsm_store_calls.specs.declared.refusal.TryBatchError.TheVariants.{Busy, Refused}
use Rattle.clsm_store_calls.specs.Seats.{Refuses, SeatState}
use Rattle.clsm_store_calls.specs.Resting.{IsSettled, Keeps, Still}
use Rattle.clsm_store_calls.specs.Tally.{Tally, looked, tally_of}

-- ---- the hold

-- it holds the lock alone, has drawn nothing, and has staged nothing that it has not committed
pub record IsAlone (k : Known) : Type 0 where
  pub exclusive : k.view.mode ≡ Exclusive
  pub undrawn : k.view.drawn ≡ None
  pub unstaged : k.view.staged ≡ []
  pub unpinned : k.view.pinned ≡ false
  pub settled : IsSettled k.view.snapshot

-- it may stage members from this time on, as many as are left of the batch: none was committed in
-- this hold, and all their times are below the limit that it looked at
pub record MayStage (k : Known) (time left : ℕ) : Type 0 where
  pub exclusive : k.view.mode ≡ Exclusive
  pub undrawn : k.view.drawn ≡ None
  pub uncommitted : k.view.committed ≡ false
  pub first : ℕ
  pub noted : k.view.hold_clock ≡ Some first
  pub next : time ≡ first + length k.view.staged
  pub limit : ℕ
  pub looked : k.view.hold_limit ≡ Some limit
  pub room : time + left ≤ limit
  pub small : limit < 2 ^ 64

-- the view v with these members staged; what a write changes of a view beside that is as in w
abbrev pub with_staged : View → View → List Member → View
with_staged v w members = record v {
  staged = members;
  drawn = None;
  key = w.key;
  length = w.length;
  words = w.words;
  next = w.next;
  linked = w.linked;
  order_next = w.order_next;
  inserted = w.inserted;
  fresh_link = w.fresh_link;
  fresh_clock = w.fresh_clock;
  fresh_heads = w.fresh_heads;
  reached = w.reached;
  waited = w.waited;
  met = w.met;
  low = w.low;
  high = w.high;
}

-- it staged these members, behind those before: nothing is recorded
pub record StagesAll (old new : Known) (members : List Member) : Type 0 where
  pub seat : KeepsSeat old new
  pub view : new.view ≡ with_staged old.view new.view (old.view.staged ++ members)

-- ---- the call

-- the members are recorded as one batch at the time, which is its first one; the due is behind the
-- last one
pub record RecordsBatch (old new : Known) (t : ℕ) (members : List Member) : Type 0 where
  pub keeps : Keeps old new
  pub calls : new.view.calls ≡ old.view.calls ++ call_of old.number t (Group members) ∷ []
  pub due : new.view.due ≡ t + length members
  pub above : old.view.due ≤ t

-- in its last hold of the lock the seat looked at the limit and at the clock, which stood at the
-- time, and so many members fit between them
pub record HasRoom (tally : Tally) (t members : ℕ) : Type 0 where
  pub clock : tally.clock ≡ Some t
  pub limit : ℕ
  pub looked : tally.limit ≡ Some limit
  pub room : t + members ≤ limit

-- the members fit an epoch, and are recorded as one batch at the time, from which on there was room
-- for them
pub record WritesAll (old new : Known) (members : List Member) (t : ℕ) : Type 0 where
  pub fits : FitsDeed old.layout.cells (Group members)
  pub records : RecordsBatch old new t members
  pub room : HasRoom (tally_of new) t (length members)

-- in its hold of the lock the seat looked at the limit and at the clock, which stood at the time,
-- and so many members do not fit between them
pub record FindsNoRoom (old new : Known) (t members : ℕ) : Type 0 where
  pub still : Still old new
  pub clock : new.view.hold_clock ≡ Some t
  pub limit : ℕ
  pub looked : new.view.hold_limit ≡ Some limit
  pub short : limit < t + members

-- the batch was refused in its hold of the lock, because there was no room
abbrev pub FindsNoRoomFor : Known → Known → List Member → BatchError → Type 0
FindsNoRoomFor old new members (Full t) = FindsNoRoom old new t (length members)
FindsNoRoomFor old new members _ = ⊥

-- why these members are no batch of a store with so many cells: there is no member; or else there
-- are more than cells; or else one keeps its key
abbrev pub IsNoBatch : ℕ → List Member → BatchError → Type 0
IsNoBatch cells members (Full t) = ⊥
IsNoBatch cells members Empty = members ≡ []
IsNoBatch cells members TooLong = cells < length members
IsNoBatch cells members Keep = (members ≢ []) × (length members ≤ cells) × ¬ AreWrites members

-- why the batch was refused: only because there is no room, in its hold of the lock; or before
-- that, because it is not a batch, with the seat as it was
abbrev pub RefusesBatch : Known → Known → List Member → BatchError → Type 0
RefusesBatch old new members (Full t) = FitsDeed old.layout.cells (Group members) × FindsNoRoom old new t (length members)
RefusesBatch old new members error = (new ≡ old) × IsNoBatch old.layout.cells members error

-- the counts after one entry into the lock
abbrev pub entered_once : Tally → Tally
entered_once old = record old { entries = next_word old.entries }

-- what a batch counts in its hold of the lock, which it entered once: each exchange is won
abbrev pub CountsAlone : Tally → Tally → Type 0
CountsAlone old new = new ≡ looked (entered_once old) new

-- what a batch counts: nothing if it is not a batch, else how often it was refused the lock, and
-- the one entry into it
abbrev pub CountsBatch : Tally → Tally → Result ℕ BatchError → Type 0
CountsBatch old new (Ok t) = CountsAlone (record old { busy = new.busy }) new
CountsBatch old new (Err (Full t)) = CountsAlone (record old { busy = new.busy }) new
CountsBatch old new (Err error) = new ≡ old

-- ---- the same call, which tries the lock once

-- why it was refused: somebody held the lock, and the seat is as it was but for its counts; or as a
-- batch is refused
abbrev pub RefusesTryBatch : Known → Known → List Member → TryBatchError → Type 0
RefusesTryBatch old new members Busy = FitsDeed old.layout.cells (Group members) × StaysOut old new
RefusesTryBatch old new members (Refused error) = RefusesBatch old new members error

-- what it counts: the one refusal of the lock and that alone, or the one entry into it; nothing if
-- it is not a batch
abbrev pub CountsTryBatch : Tally → Tally → Result ℕ TryBatchError → Type 0
CountsTryBatch old new (Ok t) = CountsAlone old new
CountsTryBatch old new (Err Busy) = new ≡ record old { busy = next_word old.busy }
CountsTryBatch old new (Err (Refused (Full t))) = CountsAlone old new
CountsTryBatch old new (Err (Refused error)) = new ≡ old

-- ---- the call, as contracts of the store see it

-- in the one hold of the lock of this call, the clock stood at the time, and so many members did
-- not fit between it and the limit
pub record IsNoRoom (old new : SeatState) (t members : ℕ) : Type 0 where
  pub refused : Refuses old new
  pub entered : new.tally.entries ≡ next_word old.tally.entries
  pub clock : new.tally.clock ≡ Some t
  pub limit : ℕ
  pub looked : new.tally.limit ≡ Some limit
  pub short : limit < t + members

-- why the batch was refused: only because there is no room; or because it is not a batch, before
-- it entered the lock and with the seat as it was
abbrev pub IsRefusedBatch : SeatState → SeatState → List Member → BatchError → Type 0
IsRefusedBatch old new members (Full t) = FitsDeed old.store.layout.cells (Group members) × IsNoRoom old new t (length members)
IsRefusedBatch old new members error = (new ≡ old) × IsNoBatch old.store.layout.cells members error

-- why a try was refused: somebody held the lock, and the seat is as it was but for its tally; or as
-- a batch is refused
abbrev pub IsRefusedTryBatch : SeatState → SeatState → List Member → TryBatchError → Type 0
IsRefusedTryBatch old new members Busy = FitsDeed old.store.layout.cells (Group members) × (new ≡ record old { tally = new.tally })
IsRefusedTryBatch old new members (Refused error) = IsRefusedBatch old new members error
