-- A read-modify-write at the words.
use Rattle.std.specs.Prelude.{◌≡◌, ◌≢◌, ℕ, ◌*◌, ◌≤◌, ◌==◌, ◌⊎◌, ◌++◌, ◌∷◌, [], Bool, List, true, false, cond, drop, length, max, take, slice_index_or}
use Rattle.std.specs.Prelude.{Option, Some, None, Result, Ok, Err}
use Rattle.std.specs.List.{count_by}
use Rattle.clsm_model.specs.History.{IsBeginning, plain, value}
use Rattle.clsm_model.specs.declared.slot.Slot.{Slot}
use Rattle.clsm_model.specs.declared.slot.Slot.TheVariants.{Nothing, Wrote}
use Rattle.clsm_model.specs.declared.slot.Change.{Change}
use Rattle.clsm_model.specs.declared.slot.Change.TheVariants.{Keep, Set, Remove}
use Rattle.clsm_model.specs.declared.record.Deed.{Deed}
use Rattle.clsm_model.specs.declared.record.Deed.TheVariants.{Rmw}
use Rattle.clsm_model.specs.Right.{write_by}
use Rattle.clsm_model.specs.Seats.{due_by}
use Rattle.clsm_law.specs.declared.step.End.{End}
use Rattle.clsm_law.specs.declared.step.End.TheVariants.{Neither, Recorded}
use Rattle.clsm_law.specs.declared.view.Mode.TheVariants.{Shared}
use Rattle.clsm_law.specs.OpenSteps.{IsReadBelow}
use Rattle.clsm_law.specs.Relation.{call_of}
use Rattle.clsm_law.specs.Views.{next_word}
use Rattle.clsm_words.specs.declared.known.Known.{Known}
use Rattle.clsm_words.specs.declared.words.WordTable.{WordTable}
use Rattle.clsm_words.specs.Knowing.{known_of}
use Rattle.clsm_words.specs.Seats.{RawState}
use Rattle.clsm_memtable.specs.Entering.{MayGoOn}
use Rattle.clsm_store_calls.specs.declared.got.Rmw.{Rmw as Answered}
use Rattle.clsm_store_calls.specs.declared.changing.Modified.{Modified}
use Rattle.clsm_store_calls.specs.declared.changing.DrawnChange.{DrawnChange}
use Rattle.clsm_store_calls.specs.declared.changing.ChangeProgress.{ChangeProgress}
use Rattle.clsm_store_calls.specs.declared.changing.ChangeProgress.TheVariants.{Unread, Read, Drawn}
use Rattle.clsm_store_calls.specs.declared.changing.ChangeAttempt.{ChangeAttempt}
use Rattle.clsm_store_calls.specs.declared.changing.ChangeAttempt.TheVariants.{Done, Full, Raced, Outdated, Overtaken}
use Rattle.clsm_store_calls.specs.declared.refusal.Full.{Full as Refusal}
use Rattle.clsm_store_calls.specs.declared.refusal.TryPutError.{TryPutError}
use Rattle.clsm_store_calls.specs.declared.refusal.TryPutError.TheVariants.{Full as Refused, Busy, Raced as Outrun, Overtaken as Cancelled}
use Rattle.clsm_store_calls.specs.Seats.{CountsUpTo, SeatState}
use Rattle.clsm_store_calls.specs.Resting.{FindsFull, IsSettled, Records, Still}
use Rattle.clsm_store_calls.specs.Tally.{HasRead, LosesAtExchange, LosesAtLast, LosesFewerChanges, LosesTime, LosesToReader, LosesWithTime, Tally, looked}
use Rattle.clsm_store_calls.specs.Writing.{HasFilled}

-- it holds the lock and the component, and has drawn nothing
pub record IsPinnedInHold (k : Known) (component : ℕ) : Type 0 where
  pub shared : k.view.mode ≡ Shared
  pub undrawn : k.view.drawn ≡ None
  pub pinned : k.view.pinned ≡ true
  pub held : k.view.held ≡ Some component
  pub settled : IsSettled k.view.snapshot
  pub merged : component * k.layout.cells ≤ k.view.reached

-- at the clock that it looked at last in this read, which is t, the key has this value
pub record ReadsNow (k : Known) (component key t : ℕ) (reply : Option (List ℕ)) : Type 0 where
  pub pin_clock : k.view.pin_clock ≡ Some t
  pub above : k.view.due ≤ t
  pub merged : component * k.layout.cells ≤ t
  pub settled : t ≤ length k.past
  pub is : reply ≡ value (plain k.past) key t

-- ---- changes

-- the change keeps the old value
abbrev pub is_keep : Change → Bool
is_keep Keep = true
is_keep _ = false

-- the value that the change sets, or none for a removal
abbrev pub value_set : Change → Option (List ℕ)
value_set (Set written) = Some written
value_set _ = None

-- the read-modify-write of the key that a write of the change records
abbrev pub deed_by : ℕ → Modified → Deed
deed_by key m = Rmw key m.read.old m.read.change

-- what a change of the old value at the time t is: with Keep a read there, else a write
abbrev pub Does : Change → Known → Known → ℕ → ℕ → ℕ → Option (List ℕ) → Type 0
Does Keep old new component key t o = Still old new × ReadsNow new component key t o
Does (Set written) old new component key t o = Records old new t (Rmw key o (Set written))
Does Remove old new component key t o = Records old new t (Rmw key o Remove)

-- ---- how far a change has come

-- the key was read at a time that the past reaches, and a write of the change is to come
pub record HasKept (k : Known) (component key : ℕ) (m : Modified) : Type 0 where
  pub pinned : IsPinnedInHold k component
  pub above : k.view.due ≤ m.read.time
  pub merged : component * k.layout.cells ≤ m.read.time
  pub settled : m.read.time ≤ length k.past
  pub is : m.read.old ≡ value (plain k.past) key m.read.time
  pub writes : write_by 0 (deed_by key m) ≡ Some (Wrote 0 key m.value)

-- in its hold of the lock and its read it has this time above its due, and what it read of the key
-- stands below it
pub record HasReadBelow (k : Known) (component key : ℕ) (m : Modified) (t : ℕ) : Type 0 where
  pub shared : k.view.mode ≡ Shared
  pub pinned : k.view.pinned ≡ true
  pub held : k.view.held ≡ Some component
  pub settled : IsSettled k.view.snapshot
  pub merged : component * k.layout.cells ≤ k.view.reached
  pub due : k.view.due ≤ t
  pub later : m.read.time ≤ t
  pub writes : write_by 0 (deed_by key m) ≡ Some (Wrote 0 key m.value)
  pub reads : IsReadBelow (plain k.past) k.view t (deed_by key m)

-- it drew the time, and is to fill its cell with the write
pub record IsToFill (k : Known) (component key : ℕ) (m : Modified) (t : ℕ) : Type 0 where
  pub read : HasReadBelow k component key m t
  pub limit : k.view.hold_limit ≢ None
  pub drawn : k.view.drawn ≡ Some t
  pub unlinked : k.view.linked ≡ false
  pub out : k.view.inserted ≡ false

-- the cell of the drawn time says the write, and is to be entered
pub record HasDrawnFor (words : WordTable) (seat : RawState) (component key : ℕ) (d : DrawnChange) : Type 0 where
  pub read : HasReadBelow seat.knows component key d.modified d.time
  pub filled : HasFilled seat.knows d.time key d.modified.value
  pub entry : MayGoOn words seat d.time key 0 d.entry

-- it is to read the key, to draw a time, or to enter a drawn cell
abbrev pub HasComeSoFar : WordTable → RawState → ℕ → ℕ → ChangeProgress → Type 0
HasComeSoFar words seat component key Unread = IsPinnedInHold seat.knows component
HasComeSoFar words seat component key (Read modified) = HasKept seat.knows component key modified
HasComeSoFar words seat component key (Drawn drawn) = HasDrawnFor words seat component key drawn

-- the change is one that the function may answer to the value that was read
abbrev pub IsAskedBy : (Option (List ℕ) → Change → Type 0) → ChangeProgress → Type 0
IsAskedBy post Unread = Unit {0}
IsAskedBy post (Read modified) = post modified.read.old modified.read.change
IsAskedBy post (Drawn drawn) = post drawn.modified.read.old drawn.modified.read.change

-- ---- what came of it

-- the change was made, or is refused for good
abbrev pub is_last : ChangeAttempt → Bool
is_last (Done rmw) = true
is_last (Full t) = true
is_last _ = false

-- how far it has come behind a try that was lost: one that lost an exchange goes on from there, and
-- one that lost its time begins anew
abbrev pub progress_of : ChangeAttempt → ChangeProgress
progress_of (Raced progress) = progress
progress_of _ = Unread

-- its hold of the lock and its read go on; and what was read is kept where an exchange is lost
abbrev pub LeavesPinned : WordTable → RawState → ℕ → ℕ → ChangeAttempt → Type 0
LeavesPinned words seat component key (Raced Unread) = ⊥
LeavesPinned words seat component key (Raced (Read modified)) = HasComeSoFar words seat component key (Read modified)
LeavesPinned words seat component key (Raced (Drawn drawn)) = HasComeSoFar words seat component key (Drawn drawn)
LeavesPinned words seat component key _ = IsPinnedInHold seat.knows component

-- where an exchange is lost, what was read is that which was read before
abbrev pub KeepsRead : Modified → ChangeAttempt → Type 0
KeepsRead m (Raced Unread) = ⊥
KeepsRead m (Raced (Read modified)) = modified ≡ m
KeepsRead m (Raced (Drawn drawn)) = drawn.modified ≡ m
KeepsRead m _ = Unit {0}

abbrev pub KeepsReadOf : ChangeProgress → ChangeAttempt → Type 0
KeepsReadOf Unread attempt = Unit {0}
KeepsReadOf (Read modified) attempt = KeepsRead modified attempt
KeepsReadOf (Drawn drawn) attempt = KeepsRead drawn.modified attempt

-- what came of tries to change the key: the change at its time, a clock at the limit, or nothing
abbrev pub TriesChange : Known → Known → ℕ → ℕ → ChangeAttempt → Type 0
TriesChange old new component key (Done rmw) = Does rmw.change old new component key rmw.time rmw.old
TriesChange old new component key (Full t) = FindsFull old new t
TriesChange old new component key _ = Still old new

-- the change is one that the function may answer to the old value
abbrev pub IsAnsweredBy : (Option (List ℕ) → Change → Type 0) → ChangeAttempt → Type 0
IsAnsweredBy post (Done rmw) = post rmw.old rmw.change
IsAnsweredBy post (Raced progress) = IsAskedBy post progress
IsAnsweredBy post _ = Unit {0}

-- what one try counts, beside the times of others that its reads cancelled
abbrev pub CountsOneChange : Tally → Tally → ChangeAttempt → Type 0
CountsOneChange old new (Raced progress) = new ≡ record (looked old new) { raced = next_word old.raced; cancelled = new.cancelled }
CountsOneChange old new Outdated = LosesTime old new
    × (new ≡ record (looked old new) { overtaken = new.overtaken; gave_up = new.gave_up; cancelled = new.cancelled })
CountsOneChange old new Overtaken = new ≡ record (looked old new) { overtaken = next_word old.overtaken; cancelled = new.cancelled }
CountsOneChange old new _ = HasRead old new

-- what at most so many tries count
abbrev pub CountsChanges : ℕ → Tally → Tally → ChangeAttempt → Type 0
CountsChanges tries old new (Raced progress) = LosesAtExchange tries old new
CountsChanges tries old new Outdated = LosesWithTime tries old new
CountsChanges tries old new Overtaken = LosesToReader tries old new
CountsChanges tries old new _ = LosesFewerChanges tries old new

-- ---- times given up

-- the slot is a write of the key
abbrev pub is_write_of : ℕ → Slot → Bool
is_write_of key Nothing = false
is_write_of key (Wrote seat k written) = k == key

-- how many writes of the key stand at this time or above it
abbrev pub writes_from : List Slot → ℕ → ℕ → ℕ
writes_from slots key from = count_by (is_write_of key) (drop from slots)

-- a write of the key stands at this time or above it
pub record IsWrittenFrom (slots : List Slot) (key from : ℕ) : Type 0 where
  pub time : ℕ
  pub above : from ≤ time
  pub seat : ℕ
  pub written : Option (List ℕ)
  pub stands : slice_index_or slots time Nothing ≡ Wrote seat key written

-- a write of the key stands at or above the due that the seat had before, and it did not know of it
abbrev pub IsWrittenSince : Known → Known → ℕ → Type 0
IsWrittenSince old new key = IsWrittenFrom new.past key (max old.view.due (length old.past))

-- the tries that were lost so far gave up at most one time for each write of the key that stands at
-- or above the time of the first read; and none before that
abbrev pub GaveUp : Known → Known → ℕ → Option ℕ → Type 0
GaveUp old new key None = new.view.gave_up ≡ old.view.gave_up
GaveUp old new key (Some first) = (old.view.due ≤ first) × (length old.past ≤ first) × (first ≤ length new.past)
    × CountsUpTo (writes_from new.past key first) old.view.gave_up new.view.gave_up

-- and so the call, below this time
pub record GivesUpFor (old new : Known) (key last : ℕ) : Type 0 where
  pub first : ℕ
  pub looked : new.view.hold_first ≡ Some first
  pub due : old.view.due ≤ first
  pub known : length old.past ≤ first
  pub reached : first ≤ length new.past
  pub until : first ≤ last
  pub counts : CountsUpTo (writes_from (take last new.past) key first) old.view.gave_up new.view.gave_up

-- so it did until now, below the time of the last read if what that found is kept
abbrev pub GaveUpSoFar : Known → Known → ℕ → ChangeProgress → Type 0
GaveUpSoFar first now key Unread = GaveUp first now key now.view.hold_first
GaveUpSoFar first now key (Read modified) = GivesUpFor first now key modified.read.time
GaveUpSoFar first now key (Drawn drawn) = GivesUpFor first now key drawn.modified.read.time

-- from the beginning of the hold on it made no call, and gave up no more than that
abbrev pub Spared : Known → Known → ℕ → ChangeProgress → Type 0
Spared first now key progress = Still first now × GaveUpSoFar first now key progress

-- and so, below the time at which it is answered; and where it gave up a time for it, a write of
-- the key stands
abbrev pub SparedBy : Known → Known → ℕ → ChangeAttempt → Type 0
SparedBy first now key (Done rmw) = GivesUpFor first now key rmw.time
SparedBy first now key (Full t) = GivesUpFor first now key t
SparedBy first now key (Raced progress) = Spared first now key progress
SparedBy first now key Outdated = Spared first now key Unread × IsWrittenSince first now key
SparedBy first now key Overtaken = Spared first now key Unread

-- whatever the hold's beginning was, what was spared since stays so
abbrev pub Spares : Known → Known → ℕ → ChangeProgress → ChangeAttempt → Type 0
Spares old new key progress attempt = (first : Known) → Spared first old key progress → SparedBy first new key attempt

-- the time at which the call is answered, or refused
abbrev pub changed_at : Result Answered Refusal → ℕ
changed_at (Ok rmw) = rmw.time
changed_at (Err full) = full.time

-- ---- a change that gives up

-- what at most so many tries count in a hold of the lock, beside the times of others that its reads
-- cancelled, each after as many looks as its patience says. Where another seat was faster, it won
-- the exchange of the last try; or it had written the key since that read it, and the drawn time is
-- lost
abbrev pub CountsChangeInHold : ℕ → Type 0 → Tally → Tally → Result Answered TryPutError → Type 0
CountsChangeInHold tries written old new (Ok rmw) = LosesFewerChanges tries old new
CountsChangeInHold tries written old new (Err (Refused t)) = LosesFewerChanges tries old new
CountsChangeInHold tries written old new (Err Busy) = ⊥
CountsChangeInHold tries written old new (Err Outrun) = LosesAtLast tries old new ⊎ (LosesWithTime tries old new × written)
CountsChangeInHold tries written old new (Err Cancelled) = LosesToReader tries old new

-- what a call counts that makes at most so many tries: with `Busy` that alone, else the one time
-- that it entered the lock, and what came of its tries there
abbrev pub CountsChange : ℕ → Type 0 → Tally → Tally → Result Answered TryPutError → Type 0
CountsChange tries written old new (Err Busy) = new ≡ record old { busy = next_word old.busy }
CountsChange tries written old new answer = CountsChangeInHold tries written (record old { entries = next_word old.entries }) new answer

-- The same, as contracts of the store see it: with `Raced` it lost an exchange, which is counted,
-- or a write of the key stands at or above the due that it had before, of which it did not know
abbrev pub CountsTryChange : ℕ → SeatState → SeatState → ℕ → Result Answered TryPutError → Type 0
CountsTryChange tries old new key answer =
    CountsChange tries (IsWrittenFrom new.past key (max old.due (length old.past))) old.tally new.tally answer

-- ---- the whole call

-- how its read ends
abbrev pub read_end : {E : Type 0} → ℕ → Result Answered E → End
read_end key (Ok rmw) = cond (is_keep rmw.change) (Recorded (Rmw key rmw.old rmw.change)) Neither
read_end key (Err refusal) = Neither

-- the pin word after a try: a read begins and ends, unless the lock was not entered
abbrev pub pin_after : ℕ → Result Answered TryPutError → ℕ
pin_after pin (Err Busy) = pin
pin_after pin _ = next_word (next_word pin)

-- it is the seat that it was, with the snapshot that it had, and its past only grew
pub record IsSameSeat (old new : Known) : Type 0 where
  pub number : new.number ≡ old.number
  pub layout : new.layout ≡ old.layout
  pub past : IsBeginning (known_of old) (known_of new)
  pub snapshot : new.view.snapshot ≡ old.view.snapshot

-- the change of the old value is recorded at the time
pub record ChangesAt (old new : Known) (t key : ℕ) (o : Option (List ℕ)) (change : Change) : Type 0 where
  pub same : IsSameSeat old new
  pub calls : new.view.calls ≡ old.view.calls ++ call_of old.number t (Rmw key o change) ∷ []
  pub due : new.view.due ≡ due_by t change
  pub above : old.view.due ≤ t

-- in the one hold of the call the clock was found at the limit
pub record EndsFull (old new : Known) (t : ℕ) : Type 0 where
  pub same : IsSameSeat old new
  pub calls : new.view.calls ≡ old.view.calls
  pub due : new.view.due ≡ old.view.due
  pub entered : new.view.entries ≡ next_word old.view.entries
  pub limit : new.view.hold_limit ≡ Some t
  pub clock : new.view.hold_clock ≡ Some t

-- no call was made
pub record EndsUnmade (old new : Known) : Type 0 where
  pub same : IsSameSeat old new
  pub calls : new.view.calls ≡ old.view.calls
  pub due : new.view.due ≡ old.view.due

-- the clock stood at the limit, or no call was made; what was counted says why
abbrev pub EndsRefused : Known → Known → TryPutError → Type 0
EndsRefused old new (Refused t) = EndsFull old new t
EndsRefused old new _ = EndsUnmade old new
