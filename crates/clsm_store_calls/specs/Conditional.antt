-- A batch with conditions at the words: in one hold of the lock alone a read, which tests the
-- conditions, and behind it the members, staged one after another, and their record.
use Rattle.std.specs.Prelude.{◌≡◌, ℕ, ◌+◌, ◌*◌, ◌<◌, ◌≤◌, ◌++◌, ◌∷◌, [], Bool, List, Option, cond, length, false, true, Result, Err, Some, None}
use Rattle.clsm_model.specs.History.{IsBeginning, end_of, plain}
use Rattle.clsm_model.specs.declared.record.CallRecord.{CallRecord}
use Rattle.clsm_model.specs.declared.record.Deed.TheVariants.{Batch as Group}
use Rattle.clsm_model.specs.Right.{AreWrites, Member}
use Rattle.clsm_law.specs.declared.view.View.{View}
use Rattle.clsm_law.specs.Views.{next_word}
use Rattle.clsm_law.specs.Relation.{call_of}
use Rattle.clsm_words.specs.declared.known.Known.{Known}
use Rattle.clsm_words.specs.Keeping.{KeepsSeat, learned, walked}
use Rattle.clsm_words.specs.Knowing.{known_of}
use Rattle.clsm_store_calls.specs.declared.conditions.Condition.{Condition}
use Rattle.clsm_store_calls.specs.declared.refusal.BatchIfError.{BatchIfError}
use Rattle.clsm_store_calls.specs.declared.refusal.BatchIfError.TheVariants.{Full, Keep, TooLong, Unmet}
use Rattle.clsm_store_calls.specs.declared.refusal.TryBatchIfError.{TryBatchIfError}
use Rattle.clsm_store_calls.specs.declared.refusal.TryBatchIfError.TheVariants.{Busy, Refused}
use Rattle.clsm_store_calls.specs.Batching.{IsNoRoom, entered_once, with_staged}
use Rattle.clsm_store_calls.specs.Conditions.{AllHold, IsFirstUnmet}
use Rattle.clsm_store_calls.specs.Seats.{Answers, IsSameSeat, SeatState, known_by}
use Rattle.clsm_store_calls.specs.Tally.{HasRead, Tally}

-- ---- the members

-- they are no more than an epoch has cells, and each is a write; there may be none
abbrev pub AreWritable : ℕ → List Member → Type 0
AreWritable cells members = (length members ≤ cells) × AreWrites members

-- why they are not: there are more than cells; or else one keeps its key
abbrev pub AreUnwritable : ℕ → List Member → BatchIfError → Type 0
AreUnwritable cells members TooLong = cells < length members
AreUnwritable cells members Keep = (length members ≤ cells) × ¬ AreWrites members
AreUnwritable cells members _ = ⊥

-- the record of the batch that they are at the time; none where there is no member
abbrev pub records_of : ℕ → ℕ → List Member → List CallRecord
records_of number t [] = []
records_of number t (m ∷ ms) = call_of number t (Group (m ∷ ms)) ∷ []

-- ---- the call, as contracts of the store see it

-- In its one hold of the lock the seat looked at the clock, which stood at this time, and has not
-- looked at it again. The time is not below the due, and the seat knows all below it
pub record ReadsAlone (old new : SeatState) (t : ℕ) : Type 0 where
  pub same : IsSameSeat old new
  pub snapshot : new.snapshot ≡ old.snapshot
  pub clock : new.tally.clock ≡ Some t
  pub read : new.clock ≡ Some t
  pub above : old.due ≤ t
  pub reached : t ≤ end_of (known_by new)

-- and it recorded nothing: the time is its due from then on
pub record MeetsAlone (old new : SeatState) (t : ℕ) : Type 0 where
  pub reads : ReadsAlone old new t
  pub calls : new.calls ≡ old.calls
  pub due : new.due ≡ t

-- the members are recorded as one batch at the time; with no member, nothing is
abbrev pub AnswersIf : SeatState → SeatState → List Member → ℕ → Type 0
AnswersIf old new [] t = MeetsAlone old new t
AnswersIf old new (m ∷ ms) t = Answers old new t (Group (m ∷ ms))

-- at the time at which it read, all conditions hold
pub record MeetsAll (old new : SeatState) (conditions : List Condition) (t : ℕ) : Type 0 where
  pub reads : ReadsAlone old new t
  pub holds : AllHold (known_by new) t conditions

-- at the time at which it read, the condition at this place is the first that does not hold;
-- nothing is recorded
pub record FindsUnmet (old new : SeatState) (conditions : List Condition) (index t : ℕ) : Type 0 where
  pub meets : MeetsAlone old new t
  pub first : IsFirstUnmet (known_by new) t conditions index

-- all conditions hold there, but there was no room for the members; nothing is recorded
pub record FindsNone (old new : SeatState) (conditions : List Condition) (members t : ℕ) : Type 0 where
  pub meets : MeetsAll old new conditions t
  pub short : IsNoRoom old new t members

-- why it was refused: because a condition did not hold, or else there was no room, in its hold of
-- the lock; or because the members cannot be written, before it entered the lock and with the seat
-- as it was
abbrev pub IsRefusedBatchIf : SeatState → SeatState → List Condition → List Member → BatchIfError → Type 0
IsRefusedBatchIf old new conditions members (Unmet index t) = AreWritable old.store.layout.cells members × FindsUnmet old new conditions index t
IsRefusedBatchIf old new conditions members (Full t) = AreWritable old.store.layout.cells members × FindsNone old new conditions (length members) t
IsRefusedBatchIf old new conditions members error = (new ≡ old) × AreUnwritable old.store.layout.cells members error

-- why a try was refused: somebody held the lock, and the seat is as it was but for its tally; or as
-- one that waits is refused
abbrev pub IsRefusedTryBatchIf : SeatState → SeatState → List Condition → List Member → TryBatchIfError → Type 0
IsRefusedTryBatchIf old new conditions members Busy = AreWritable old.store.layout.cells members × (new ≡ record old { tally = new.tally })
IsRefusedTryBatchIf old new conditions members (Refused error) = IsRefusedBatchIf old new conditions members error

-- ---- what it counts

-- what it counts in its hold of the lock, which it entered once: each exchange is won. It settles
-- what is below its time as a read does, which may cancel times of others, each after as many looks
-- as its patience says; nobody has one undecided while the lock is held alone
abbrev pub CountsHold : Tally → Tally → Type 0
CountsHold old new = HasRead (entered_once old) new

-- nothing if the members cannot be written, else how often it was refused the lock, and the one
-- hold
abbrev pub CountsBatchIf : Tally → Tally → Result ℕ BatchIfError → Type 0
CountsBatchIf old new (Err TooLong) = new ≡ old
CountsBatchIf old new (Err Keep) = new ≡ old
CountsBatchIf old new answer = CountsHold (record old { busy = new.busy }) new

-- and if it tries the lock once: the one refusal of the lock and that alone, or the one hold
abbrev pub CountsTryBatchIf : Tally → Tally → Result ℕ TryBatchIfError → Type 0
CountsTryBatchIf old new (Err Busy) = new ≡ record old { busy = next_word old.busy }
CountsTryBatchIf old new (Err (Refused TooLong)) = new ≡ old
CountsTryBatchIf old new (Err (Refused Keep)) = new ≡ old
CountsTryBatchIf old new answer = CountsHold old new

-- ---- the pin word

-- the word after a read, if one began and ended
abbrev pub pin_behind : Bool → ℕ → ℕ
pin_behind read pin = cond read (next_word (next_word pin)) pin

-- it entered the lock, and read there
abbrev pub has_entered : Result ℕ BatchIfError → Bool
has_entered (Err TooLong) = false
has_entered (Err Keep) = false
has_entered _ = true

-- and so where it tries the lock once
abbrev pub has_entered_once : Result ℕ TryBatchIfError → Bool
has_entered_once (Err Busy) = false
has_entered_once (Err (Refused TooLong)) = false
has_entered_once (Err (Refused Keep)) = false
has_entered_once _ = true

-- ---- in the hold

-- no condition is unmet, and there is a member to write
abbrev pub is_passed : Option ℕ → List Member → Bool
is_passed None (m ∷ ms) = true
is_passed _ _ = false

-- the view v, but that what a read in the hold looks at, learns and moves is as in w
abbrev pub with_read : View → View → View
with_read v w = record (learned (walked v w) w) {
  fresh_clock = w.fresh_clock;
  hold_limit = w.hold_limit;
  hold_clock = w.hold_clock;
  hold_first = w.hold_first;
  pin = w.pin;
  pinned = w.pinned;
  held = w.held;
  clock = w.clock;
  pin_clock = w.pin_clock;
  due = w.due;
}

-- the seat as it was, but for what its view has; its past went on
pub record GoesAlong (old new : Known) : Type 0 where
  pub number : new.number ≡ old.number
  pub layout : new.layout ≡ old.layout
  pub past : IsBeginning (known_of old) (known_of new)

-- in its hold it looked at the limit and then at the clock, which stood at the time: no time from
-- there on is taken, and each below the limit may be. It knows all below the time
pub record StandsAt (old new : Known) (t limit : ℕ) : Type 0 where
  pub along : GoesAlong old new
  pub clock : new.view.hold_clock ≡ Some t
  pub limit_is : new.view.hold_limit ≡ Some limit
  pub seen : new.view.clock ≡ Some t
  pub within : t ≤ limit
  pub above : old.view.due ≤ t
  pub reached : t ≤ length new.past

-- and it reads the component there
pub record BeginsAlone (old new : Known) (component t limit : ℕ) : Type 0 where
  pub stands : StandsAt old new t limit
  pub view : new.view ≡ with_read old.view new.view
  pub pin : new.view.pin ≡ next_word old.view.pin
  pub pinned : new.view.pinned ≡ true
  pub held : new.view.held ≡ Some component
  pub pin_clock : new.view.pin_clock ≡ Some t
  pub due : new.view.due ≡ old.view.due
  pub from : component * new.layout.cells ≤ t
  pub until : t ≤ (component + 2) * new.layout.cells

-- that read has ended, with nothing recorded; unless it goes on to write, the time is its due
pub record TestsAlone (old new : Known) (t limit : ℕ) (writes : Bool) : Type 0 where
  pub stands : StandsAt old new t limit
  pub view : new.view ≡ with_read old.view new.view
  pub pin : new.view.pin ≡ next_word (next_word old.view.pin)
  pub unpinned : new.view.pinned ≡ false
  pub due : new.view.due ≡ cond writes old.view.due t

-- the due behind the last of the members from this time on
abbrev pub due_behind : ℕ → ℕ → List Member → ℕ
due_behind due t [] = due
due_behind due t (m ∷ ms) = t + length (m ∷ ms)

-- the view v, but that what a batch changes beside what it records is as in w, and none is staged
abbrev pub with_batch : View → View → View
with_batch v w = record (with_staged v w []) { committed = w.committed; fresh_clock = w.fresh_clock; due = w.due; calls = w.calls }

-- it wrote the members from this time on as one batch, if there is one
pub record WritesFrom (old new : Known) (t : ℕ) (members : List Member) : Type 0 where
  pub seat : KeepsSeat old new
  pub view : new.view ≡ with_batch old.view new.view
  pub calls : new.view.calls ≡ old.view.calls ++ records_of old.number t members
  pub due : new.view.due ≡ due_behind old.view.due t members

-- the view v, but that what all of this changes is as in w
abbrev pub with_hold : View → View → View
with_hold v w = with_batch (with_read v w) w

-- its hold goes on, with nothing staged and no read
pub record ActsAlone (old new : Known) : Type 0 where
  pub along : GoesAlong old new
  pub view : new.view ≡ with_hold old.view new.view
  pub pin : new.view.pin ≡ next_word (next_word old.view.pin)
  pub unpinned : new.view.pinned ≡ false

-- all conditions hold at the time, from which on the members were written
pub record WritesAlone (old new : Known) (conditions : List Condition) (members : List Member) (t : ℕ) : Type 0 where
  pub limit : ℕ
  pub stands : StandsAt old new t limit
  pub holds : AllHold (plain new.past) t conditions
  pub calls : new.view.calls ≡ old.view.calls ++ records_of old.number t members
  pub due : new.view.due ≡ t + length members

-- the condition at this place is the first that does not hold at the time
pub record StopsAt (old new : Known) (conditions : List Condition) (index t : ℕ) : Type 0 where
  pub limit : ℕ
  pub stands : StandsAt old new t limit
  pub first : IsFirstUnmet (plain new.past) t conditions index
  pub calls : new.view.calls ≡ old.view.calls
  pub due : new.view.due ≡ t

-- all of them hold, but there are more members than times between the clock and the limit
pub record LacksRoom (old new : Known) (conditions : List Condition) (members t : ℕ) : Type 0 where
  pub limit : ℕ
  pub stands : StandsAt old new t limit
  pub holds : AllHold (plain new.past) t conditions
  pub short : limit < t + members
  pub calls : new.view.calls ≡ old.view.calls
  pub due : new.view.due ≡ old.view.due

-- why it was refused in its hold
abbrev pub RefusesAlone : Known → Known → List Condition → List Member → BatchIfError → Type 0
RefusesAlone old new conditions members (Unmet index t) = StopsAt old new conditions index t
RefusesAlone old new conditions members (Full t) = LacksRoom old new conditions (length members) t
RefusesAlone old new conditions members _ = ⊥
