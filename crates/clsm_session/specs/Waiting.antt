-- What writes that wait for room leave of the seat. Each try that found no room left it as it was,
-- but for its tally.
use Rattle.std.specs.Prelude.{◌≡◌, ℕ, ◌+◌, ◌*◌, ◌^◌, ◌<◌, ◌≤◌, List, length, max, Some, Result, Ok, Err, ⊤}
use Rattle.std.specs.Fn.{iterate}
use Rattle.clsm_model.specs.declared.record.Deed.TheVariants.{Batch as Group}
use Rattle.clsm_model.specs.Right.{Member}
use Rattle.clsm_model.specs.Seats.{FitsDeed}
use Rattle.clsm_law.specs.Views.{next_word}
use Rattle.clsm_store_calls.specs.Batching.{IsNoBatch}
use Rattle.clsm_store_calls.specs.Seats.{CountsUpTo, GivesUpForWrites, Refuses, SeatState, writes_beside}
use Rattle.clsm_store_calls.specs.declared.got.Rmw.{Rmw as Answered}
use Rattle.clsm_store_calls.specs.Tally.{CancelsNone, Tally}
use Rattle.clsm_store_calls.specs.declared.refusal.BatchError.TheVariants as errors
use Rattle.clsm_store.specs.declared.play.answer.Answer.{Answer}
use Rattle.clsm_store.specs.declared.play.answer.Answer.TheVariants.{Write, Batch as Batched, Change as Changed}
use Rattle.clsm_store.specs.declared.play.call.Call.{Call}
use Rattle.clsm_store.specs.declared.play.call.Call.TheVariants.{Put, Remove, Add, Claim, Batch}
use Rattle.clsm_store.specs.Play.{CountsCall}
use Rattle.clsm_session.specs.declared.refusal.Refused.{Refused}
use Rattle.clsm_session.specs.declared.refusal.Refused.TheVariants.{RunFull, Worn}
use Rattle.clsm_session.specs.declared.refusal.BatchRefused.{BatchRefused}
use Rattle.clsm_session.specs.declared.refusal.BatchRefused.TheVariants.{Empty, TooLong, Keep, NoRoom}

-- it cancelled no time of others before it had waited for it
abbrev pub IsPatient : SeatState → SeatState → Type 0
IsPatient old new = new.tally.hasty ≡ old.tally.hasty

-- the tries gave up at most one time for each write of the key by another seat that stands at or
-- above the first of these times, and below the last
pub record GivesUpBetween (first last : ℕ) (old new : SeatState) (key : ℕ) : Type 0 where
  pub reached : first ≤ length new.past
  pub until : first ≤ last
  pub counts : CountsUpTo (writes_beside new.past old.number key first last) old.tally.gave_up new.tally.gave_up

-- What the tries gave up, for writes that stand below this time. A call that held the lock once
-- gave up what the store's does, for writes that stand at or above its first read. All tries of any
-- call did so for writes at or above its due, of which the seat did not know before
pub record GivesUpOver (old new : SeatState) (key last : ℕ) : Type 0 where
  pub once : new.tally.entries ≡ next_word old.tally.entries → GivesUpForWrites old new key last
  pub all : GivesUpBetween (max old.due (length old.past)) last old new key

-- by the answer: below the time at which the key was changed, or at which the clock stood at the
-- limit in the last hold
abbrev pub GivesUpByAnswer : SeatState → SeatState → ℕ → Result Answered Refused → Type 0
GivesUpByAnswer old new key (Ok rmw) = GivesUpOver old new key rmw.time
GivesUpByAnswer old new key (Err _) = (last : ℕ) × (new.tally.clock ≡ Some last) × GivesUpOver old new key last

-- it entered the lock, at least once, and not so often that the count would come round
pub record HasEntered (old new : Tally) : Type 0 where
  pub times : ℕ
  pub some : 1 ≤ times
  pub few : times < 2 ^ 64
  pub counted : new.entries ≡ iterate next_word times old.entries

-- the epoch that is full at this time ends here: at the least multiple of its cells that is not
-- below the time
pub record EndsAt (cells time end : ℕ) : Type 0 where
  pub epochs : ℕ
  pub whole : end ≡ epochs * cells
  pub reached : time ≤ end
  pub least : end < time + cells

-- the reason that is told where no epoch is made behind the one that is full at this time: `Worn`
-- if it would end past 2^62, and `RunFull` if it would not
abbrev pub IsReason : ℕ → ℕ → Refused → Type 0
IsReason cells time Worn = (end : ℕ) × EndsAt cells time end × (2 ^ 62 < end + cells)
IsReason cells time RunFull = (end : ℕ) × EndsAt cells time end × (end + cells ≤ 2 ^ 62)

-- it was refused for this reason, and in its last hold of the lock, one of this call, the clock
-- stood at the limit
pub record IsFullAtLast (old new : SeatState) (reason : Refused) : Type 0 where
  pub refused : Refuses old new
  pub entered : HasEntered old.tally new.tally
  pub time : ℕ
  pub limit : new.tally.limit ≡ Some time
  pub clock : new.tally.clock ≡ Some time
  pub right : IsReason old.store.layout.cells time reason

-- it was refused for this reason, and in its last hold of the lock, one of this call, so many
-- members did not fit between the clock and the limit
pub record IsNoRoomAtLast (old new : SeatState) (members : ℕ) (reason : Refused) : Type 0 where
  pub refused : Refuses old new
  pub entered : HasEntered old.tally new.tally
  pub time : ℕ
  pub clock : new.tally.clock ≡ Some time
  pub limit : ℕ
  pub looked : new.tally.limit ≡ Some limit
  pub short : limit < time + members
  pub right : IsReason old.store.layout.cells time reason

-- why a batch was refused: only because there was no room; or because it is not a batch, with the
-- seat as it was
abbrev pub IsRefusedAtLast : SeatState → SeatState → List Member → BatchRefused → Type 0
IsRefusedAtLast old new members (NoRoom reason) =
    FitsDeed old.store.layout.cells (Group members) × IsNoRoomAtLast old new (length members) reason
IsRefusedAtLast old new members Empty = (new ≡ old) × IsNoBatch old.store.layout.cells members errors.Empty
IsRefusedAtLast old new members TooLong = (new ≡ old) × IsNoBatch old.store.layout.cells members errors.TooLong
IsRefusedAtLast old new members Keep = (new ≡ old) × IsNoBatch old.store.layout.cells members errors.Keep

-- the call that is played was refused so
abbrev pub RefusesCall : Call → SeatState → SeatState → BatchRefused → Type 0
RefusesCall (Put _ _) old new (NoRoom reason) = IsFullAtLast old new reason
RefusesCall (Remove _) old new (NoRoom reason) = IsFullAtLast old new reason
RefusesCall (Add _ _) old new (NoRoom reason) = IsFullAtLast old new reason
RefusesCall (Claim _ _) old new (NoRoom reason) = IsFullAtLast old new reason
RefusesCall (Batch members) old new refusal = IsRefusedAtLast old new members refusal
RefusesCall _ _ _ _ = ⊥

-- of a call that is played, by its answer
abbrev pub GivesUpInCall : SeatState → SeatState → ℕ → Result Answer BatchRefused → Type 0
GivesUpInCall old new key (Ok (Changed (Ok rmw))) = GivesUpOver old new key rmw.time
GivesUpInCall old new key (Ok _) = ⊥
GivesUpInCall old new key (Err _) = (last : ℕ) × (new.tally.clock ≡ Some last) × GivesUpOver old new key last

-- what the call counts: a put, a removal and a batch cancel no time in any of their tries, and an
-- addition and a claim give up one for each write of their key at most; any other call is made
-- once, and counts what the store's does
abbrev pub CountsTries : Call → SeatState → SeatState → Result Answer BatchRefused → Type 0
CountsTries (Put _ _) old new _ = CancelsNone old.tally new.tally
CountsTries (Remove _) old new _ = CancelsNone old.tally new.tally
CountsTries (Add key _) old new answer = IsPatient old new × GivesUpInCall old new key answer
CountsTries (Claim key _) old new answer = IsPatient old new × GivesUpInCall old new key answer
CountsTries (Batch _) old new _ = CancelsNone old.tally new.tally
CountsTries call old new (Ok answer) = CountsCall call old new answer
CountsTries _ _ _ (Err _) = ⊥

-- the call was answered that the epoch is full, or that there is no room for the batch
abbrev pub FindsFull : Answer → Type 0
FindsFull (Write (Err _)) = ⊤
FindsFull (Changed (Err _)) = ⊤
FindsFull (Batched (Err _)) = ⊤
FindsFull _ = ⊥
