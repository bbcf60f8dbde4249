-- A write in its hold of the lock.
use Rattle.std.specs.Prelude.{◌≡◌, ◌≤◌, ℕ, List, false, map, take, true, Option, Some, None, Result, Ok, Err}
use Rattle.clsm_model.specs.declared.record.Deed.{Deed}
use Rattle.clsm_law.specs.Views.{IsShort, is_all_some, length_of, next_word, or_zero, words_of}
use Rattle.clsm_law.specs.declared.view.Mode.TheVariants.{Shared}
use Rattle.clsm_words.specs.declared.known.Known.{Known}
use Rattle.clsm_words.specs.declared.words.WordTable.{WordTable}
use Rattle.clsm_words.specs.Seats.{RawState}
use Rattle.clsm_memtable.specs.Entering.{MayGoOn}
use Rattle.clsm_memtable.specs.Inserting.{IsStart}
use Rattle.clsm_store_calls.specs.declared.writing.Attempt.{Attempt}
use Rattle.clsm_store_calls.specs.declared.writing.Attempt.TheVariants.{Raced, Overtaken}
use Rattle.clsm_store_calls.specs.declared.writing.Drawn.{Drawn}
use Rattle.clsm_store_calls.specs.declared.writing.Progress.{Progress}
use Rattle.clsm_store_calls.specs.declared.refusal.TryPutError.{TryPutError}
use Rattle.clsm_store_calls.specs.declared.refusal.TryPutError.TheVariants.{Full as Refused}
use Rattle.clsm_store_calls.specs.Resting.{FindsFull, IsInHold, IsSettled, Records, Still}
use Rattle.clsm_store_calls.specs.Seats.{SeatState, IsFull, Refuses}
use Rattle.clsm_store_calls.specs.Tally.{CountsInHold, IsOvertaken, LosesFewer, LosesToSeats, Tally, looked, tally_of}

-- ---- how far it has come

-- it drew the time, and the time's cell says this write
pub record HasFilled (k : Known) (t key : ℕ) (written : Option (List ℕ)) : Type 0 where
  pub drawn : k.view.drawn ≡ Some t
  pub keyed : k.view.key ≡ Some key
  pub length : k.view.length ≡ Some (length_of written)
  pub words : take (length_of written) k.view.words ≡ map (λ w. Some w) (words_of written)
  pub short : IsShort written
  pub whole : is_all_some (take (or_zero k.view.length) k.view.words) ≡ true

-- in its hold of the lock it drew the time for this write, and is still to decide it
pub record IsUndecided (k : Known) (t key : ℕ) (written : Option (List ℕ)) : Type 0 where
  pub shared : k.view.mode ≡ Shared
  pub unpinned : k.view.pinned ≡ false
  pub settled : IsSettled k.view.snapshot
  pub due : k.view.due ≤ t
  pub filled : HasFilled k t key written

-- it is to draw, and may begin its search at the lost cell, if there is one; or its drawn time is
-- undecided, and its entry may go on
abbrev pub HasComeTo : WordTable → RawState → ℕ → Option (List ℕ) → ℕ → Option Drawn → Type 0
HasComeTo words seat key written lost None = IsInHold seat.knows × IsStart seat.knows lost
HasComeTo words seat key written lost (Some drawn) = IsUndecided seat.knows drawn.time key written × MayGoOn words seat drawn.time key lost drawn.entry

abbrev pub HasCome : WordTable → RawState → ℕ → Option (List ℕ) → Progress → Type 0
HasCome words seat key written progress = HasComeTo words seat key written progress.start.lost progress.drawn

-- no call was made, and its drawn time is to be entered
pub record IsToEnter (words : WordTable) (old : Known) (new : RawState) (key : ℕ) (written : Option (List ℕ)) (lost : ℕ) (drawn : Drawn) : Type 0 where
  pub come : HasComeTo words new key written lost (Some drawn)
  pub still : Still old new.knows
  pub counts : tally_of new.knows ≡ looked (tally_of old) (tally_of new.knows)

-- ---- what came of it

-- its hold of the lock goes on: with nothing drawn where it is answered or a reader cancelled its
-- time, and so that the write may go on where it lost
abbrev pub LeavesIn : WordTable → RawState → ℕ → Option (List ℕ) → Progress → Attempt → Type 0
LeavesIn words seat key written progress Raced = HasCome words seat key written progress
LeavesIn words seat key written progress Overtaken = IsInHold seat.knows × HasCome words seat key written progress
LeavesIn words seat key written progress _ = IsInHold seat.knows

-- what one try counts
abbrev pub CountsOne : Tally → Tally → Attempt → Type 0
CountsOne old new Raced = new ≡ record (looked old new) { raced = next_word old.raced }
CountsOne old new Overtaken = new ≡ record (looked old new) { overtaken = next_word old.overtaken }
CountsOne old new _ = new ≡ looked old new

-- what at most so many tries count
abbrev pub CountsTries : ℕ → Tally → Tally → Attempt → Type 0
CountsTries tries old new Raced = LosesToSeats tries old new
CountsTries tries old new Overtaken = IsOvertaken tries old new
CountsTries tries old new _ = LosesFewer tries old new

-- ---- a write that gives up

-- at the words: the clock stood at the limit, or no call was made; what was counted says why
abbrev pub Fails : Known → Known → TryPutError → Type 0
Fails old new (Refused t) = FindsFull old new t
Fails old new _ = Still old new

-- at most so many tries in a hold of the lock failed so, and the hold goes on
pub record FailsInHold (tries : ℕ) (old new : Known) (error : TryPutError) : Type 0 where
  pub holds : IsInHold new
  pub fails : Fails old new error
  pub counts : CountsInHold tries (tally_of old) (tally_of new) (Err error)

-- they wrote what the deed is, and the hold goes on
pub record WritesInHold (tries : ℕ) (old new : Known) (t : ℕ) (deed : Deed) : Type 0 where
  pub holds : IsInHold new
  pub records : Records old new t deed
  pub counts : CountsInHold tries (tally_of old) (tally_of new) (Ok t)

-- what came of them
abbrev pub TriesInHold : ℕ → Known → Known → Deed → Result ℕ TryPutError → Type 0
TriesInHold tries old new deed (Ok t) = WritesInHold tries old new t deed
TriesInHold tries old new deed (Err error) = FailsInHold tries old new error

-- The call was refused, for this reason: the clock at its limit; an exclusive holder of the lock,
-- or another seat that entered or left between the look and the exchange; another seat that drew
-- the time or linked its cell first; a reader that cancelled the time
abbrev pub RefusesTry : SeatState → SeatState → TryPutError → Type 0
RefusesTry old new (Refused t) = IsFull old new t
RefusesTry old new _ = Refuses old new
