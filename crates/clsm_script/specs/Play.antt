-- What the commands of a script make of its session and the merger's phase, and what they answer.
use Rattle.std.specs.Prelude.{◌≡◌, ◌≢◌, ℕ, ◌<◌, ◌≤◌, ◌++◌, ◌⊎◌, List, length, set}
use Rattle.std.specs.Prelude.{Option, Some, None, Result, Ok, Err}
use Rattle.std.specs.Io.KnownBytes.{Appends}
use Rattle.clsm_model.specs.History.{IsBeginning}
use Rattle.clsm_model.specs.declared.record.CallRecord.{CallRecord}
use Rattle.clsm_audit.specs.Faults.{IsLawful, IsOneHistory, IsRefusal}
use Rattle.clsm_audit.specs.declared.fault.AuditError.{AuditError}
use Rattle.clsm_store_calls.specs.Seats.{SeatState, known_by}
use Rattle.clsm_store.specs.Headline.{IsAt}
use Rattle.clsm_store.specs.Meetings.{Meets}
use Rattle.clsm_store.specs.Phase.{Freezes, Merges, Reclaims}
use Rattle.clsm_store.specs.Play.{CountsCall, PlaysCall, ReadsAtClock, WantsMemory}
use Rattle.clsm_store.specs.declared.play.answer.Answer.{Answer as CallAnswer}
use Rattle.clsm_store.specs.declared.play.call.Call.{Call}
use Rattle.clsm_script.specs.Printed.{call_text, line_of}
use Rattle.clsm_script.specs.declared.answer.Answer.{Answer}
use Rattle.clsm_script.specs.declared.answer.Answer.TheVariants.{Call as Called, Seat as Took, Meet as Met}
use Rattle.clsm_script.specs.declared.answer.Answer.TheVariants.{Audit as Audited}
use Rattle.clsm_script.specs.declared.answer.Answer.TheVariants.{Freeze as Froze, Merge as Merged}
use Rattle.clsm_script.specs.declared.answer.Answer.TheVariants.{Reclaim as Reclaimed}
use Rattle.clsm_script.specs.declared.command.Command.{Command}
use Rattle.clsm_script.specs.declared.command.Command.TheVariants.{Call as Makes, Seat, Meet, Audit}
use Rattle.clsm_script.specs.declared.command.Command.TheVariants.{Freeze, Merge, Reclaim}
use Rattle.clsm_script.specs.declared.session.Session.{Session}
use Rattle.clsm_store.specs.declared.phase.Phase.{Phase}

-- the seat in use makes the call, which counts what a call of its name counts, and reads at the clock
-- where such a call does; the records gain what its calls gain, and the other seats stay as they are
pub record Calls (call : Call) (old new : Session) (answer : CallAnswer) : Type 0 where
  pub before : SeatState
  pub after : SeatState
  pub made : List CallRecord
  pub at : IsAt old.seats.items old.used before
  pub plays : PlaysCall call before after answer
  pub counts : CountsCall call before after answer
  pub clock : ReadsAtClock call before after answer
  pub calls : after.calls ≡ before.calls ++ made
  pub seats : new.seats.items ≡ set old.seats.items old.used after
  pub records : new.records ≡ old.records ++ made
  pub used : new.used ≡ old.used
  pub config : new.config ≡ old.config

-- the seat in use makes the call, and what it is answered, which is no want of memory, is printed as a
-- line behind what the output held
abbrev pub PrintsCall : Call → Session → Session → Option (List ℕ) → Option (List ℕ) → Type 0
PrintsCall call old new before after = (answer : CallAnswer)
    × Calls call old new answer
    × (¬ WantsMemory answer)
    × Appends before after (line_of (call_text answer))

-- the seat with this number is in use afterwards; it is refused where there is no such seat
abbrev pub TakesSeat : ℕ → Session → Session → Option ℕ → Type 0
TakesSeat number old new (Some taken) =
    (taken ≡ number) × (number < length old.seats.items) × (new ≡ record old { used = number })
TakesSeat number old new None = (length old.seats.items ≤ number) × (new ≡ old)

-- the seats at two places meet at the time, the one first, and the others stay as they are
pub record PairMeets (i j t : ℕ) (old new : List SeatState) : Type 0 where
  pub one : SeatState
  pub one_after : SeatState
  pub other : SeatState
  pub other_after : SeatState
  pub at : IsAt old i one
  pub other_at : IsAt old j other
  pub above : one.due ≤ t
  pub above_other : other.due ≤ t
  pub meets : Meets t one one_after
  pub other_meets : Meets t other other_after
  pub begins : IsBeginning (known_by one_after) (known_by other_after)
  pub seats : new ≡ set (set old i one_after) j other_after

-- the seat in use and the one with this number meet at the time, and nothing else changes
pub record MeetsAt (number : ℕ) (old new : Session) (t : ℕ) : Type 0 where
  pub apart : number ≢ old.used
  pub meets : PairMeets old.used number t old.seats.items new.seats.items
  pub records : new.records ≡ old.records
  pub used : new.used ≡ old.used
  pub config : new.config ≡ old.config

-- it is refused where that is the seat in use, or there is none
abbrev pub MeetsSeat : ℕ → Session → Session → Option ℕ → Type 0
MeetsSeat number old new (Some t) = MeetsAt number old new t
MeetsSeat number old new None =
    ((number ≡ old.used) ⊎ (length old.seats.items ≤ number)) × (new ≡ old)

-- the audit of all records: they are lawful and of one history, or the first fault is named
abbrev pub IsAudited : Session → Result (Unit {0}) AuditError → Type 0
IsAudited session (Ok _) =
    IsLawful session.config session.records × IsOneHistory session.records
IsAudited session (Err error) = IsRefusal session.config session.records error

-- the command takes the session from its old state to the new one, and is answered so
abbrev pub Plays : Command → Session → Session → Answer → Type 0
Plays (Makes call) old new (Called answer) = Calls call old new answer
Plays (Makes _) _ _ _ = ⊥
Plays (Seat number) old new (Took taken) = TakesSeat number old new taken
Plays (Seat _) _ _ _ = ⊥
Plays (Meet number) old new (Met time) = MeetsSeat number old new time
Plays (Meet _) _ _ _ = ⊥
Plays Audit old new (Audited answer) = (new ≡ old) × IsAudited old answer
Plays Audit _ _ _ = ⊥
Plays _ old new _ = new ≡ old

-- the command takes the merger from its old phase to the new one, and is answered so
abbrev pub Turns : Command → Phase → Phase → Answer → Type 0
Turns Freeze old new (Froze answer) = Freezes old new answer
Turns Freeze _ _ _ = ⊥
Turns Merge old new (Merged answer) = Merges old new answer
Turns Merge _ _ _ = ⊥
Turns Reclaim old new (Reclaimed answer) = Reclaims old new answer
Turns Reclaim _ _ _ = ⊥
Turns _ old new _ = new ≡ old
