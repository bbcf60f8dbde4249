-- What each call of a session's caller promises, all of it, once. Its reads, `try_batch_if`, and how
-- it tells and hears, promise what the store's do, by the records of `Promises.antt` of clsm_store.
-- Here is what it promises otherwise: its writes wait until there is room for them. `old` is the
-- seat as the call found it, `new` as it left it, and `result` what it answered.
use Rattle.std.specs.Prelude.{ℕ, List, Option, Result, IfErr, IfOk}
use Rattle.clsm_model.specs.declared.record.Deed.{Deed}
use Rattle.clsm_model.specs.declared.record.Deed.TheVariants.{Batch, Rmw as ChangeOf}
use Rattle.clsm_model.specs.declared.slot.Change.{Change}
use Rattle.clsm_model.specs.Right.{Member}
use Rattle.clsm_model.specs.Seats.{FitsDeed}
use Rattle.clsm_store_calls.specs.declared.conditions.Condition.{Condition}
use Rattle.clsm_store_calls.specs.declared.got.Rmw.{Rmw}
use Rattle.clsm_store_calls.specs.Conditional.{AnswersIf, AreWritable, MeetsAll}
use Rattle.clsm_store_calls.specs.Seats.{Answers, IsSameSeat, Refuses, SeatState}
use Rattle.clsm_store_calls.specs.Tally.{CancelsNone}
use Rattle.clsm_store.specs.declared.play.answer.Answer.{Answer}
use Rattle.clsm_store.specs.declared.play.call.Call.{Call}
use Rattle.clsm_store.specs.Play.{PlaysCall, ReadsAtClock, WantsMemory}
use Rattle.clsm_store.specs.Promises.{MakesChange}
use Rattle.clsm_session.specs.declared.refusal.BatchIfRefused.{BatchIfRefused}
use Rattle.clsm_session.specs.declared.refusal.BatchRefused.{BatchRefused}
use Rattle.clsm_session.specs.declared.refusal.Refused.{Refused}
use Rattle.clsm_session.specs.Conditional.{GivesUpNone, IsRefusedIfAtLast}
use Rattle.clsm_session.specs.Waiting.{CountsTries, FindsFull, GivesUpByAnswer, IsFullAtLast, IsPatient, IsRefusedAtLast, RefusesCall}

-- ---- writes

-- put and remove; the deed says which, of which key, and with which value
pub record WaitsToWrite (old new : SeatState) (deed : Deed) (result : Result ℕ Refused) : Type 0 where
  -- answered with a time: one record more, the deed at that time
  pub written : IfOk result (λ time. Answers old new time deed)
  -- in none of its tries it gave up a time of its own, or cancelled one of others
  pub cancels : CancelsNone old.tally new.tally
  -- refused: in its last hold of the lock the clock stood at the limit; and for which reason no
  -- epoch was made behind it
  pub refused : IfErr result (IsFullAtLast old new)

-- batch
pub record WaitsToWriteBatch (old new : SeatState) (members : List Member) (result : Result ℕ BatchRefused) : Type 0 where
  -- answered with the time of the first member: one record more, the batch at that time
  pub written : IfOk result (λ time. Answers old new time (Batch members))
  -- and then it has at least one member, at most as many as an epoch has cells, and each writes
  pub fits : IfOk result (λ time. FitsDeed old.store.layout.cells (Batch members))
  -- as put
  pub cancels : CancelsNone old.tally new.tally
  -- refused: this is no batch; or in its last hold of the lock the members did not fit, and why
  pub refused : IfErr result (IsRefusedAtLast old new members)

-- batch_if
pub record WaitsToWriteBatchIf (old new : SeatState) (conditions : List Condition) (members : List Member)
    (result : Result ℕ BatchIfRefused) : Type 0 where
  -- answered with a time: one record more, the batch at that time; or with no member none, and the
  -- time is the due
  pub written : IfOk result (AnswersIf old new members)
  -- all conditions hold at that time, which is the clock as the seat looked at it in its last hold
  pub holds : IfOk result (MeetsAll old new conditions)
  -- and then it has at most as many members as an epoch has cells, and each writes
  pub fits : IfOk result (λ time. AreWritable old.store.layout.cells members)
  -- in none of its tries it gave up a time of its own, or cancelled one of others too early
  pub gives_up : GivesUpNone old new
  -- refused: the members cannot be written; or in its last hold of the lock a condition did not
  -- hold, or else the members did not fit, and why
  pub refused : IfErr result (IsRefusedIfAtLast old new conditions members)

-- ---- read-modify-writes

-- rmw, add and put_if_absent, whatever they make of the key's value
pub record WaitsToChange (old new : SeatState) (key : ℕ) (result : Result Rmw Refused) : Type 0 where
  -- answered: one record more, of the old value and of what was made of it, at this time
  pub changed : IfOk result (λ rmw. Answers old new rmw.time (ChangeOf key rmw.old rmw.change))
  -- it cancelled no time of others before it had waited for it
  pub patient : IsPatient old new
  -- all its tries gave up at most one time for each write of the key by another seat that came
  -- between
  pub spared : GivesUpByAnswer old new key result
  -- refused: as put
  pub refused : IfErr result (IsFullAtLast old new)

-- rmw, add and put_if_absent, as the store's: `Makes value change` says what may be made of a value
abbrev pub WaitsToChangeBy : SeatState → SeatState → ℕ → (Option (List ℕ) → Change → Type 0) → Result Rmw Refused → Type 0
WaitsToChangeBy old new key Makes result = MakesChange (WaitsToChange old new key) Makes result

-- ---- calls as values

-- play
pub record WaitsToPlay (call : Call) (old new : SeatState) (result : Result Answer BatchRefused) : Type 0 where
  -- answered as the method of the call's name answers
  pub plays : IfOk result (PlaysCall call old new)
  -- answered or refused: it counted what that method counts
  pub counts : CountsTries call old new result
  -- a read's time is that of the method
  pub clock : IfOk result (ReadsAtClock call old new)
  -- a write was not answered that there was no room
  pub waits : IfOk result (λ answer. ¬ FindsFull answer)
  -- answered that memory ran out: no record more
  pub memory : IfOk result (λ answer. WantsMemory answer → Refuses old new)
  -- it is the same seat, which forgot nothing
  pub same : IsSameSeat old new
  -- refused: as that method
  pub refused : IfErr result (RefusesCall call old new)
