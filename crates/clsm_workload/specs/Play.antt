-- What a deal makes of a seat, and the record of it.
use Rattle.std.specs.Prelude.{◌≡◌, ◌++◌, ◌⊎◌, Option, None, option_to_list}
use Rattle.clsm_model.specs.declared.deal.Deal.{Deal}
use Rattle.clsm_model.specs.declared.record.CallRecord.{CallRecord}
use Rattle.clsm_store_calls.specs.Seats.{IsSameSeat, SeatState}
use Rattle.clsm_store.specs.Play.{PlaysCall, WantsMemory, call_for}
use Rattle.clsm_store.specs.declared.play.answer.Answer.{Answer}
use Rattle.clsm_session.specs.declared.refusal.BatchRefused.{BatchRefused}
use Rattle.clsm_session.specs.Waiting.{RefusesCall}

-- the deal's call was answered so, or refused for its cause, and not because memory ran out
pub record IsPlayed (deal : Deal) (old new : SeatState) : Type 0 where
  pub answer : Answer
  pub plays : PlaysCall (call_for deal) old new answer
  pub memory : ¬ WantsMemory answer

-- the deal's call waited for room, and was refused because the merger could make none
pub record IsRefusedRoom (deal : Deal) (old new : SeatState) (made : Option CallRecord) : Type 0 where
  pub refusal : BatchRefused
  pub refuses : RefusesCall (call_for deal) old new refusal
  pub none : made ≡ None

-- the deal's call was made, and the seat has exactly this record more, or the same calls
pub record Plays (deal : Deal) (old new : SeatState) (made : Option CallRecord) : Type 0 where
  pub played : IsPlayed deal old new ⊎ IsRefusedRoom deal old new made
  pub same : IsSameSeat old new
  pub calls : new.calls ≡ old.calls ++ option_to_list made
