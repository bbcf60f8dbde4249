-- The records of a script as they are kept.
use Rattle.std.specs.Prelude.{◌≡◌, ℕ, List, [], ◌∷◌, ◌++◌, Option, Some, None, IfSome, option_to_list}
use Rattle.clsm_model.specs.declared.record.CallRecord.{CallRecord}
use Rattle.clsm_model.specs.declared.record.Deed.TheVariants.{Put as PutOf, Get}
use Rattle.clsm_store_calls.specs.Seats.{SeatState}
use Rattle.clsm_store.specs.Play.{PlaysCall}
use Rattle.clsm_store.specs.declared.play.answer.Answer.{Answer}
use Rattle.clsm_store.specs.declared.play.call.Call.{Call}
use Rattle.clsm_script.specs.declared.records.Kept.{Kept}
use Rattle.clsm_script.specs.declared.records.Kept.TheVariants.{Put, Found, Absent, Other}

-- the record that is kept
abbrev pub record_of : Kept → CallRecord
record_of (Put seat time key word) = record { seat = seat; time = time; deed = PutOf key (word ∷ []) }
record_of (Found seat time key word) = record { seat = seat; time = time; deed = Get key (Some (word ∷ [])) }
record_of (Absent seat time key) = record { seat = seat; time = time; deed = Get key None }
record_of (Other boxed) = boxed.value

-- this is the record, or none, that the seat with this number gains by the call with this answer
pub record GainsRecord (seat : ℕ) (call : Call) (answer : Answer) (made : Option CallRecord) : Type 0 where
  pub own : IfSome made (λ r. r.seat ≡ seat)
  pub gains : (old new : SeatState) → old.number ≡ seat → PlaysCall call old new answer → new.calls ≡ old.calls ++ option_to_list made

-- it is kept behind the others
pub record KeepsCall (seat : ℕ) (call : Call) (answer : Answer) (old new : List CallRecord) : Type 0 where
  pub made : Option CallRecord
  pub gained : GainsRecord seat call answer made
  pub kept : new ≡ old ++ option_to_list made
