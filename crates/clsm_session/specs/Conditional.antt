-- What a batch with conditions that waits for room leaves of the seat.
use Rattle.std.specs.Prelude.{◌≡◌, ℕ, List, length}
use Rattle.clsm_model.specs.Right.{Member}
use Rattle.clsm_store_calls.specs.declared.conditions.Condition.{Condition}
use Rattle.clsm_store_calls.specs.declared.refusal.BatchIfError.TheVariants as errors
use Rattle.clsm_store_calls.specs.Conditional.{AreUnwritable, AreWritable, FindsUnmet, MeetsAll}
use Rattle.clsm_store_calls.specs.Seats.{SeatState}
use Rattle.clsm_session.specs.declared.refusal.BatchIfRefused.{BatchIfRefused}
use Rattle.clsm_session.specs.declared.refusal.BatchIfRefused.TheVariants.{Keep, NoRoom, TooLong, Unmet}
use Rattle.clsm_session.specs.declared.refusal.Refused.{Refused}
use Rattle.clsm_session.specs.Waiting.{IsNoRoomAtLast, IsPatient}

-- in none of its tries it gave up a time of its own, or cancelled one of others before it had
-- waited for it
pub record GivesUpNone (old new : SeatState) : Type 0 where
  pub own : new.tally.gave_up ≡ old.tally.gave_up
  pub patient : IsPatient old new

-- in its last hold of the lock all conditions held at the clock, but so many members did not fit
-- behind it; and for which reason no epoch was made
pub record FindsNoneAtLast (old new : SeatState) (conditions : List Condition) (members : ℕ) (reason : Refused) : Type 0 where
  pub time : ℕ
  pub meets : MeetsAll old new conditions time
  pub short : IsNoRoomAtLast old new members reason

-- why it was refused: because a condition did not hold, or else there was no room, in its last hold
-- of the lock; or because the members cannot be written, with the seat as it was
abbrev pub IsRefusedIfAtLast : SeatState → SeatState → List Condition → List Member → BatchIfRefused → Type 0
IsRefusedIfAtLast old new conditions members (Unmet index t) = AreWritable old.store.layout.cells members × FindsUnmet old new conditions index t
IsRefusedIfAtLast old new conditions members (NoRoom reason) =
    AreWritable old.store.layout.cells members × FindsNoneAtLast old new conditions (length members) reason
IsRefusedIfAtLast old new conditions members TooLong = (new ≡ old) × AreUnwritable old.store.layout.cells members errors.TooLong
IsRefusedIfAtLast old new conditions members Keep = (new ≡ old) × AreUnwritable old.store.layout.cells members errors.Keep
