-- Records that are all the calls of a history.
use Rattle.std.specs.Prelude.{ℕ, IfSome, List, Option, slice_get}
use Rattle.clsm_model.specs.declared.config.Config.{Config}
use Rattle.clsm_model.specs.declared.record.CallRecord.{CallRecord}
use Rattle.clsm_model.specs.History.{History}
use Rattle.clsm_model.specs.Seats.{AreCallsIn}
use Rattle.clsm_audit.specs.Lawful.{IsInRange, calls_of}

-- the calls are the seat's part of the history h, for some due and some open snapshot
pub record IsPartOf (h : History) (seat : ℕ) (calls : List CallRecord) : Type 0 where
  pub due : ℕ
  pub snapshot : Option ℕ
  pub calls_in : AreCallsIn h seat calls due snapshot

-- there is a history in which the calls of each seat are its part; so nothing but their writes
-- stands in it, and no read stands inside one of its batches
pub record HasHistory (config : Config) (records : List CallRecord) : Type 0 where
  pub in_range : (i : ℕ) → IfSome (slice_get records i) (IsInRange config)
  pub history : History
  pub parts : (seat : ℕ) → IsPartOf history seat (calls_of records seat)
