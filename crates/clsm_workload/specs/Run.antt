-- How a run ends, and its session where writes wait.
use Rattle.std.specs.Prelude.{◌≡◌, ℕ, ◌⊎◌, ⊤, All, IsTrue, List, Option, Result, Ok, Err, [], ◌∷◌, IsOk, OnOk, flat_map, map}
use Rattle.clsm_model.specs.declared.config.Config.{Config}
use Rattle.clsm_model.specs.Config.{IsSound}
use Rattle.clsm_model.specs.declared.record.CallRecord.{CallRecord}
use Rattle.clsm_audit.specs.declared.fault.AuditError.{AuditError}
use Rattle.clsm_audit.specs.declared.fault.AuditError.TheVariants as audits
use Rattle.clsm_audit.specs.declared.fault.FaultKind.{FaultKind}
use Rattle.clsm_store.specs.Headline.{IsWholeHistory, longest_past}
use Rattle.clsm_store.specs.Opening.{IsRefusal}
use Rattle.clsm_store_calls.specs.Seats.{HasSizes, StoreId, SeatState}
use Rattle.clsm_store_audit.specs.Settled.{AreLawfulAlone}
use Rattle.clsm_text.specs.declared.failure.Failure.{Failure}
use Rattle.clsm_text.specs.declared.failure.Failure.TheVariants.{Device, Fault, Refused, Memory}
use Rattle.clsm_workload.specs.Calls.{HasMadeAll, HasSettled, IsAudited, IsVerdict}
use Rattle.clsm_workload.specs.Printed.{PrintsRun}
use Rattle.clsm_workload.specs.declared.load.AskedRun.{AskedRun}
use Rattle.clsm_workload.specs.declared.load.Load.{Load}
use Rattle.clsm_workload.specs.declared.ran.Ran.{Ran}
use Rattle.clsm_session.specs.Ended.{AreAllSeats, StopsSession}
use Rattle.clsm_session.specs.declared.session.Ended.{Ended}
use Rattle.clsm_session.specs.declared.refusal.SessionError.{SessionError}
use Rattle.clsm_workload.specs.declared.worker.Made.{Made}
use Rattle.clsm_workload.specs.declared.worker.Worked.{Worked}

-- it took all turns that it was asked for, and these are the records of them
abbrev pub HasTakenAll : Load → SeatState → List CallRecord → Type 0
HasTakenAll load seat records = HasMadeAll load seat records ⊎ HasSettled load seat records

-- all seats of a store of these sizes took all turns that they were asked for, each of them is
-- lawful, and all their records were audited
pub record IsWholeRun (config : Config) (load : Load) (ran : Ran) : Type 0 where
  pub store : StoreId
  pub sizes : HasSizes store config
  pub audited : IsAudited config store (HasTakenAll load) ran.seats.items ran.records.items ran.verdict
  pub lawful : AreLawfulAlone ran.seats.items

-- the run has the seats of these workers, each of which came to its end, and the verdict on all
-- their records
pub record IsAuditOf (config : Config) (worked : List Worked) (ran : Ran) : Type 0 where
  pub seats : ran.seats.items ≡ map (λ w. w.seat) worked
  pub ended : All (λ w. IsOk w.made.ended) worked
  pub records : ran.records.items ≡ flat_map (λ w. w.made.records.items) worked
  pub verdict : IsVerdict config ran.records.items ran.verdict

-- how a run with this verdict ends
abbrev pub ending_of : Result ⊤ AuditError → Result ⊤ Failure
ending_of (Ok _) = Ok tt
ending_of (Err (audits.Fault _ _)) = Err Fault
ending_of (Err audits.Memory) = Err Memory

-- why the calls of a run are not all made and audited: its sizes were refused, or memory; or its
-- store was opened, and a device failed
abbrev pub StopsCalls : Config → Failure → Type 0
StopsCalls config (Refused error) = IsRefusal config error
StopsCalls config Memory = ⊤
StopsCalls config Device = IsSound config
StopsCalls config _ = ⊥

-- after the opening
abbrev pub StopsWork : Failure → Type 0
StopsWork Memory = ⊤
StopsWork Device = ⊤
StopsWork _ = ⊥

-- the run is whole, and where its writes wait for room, its calls are one whole history
pub record IsRunOf (asked : AskedRun) (ran : Ran) : Type 0 where
  pub whole : IsWholeRun asked.config asked.load ran
  pub history : IsTrue asked.waits → IsWholeHistory ran.seats.items (longest_past ran.seats.items)

-- the audit of such a run found no fault, and this is printed behind what the output held
pub record EndsWell (asked : AskedRun) (before after : Option (List ℕ)) : Type 0 where
  pub ran : Ran
  pub is_run : IsRunOf asked ran
  pub verdict : ran.verdict ≡ Ok tt
  pub prints : PrintsRun asked ran before after

-- the audit of such a run found a fault, and this is printed
pub record FindsFault (asked : AskedRun) (before after : Option (List ℕ)) : Type 0 where
  pub ran : Ran
  pub kind : FaultKind
  pub index : ℕ
  pub is_run : IsRunOf asked ran
  pub verdict : ran.verdict ≡ Err (audits.Fault kind index)
  pub prints : PrintsRun asked ran before after

-- why a run does not end well: not all calls were made and audited, or the audit found a fault
abbrev pub StopsRun : AskedRun → Option (List ℕ) → Option (List ℕ) → Failure → Type 0
StopsRun asked before after Fault = IsSound asked.config × FindsFault asked before after
StopsRun asked before after failure = StopsCalls asked.config failure

-- the exit statuses of a run
abbrev pub IsStatus : ℕ → Type 0
IsStatus status = (status ≡ 0) ⊎ ((status ≡ 1) ⊎ ((status ≡ 2) ⊎ (status ≡ 3)))

-- ---- what the session of a run comes to

-- unless memory ran out, the seat took each turn that it was asked for, and these are the records
abbrev pub IsMade : Load → SeatState → Made → Type 0
IsMade load seat made = OnOk made.ended (HasSettled load seat made.records.items)

-- and so each seat
abbrev pub AreMade : Load → List SeatState → List Made → Type 0
AreMade load [] [] = Unit {0}
AreMade load (s ∷ ss) (m ∷ ms) = IsMade load s m × AreMade load ss ms
AreMade load _ _ = ⊥

-- the seats are all those of a store of these sizes, their calls are one whole history, and the
-- records are those of their turns
pub record IsEnded (config : Config) (load : Load) (ended : Ended Made) : Type 0 where
  pub sizes : HasSizes ended.store config
  pub all_seats : AreAllSeats ended.store config.seats ended.seats.items
  pub made : AreMade load ended.seats.items ended.answers.items
  pub whole : IsWholeHistory ended.seats.items (longest_past ended.seats.items)

-- the session ended so, or stopped for its cause
abbrev pub EndsSession : Config → Load → Result (Ended Made) SessionError → Type 0
EndsSession config load (Ok ended) = IsEnded config load ended
EndsSession config load (Err error) = StopsSession config error
