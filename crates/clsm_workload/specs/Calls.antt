-- The turns of a workload that a seat's worker took, one after the other, what it keeps of them, and
-- what the audit says of those of all seats.
use Rattle.std.specs.Prelude.{◌≡◌, ℕ, zero, suc, is_some, ◌<◌, ◌≤◌, List, [], OnOk, length, slice_index_or, Result, Ok, Err, ⊤}
use Rattle.rand_pcg.specs.Lcg.{started, increment_of}
use Rattle.rand_pcg.specs.Pcg.{multiplier_64}
use Rattle.clsm_model.specs.declared.record.CallRecord.{CallRecord}
use Rattle.clsm_store.specs.Meetings.{IsUnrecorded}
use Rattle.clsm_store_calls.specs.Seats.{SeatState, newcomer, HasSizes, IsSameSeat, Refuses, StoreId}
use Rattle.clsm_workload.specs.Turns.{TakesTurn}
use Rattle.clsm_workload.specs.Workload.{Source, after_draw, drawn, turn_from}
use Rattle.clsm_workload.specs.declared.load.Load.{Load}
use Rattle.clsm_workload.specs.declared.worker.Made.{Made}
use Rattle.clsm_workload.specs.declared.worker.Worked.{Worked}
use Rattle.std.specs.List.{AllZip, flat_map}
use Rattle.clsm_model.specs.declared.config.Config.{Config}
use Rattle.clsm_store.specs.Headline.{IsWholeHistory, longest_past}
use Rattle.clsm_audit.specs.declared.fault.AuditError.{AuditError}
use Rattle.clsm_audit.specs.Faults.{IsLawful, IsOneHistory, IsRefusal}

-- the workload of the worker with this number
abbrev pub workload_of : Load → ℕ → Source
workload_of load number = record {
  words = started 64 multiplier_64 load.seed (increment_of 64 number);
  keys = load.keys;
  batch = load.batch;
  many = load.many;
  swap = load.swap;
}

-- the workload after its next turn, and after so many
abbrev pub after_turn : Source → Source
after_turn source = record source { words = after_draw source.words }

abbrev pub after_turns : ℕ → Source → Source
after_turns zero source = source
after_turns (suc n) source = after_turn (after_turns n source)

-- the next turn of the workload was taken: its calls were answered, and recorded, or they were
-- refused for their causes
abbrev pub TakesNext : Source → SeatState → SeatState → List CallRecord → List CallRecord → Type 0
TakesNext source old new had has =
    TakesTurn (turn_from source (drawn source.words) (is_some old.snapshot)) old new had has

-- and so its first turns, so many, of which these are the records
abbrev pub TakesTurns : ℕ → Source → SeatState → SeatState → List CallRecord → Type 0
TakesTurns zero source old new records = (new ≡ old) × (records ≡ [])
TakesTurns (suc n) source old new records =
    (between : SeatState) × (before : List CallRecord) × TakesTurns n source old between before
    × TakesNext (after_turns n source) between new before records

-- or fewer than so many, and then perhaps a call of the next one was refused
pub record TakesSome (most : ℕ) (source : Source) (old new : SeatState) (records : List CallRecord) : Type 0 where
  pub turns : ℕ
  pub few : turns ≤ most
  pub between : SeatState
  pub taken : TakesTurns turns source old between records
  pub rest : Refuses between new

-- the seat's worker took as many turns of its workload as it was asked for
abbrev pub MakesAll : Load → SeatState → SeatState → List CallRecord → Type 0
MakesAll load old new records = TakesTurns load.ops (workload_of load old.number) old new records

-- it did so since the store was opened, and nothing else
abbrev pub HasMadeAll : Load → SeatState → List CallRecord → Type 0
HasMadeAll load seat records = MakesAll load (newcomer seat.store seat.number) seat records

-- and the seat was settled then
pub record HasSettled (load : Load) (seat : SeatState) (records : List CallRecord) : Type 0 where
  pub ended : SeatState
  pub made : MakesAll load (newcomer seat.store seat.number) ended records
  pub settled : IsUnrecorded ended seat

-- ---- what a worker keeps of its turns

-- the records are exactly those of the turns that it took; and unless memory ran out, these are as
-- many as it was asked for
pub record Works (load : Load) (old new : SeatState) (made : Made) : Type 0 where
  pub same : IsSameSeat old new
  pub some : TakesSome load.ops (workload_of load old.number) old new made.records.items
  pub all : OnOk made.ended (MakesAll load old new made.records.items)

-- and the seat is given back with them
abbrev pub IsWorked : Load → SeatState → Worked → Type 0
IsWorked load old done = Works load old done.seat done.made

-- each of the seats is given back so, in their order
pub record AreWorked (load : Load) (old : List SeatState) (done : List Worked) : Type 0 where
  pub count : length done ≡ length old
  pub each : (i : ℕ) (s : SeatState) (w : Worked) → i < length old → slice_index_or old i s ≡ s → slice_index_or done i w ≡ w → IsWorked load s w

-- ---- what of the seats is audited

-- the records are those of the seats, a seat's behind those of the seats before it, and each seat
-- made its part of them so
pub record AreMadeBy (Makes : SeatState → List CallRecord → Type 0) (seats : List SeatState) (records : List CallRecord) : Type 0 where
  pub parts : List (List CallRecord)
  pub each : AllZip Makes seats parts
  pub joined : records ≡ flat_map (λ part. part) parts

-- all seats of the store, so many, in their order
pub record AreSeatsOf (store : StoreId) (count : ℕ) (seats : List SeatState) : Type 0 where
  pub counted : length seats ≡ count
  pub each : (i : ℕ) (s : SeatState) → i < count → slice_index_or seats i s ≡ s → (s.store ≡ store) × (s.number ≡ i)

-- what the audit says of the records: they are the calls of one lawful history, or which fault is
-- the first, or there was no memory for it
abbrev pub IsVerdict : Config → List CallRecord → Result ⊤ AuditError → Type 0
IsVerdict config records (Ok _) = IsLawful config records × IsOneHistory records
IsVerdict config records (Err error) = IsRefusal config records error

-- the seats are all those of the store, their records are these, and so the verdict on them
pub record IsAudited (config : Config) (store : StoreId) (Makes : SeatState → List CallRecord → Type 0) (seats : List SeatState) (records : List CallRecord)
    (verdict : Result ⊤ AuditError) : Type 0 where
  pub seats_are : AreSeatsOf store config.seats seats
  pub made_by : AreMadeBy Makes seats records
  pub verdict_is : IsVerdict config records verdict

-- the seats are all those of some store of these sizes, and their calls are one whole history
pub record IsAuditedWhole (config : Config) (Makes : SeatState → List CallRecord → Type 0) (seats : List SeatState) (records : List CallRecord)
    (verdict : Result ⊤ AuditError) : Type 0 where
  pub store : StoreId
  pub sizes : HasSizes store config
  pub audited : IsAudited config store Makes seats records verdict
  pub whole : IsWholeHistory seats (longest_past seats)
