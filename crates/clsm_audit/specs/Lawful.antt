-- What is asked of each record: of its place, of its time, and of its reading.
use Rattle.std.specs.Prelude.{◌≡◌, ℕ, ◌<◌, ◌≤◌, ◌==◌, ◌^◌, filter, length, List, take, Option, None, Some, IfNone, IfSome, MatchBool, slice_get}
use Rattle.clsm_model.specs.declared.config.Config.{Config}
use Rattle.clsm_model.specs.declared.record.Deed.{Deed}
use Rattle.clsm_model.specs.declared.record.Deed.TheVariants.{Snapshot, Close, GetAt, Scan, Page, Batch as Group}
use Rattle.clsm_model.specs.declared.record.CallRecord.{CallRecord}
use Rattle.clsm_model.specs.Right.{AreWrites}
use Rattle.clsm_model.specs.Seats.{IsRightRecord, last_due, last_open}
use Rattle.clsm_audit.specs.Written.{history_of, is_write, time_past}

-- the calls of the seat, in its own order
abbrev pub calls_of : List CallRecord → ℕ → List CallRecord
calls_of records seat = filter (λ r. r.seat == seat) records

-- the due of the seat after its calls
abbrev pub due_of : List CallRecord → ℕ → ℕ
due_of records seat = last_due 0 None (calls_of records seat)

-- the snapshot that the seat has open after its calls
abbrev pub open_of : List CallRecord → ℕ → Option ℕ
open_of records seat = last_open None (calls_of records seat)

-- ---- what is asked of a record by itself

-- all times of a write stand below 2^62, and any other call at or below it
abbrev pub IsTime : CallRecord → Type 0
IsTime r = MatchBool (is_write r.deed) (time_past r ≤ 2 ^ 62) (r.time ≤ 2 ^ 62)

-- a batch has a member, and each of its members is a write
abbrev pub HasWrites : Deed → Type 0
HasWrites (Group members) = (1 ≤ length members) × AreWrites members
HasWrites deed = Unit {0}

-- a batch has no more members than a region has cells
abbrev pub FitsRegion : Config → Deed → Type 0
FitsRegion config (Group members) = length members ≤ config.cells
FitsRegion config deed = Unit {0}

-- the times are in their range, and a batch writes at each of its times
pub record HasTimes (r : CallRecord) : Type 0 where
  pub time : IsTime r
  pub writes : HasWrites r.deed

-- the seat, the size of a batch and the times are in their ranges
pub record IsInRange (config : Config) (r : CallRecord) : Type 0 where
  pub seat : r.seat < config.seats
  pub size : FitsRegion config r.deed
  pub times : HasTimes r

-- ---- what is asked of a record, after the calls of its seat that stand before it

-- a snapshot is opened where none is open, closed and read at its time, and a scan or a page under
-- it is at its time too
abbrev pub IsAtSnapshot : Option ℕ → ℕ → Deed → Type 0
IsAtSnapshot snapshot t Snapshot = snapshot ≡ None
IsAtSnapshot snapshot t Close = snapshot ≡ Some t
IsAtSnapshot snapshot t (GetAt key reply) = snapshot ≡ Some t
IsAtSnapshot snapshot t (Scan lo hi rows) = IfSome snapshot (λ s. t ≡ s)
IsAtSnapshot snapshot t (Page range rows more) = IfSome snapshot (λ s. t ≡ s)
IsAtSnapshot snapshot t _ = Unit {0}

-- what the record says is in its ranges, and the snapshot is used as it may be
pub record IsKnown (config : Config) (snapshot : Option ℕ) (r : CallRecord) : Type 0 where
  pub in_range : IsInRange config r
  pub snapshot_use : IsAtSnapshot snapshot r.time r.deed

-- the time is not below the due, but for a close and the reads under an open snapshot
abbrev pub IsFromDue : ℕ → Option ℕ → ℕ → Deed → Type 0
IsFromDue due snapshot t Close = Unit {0}
IsFromDue due snapshot t (GetAt key reply) = Unit {0}
IsFromDue due snapshot t (Scan lo hi rows) = IfNone snapshot (due ≤ t)
IsFromDue due snapshot t (Page range rows more) = IfNone snapshot (due ≤ t)
IsFromDue due snapshot t _ = due ≤ t

-- ---- the same of the record at an index, if there is one

-- the record at the index is known
abbrev pub IsKnownAt : Config → List CallRecord → ℕ → Type 0
IsKnownAt config records i =
    IfSome (slice_get records i) (λ r. IsKnown config (open_of (take i records) r.seat) r)

-- the record at the index is not below the due of its seat
abbrev pub IsFromDueAt : List CallRecord → ℕ → Type 0
IsFromDueAt records i =
    IfSome (slice_get records i) (λ r.
    IsFromDue (due_of (take i records) r.seat) (open_of (take i records) r.seat) r.time r.deed)

-- what the record at the index read is what the writes below its time give, and it read at no time
-- strictly inside a batch
abbrev pub IsRightAt : List CallRecord → ℕ → Type 0
IsRightAt records i = IfSome (slice_get records i) (IsRightRecord (history_of records))

-- ---- the same of all records

-- the times of each are in their range, and each batch writes at all of its times
abbrev pub HaveTimes : List CallRecord → Type 0
HaveTimes records = (i : ℕ) → IfSome (slice_get records i) HasTimes
