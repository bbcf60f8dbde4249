-- What is wrong with records: the faults of each kind, and which one is answered.
use Rattle.std.specs.Prelude.{ℕ, ◌<◌, IfSome, IsSomeAnd, List, Option, None, Some, slice_get}
use Rattle.clsm_model.specs.declared.config.Config.{Config}
use Rattle.clsm_model.specs.declared.record.CallRecord.{CallRecord}
use Rattle.clsm_model.specs.Seats.{AreCallsIn}
use Rattle.clsm_audit.specs.declared.fault.AuditError.{AuditError}
use Rattle.clsm_audit.specs.declared.fault.AuditError.TheVariants.{Fault, Memory}
use Rattle.clsm_audit.specs.declared.fault.FaultKind.{FaultKind}
use Rattle.clsm_audit.specs.declared.fault.FaultKind.TheVariants.{Unknown, TwoAtOneTime, TimeRanBack, WrongReply}
use Rattle.clsm_audit.specs.Lawful.{HaveTimes, IsFromDueAt, IsKnownAt, IsRightAt, calls_of, due_of, open_of}
use Rattle.clsm_audit.specs.Written.{IsWrittenBefore, WritesAt, history_of}

-- ---- the faults, in the order of the passes

-- a seat, a time or a batch out of its range, or a snapshot used as it may not be
abbrev pub IsUnknownAt : Config → List CallRecord → ℕ → Type 0
IsUnknownAt config records i = ¬ IsKnownAt config records i

-- a write at a time at which an earlier record writes
abbrev pub IsSecondAt : List CallRecord → ℕ → Type 0
IsSecondAt records i =
    IsSomeAnd (slice_get records i) (λ r. (t : ℕ) × WritesAt t r × IsWrittenBefore records i t)

-- a time below the due of its seat
abbrev pub RanBackAt : List CallRecord → ℕ → Type 0
RanBackAt records i = ¬ IsFromDueAt records i

-- a reading that is not what the writes below its time give, or stands inside a batch
abbrev pub IsWrongAt : List CallRecord → ℕ → Type 0
IsWrongAt records i = ¬ IsRightAt records i

-- ---- the answer

-- no index has the fault
abbrev pub HasNone : (ℕ → Type 0) → Type 0
HasNone IsFault = (i : ℕ) → ¬ IsFault i

-- each record has a time in its range, no two write at one, and the reading at the index is wrong
pub record IsOnlyWrong (records : List CallRecord) (i : ℕ) : Type 0 where
  pub times : HaveTimes records
  pub alone : HasNone (IsSecondAt records)
  pub wrong : IsWrongAt records i

-- the index has the fault, and no lower one has it
pub record IsFirst (IsFault : ℕ → Type 0) (i : ℕ) : Type 0 where
  pub here : IsFault i
  pub least : (j : ℕ) → j < i → ¬ IsFault j

-- the first index with the fault, if there is one
abbrev pub IsFirstOf : (ℕ → Type 0) → Option ℕ → Type 0
IsFirstOf IsFault None = HasNone IsFault
IsFirstOf IsFault (Some i) = IsFirst IsFault i

-- it holds at each index below the one found, and not there; where none is found, at each
pub record IsFirstNot (Holds : ℕ → Type 0) (found : Option ℕ) : Type 0 where
  pub fails : IfSome found (λ i. ¬ Holds i)
  pub below : (i : ℕ) → IfSome found (λ first. i < first) → Holds i

-- the first index with a fault of the kind, where no index has one of an earlier pass
abbrev pub IsFirstFault : Config → List CallRecord → FaultKind → ℕ → Type 0
IsFirstFault config records Unknown i = IsFirst (IsUnknownAt config records) i
IsFirstFault config records TwoAtOneTime i =
    HasNone (IsUnknownAt config records) × IsFirst (IsSecondAt records) i
IsFirstFault config records TimeRanBack i =
    HasNone (IsUnknownAt config records) × HasNone (IsSecondAt records) × IsFirst (RanBackAt records) i
IsFirstFault config records WrongReply i =
    HasNone (IsUnknownAt config records) × HasNone (IsSecondAt records) × HasNone (RanBackAt records)
    × IsFirst (IsWrongAt records) i

-- what a refusal says: a fault is the first one
abbrev pub IsRefusal : Config → List CallRecord → AuditError → Type 0
IsRefusal config records (Fault kind index) = IsFirstFault config records kind index
IsRefusal config records Memory = Unit {0}

-- each index passes each pass
pub record Passes (config : Config) (records : List CallRecord) : Type 0 where
  pub known : (i : ℕ) → IsKnownAt config records i
  pub alone : HasNone (IsSecondAt records)
  pub from_due : (i : ℕ) → IsFromDueAt records i
  pub right : (i : ℕ) → IsRightAt records i

-- no index has a fault of any kind
pub record IsLawful (config : Config) (records : List CallRecord) : Type 0 where
  pub known : HasNone (IsUnknownAt config records)
  pub alone : HasNone (IsSecondAt records)
  pub rises : HasNone (RanBackAt records)
  pub right : HasNone (IsWrongAt records)

-- each seat's calls are its part of the history of all writes: each write stands at its time,
-- nothing else is in the history, each reading is right and inside no batch, and the times rise
abbrev pub IsOneHistory : List CallRecord → Type 0
IsOneHistory records =
    (seat : ℕ) → AreCallsIn (history_of records) seat (calls_of records seat) (due_of records seat) (open_of records seat)
