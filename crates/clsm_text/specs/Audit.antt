-- The audit of the records that lines say.
use Rattle.std.specs.Prelude.{◌≡◌, ℕ, ◌-◌, ◌<◌, ◌≤◌, ⊤, List, [], ◌∷◌, ◌++◌, Bool, codes, false, true, length, take}
use Rattle.std.specs.Fmt.{decimal}
use Rattle.std.specs.Io.KnownBytes.{Appends}
use Rattle.std.specs.Prelude.{filter_map, slice_get, All, Contains, IfSome, IsSome, IsSomeAnd}
use Rattle.std.specs.Prelude.{slice_index, slice_index_or, Option, None, Some, Ok}
use Rattle.std.specs.List.{AllZip}
use Rattle.clsm_model.specs.declared.config.Config.{Config}
use Rattle.clsm_model.specs.declared.record.CallRecord.{CallRecord}
use Rattle.clsm_audit.specs.Faults.{IsFirstFault, IsLawful}
use Rattle.clsm_audit.specs.Numbers.{name_of}
use Rattle.clsm_audit.specs.RealTime.{IsFirstTooEarly, KeepsRealTime}
use Rattle.clsm_audit.specs.declared.fault.FaultKind.{FaultKind}
use Rattle.clsm_audit.specs.declared.place.Moments.{Moments}
use Rattle.clsm_text.specs.Line.{lines_of}
use Rattle.clsm_text.specs.declared.failure.Failure.{Failure}
use Rattle.clsm_text.specs.declared.failure.Failure.TheVariants.{BadLine, Device, Memory}
use Rattle.clsm_text.specs.Lines.{ReadsLine}
use Rattle.clsm_text.specs.declared.timed.RecordLine.{RecordLine}
use Rattle.clsm_text.specs.declared.verdict.Verdict.{Verdict}
use Rattle.clsm_text.specs.declared.verdict.Verdict.TheVariants.{Lawful, Fault, Stale}

-- ---- what lines say, where moments are asked for, or not

-- each line says this: a record, or nothing
abbrev pub AreSaid : Bool → List (List ℕ) → List (Option RecordLine) → Type 0
AreSaid timed lines said = AllZip (λ line one. ReadsLine timed line (Ok one)) lines said

abbrev pub record_in : Option RecordLine → Option CallRecord
record_in None = None
record_in (Some line) = Some line.record

abbrev pub moments_in : Option RecordLine → Option Moments
moments_in None = None
moments_in (Some line) = line.moments

-- the records that are said, in their order
abbrev pub records_of : List (Option RecordLine) → List CallRecord
records_of said = filter_map record_in said

-- the moments that are said with them
abbrev pub moments_of : List (Option RecordLine) → List Moments
moments_of said = filter_map moments_in said

-- the record with this index stands on the line with this number, counted from 1: the line says a
-- record, and so many records stand on the lines before it
pub record StandsOn (said : List (Option RecordLine)) (index number : ℕ) : Type 0 where
  pub counted : 1 ≤ number
  pub there : IsSomeAnd (slice_get said (number - 1)) IsSome
  pub before : length (records_of (take (number - 1) said)) ≡ index

-- the lines say these records and moments, and beside each record stands the number of its line; a
-- record has moments where they are asked for
pub record IsListOf (timed : Bool) (lines : List (List ℕ)) (records : List CallRecord) (numbers : List ℕ) (moments : List Moments) : Type 0 where
  pub said : List (Option RecordLine)
  pub says : AreSaid timed lines said
  pub records_are : records ≡ records_of said
  pub moments_are : moments ≡ moments_of said
  pub each_timed : timed ≡ true → length moments ≡ length records
  pub count : length numbers ≡ length records
  pub stand : (index : ℕ) → index < length numbers →
      StandsOn said index (slice_index numbers index)

-- ---- what the audit says of them

-- the lines say records that are lawful, and where it is asked for, their calls keep the order of
-- real time
pub record AreLawful (config : Config) (order : Bool) (bytes : List ℕ) : Type 0 where
  pub said : List (Option RecordLine)
  pub says : AreSaid order (lines_of bytes) said
  pub lawful : IsLawful config (records_of said)
  pub in_order : order ≡ true → KeepsRealTime (records_of said) (moments_of said)

-- the lines say records of which the first with a fault stands on the line with this number
pub record HasFaultOn (config : Config) (order : Bool) (bytes : List ℕ) (kind : FaultKind) (number : ℕ) :
    Type 0 where
  pub said : List (Option RecordLine)
  pub says : AreSaid order (lines_of bytes) said
  pub index : ℕ
  pub fault : IsFirstFault config (records_of said) kind index
  pub stands : StandsOn said index number

-- the lines say records that are lawful, and of those whose call is too early the first one stands
-- on the line with this number
pub record IsStaleOn (config : Config) (bytes : List ℕ) (number : ℕ) : Type 0 where
  pub said : List (Option RecordLine)
  pub says : AreSaid true (lines_of bytes) said
  pub index : ℕ
  pub earlier : ℕ
  pub lawful : IsLawful config (records_of said)
  pub too_early : IsFirstTooEarly (records_of said) (moments_of said) index earlier
  pub stands : StandsOn said index number

-- the verdict is right
abbrev pub IsVerdict : Config → Bool → List ℕ → Verdict → Type 0
IsVerdict config order bytes Lawful = AreLawful config order bytes
IsVerdict config order bytes (Fault kind number) = HasFaultOn config order bytes kind number
IsVerdict config order bytes (Stale number) = (order ≡ true) × IsStaleOn config bytes number

-- ---- what is printed

-- the verdict as it is printed
abbrev pub verdict_text : Verdict → List ℕ
verdict_text Lawful = codes "audit ok"
verdict_text (Fault kind number) = codes "audit fault " ++ name_of kind ++ codes " " ++ decimal number
verdict_text (Stale number) = codes "audit fault Stale " ++ decimal number

-- it is printed as a line behind what the output held
abbrev pub PrintsLine : Option (List ℕ) → Option (List ℕ) → Verdict → Type 0
PrintsLine before after verdict = Appends before after (verdict_text verdict ++ codes "\n")

-- known bytes grow
abbrev pub Grows : Option (List ℕ) → Option (List ℕ) → Type 0
Grows before after = (more : List ℕ) × Appends before after more

-- it is printed so, and something may stand behind it
pub record PrintsFirst (before after : Option (List ℕ)) (verdict : Verdict) : Type 0 where
  pub more : List ℕ
  pub printed : Appends before after ((verdict_text verdict ++ codes "\n") ++ more)

-- and behind `audit ok` a history stands if one is asked for
abbrev pub PrintsVerdict : Bool → Option (List ℕ) → Option (List ℕ) → Verdict → Type 0
PrintsVerdict history before after Lawful =
    (history ≡ false → PrintsLine before after Lawful) × PrintsFirst before after Lawful
PrintsVerdict history before after verdict = PrintsLine before after verdict

-- the exit status of a verdict
abbrev pub status_of : Verdict → ℕ
status_of Lawful = 0
status_of (Fault kind number) = 2
status_of (Stale number) = 2

-- the lines say records of which one has a fault or is too early, and the first such is printed
pub record PrintsFault (config : Config) (order : Bool) (before after : Option (List ℕ)) (bytes : List ℕ) :
    Type 0 where
  pub verdict : Verdict
  pub is_fault : status_of verdict ≡ 2
  pub is_right : IsVerdict config order bytes verdict
  pub printed : PrintsLine before after verdict

-- ---- why there is no verdict

-- the line says nothing, or a record
abbrev pub IsGood : Bool → List ℕ → Type 0
IsGood timed line = (said : Option RecordLine) × ReadsLine timed line (Ok said)

-- the line of this number, counted from 1, is the first that is not good
pub record IsFirstBad (timed : Bool) (bytes : List ℕ) (number : ℕ) : Type 0 where
  pub counted : 1 ≤ number
  pub there : number ≤ length (lines_of bytes)
  pub good_before : All (IsGood timed) (take (number - 1) (lines_of bytes))
  pub bad : ¬ IsGood timed (slice_index_or (lines_of bytes) (number - 1) [])

-- why lines are not audited
abbrev pub StopsLines : Bool → List ℕ → Failure → Type 0
StopsLines timed bytes (BadLine number) = IsFirstBad timed bytes number
StopsLines timed bytes Memory = ⊤
StopsLines timed bytes _ = ⊥

-- why an input is not audited, where its bytes are known
abbrev pub StopsAudit : Bool → Option (List ℕ) → Failure → Type 0
StopsAudit timed input (BadLine number) = IfSome input (λ bytes. IsFirstBad timed bytes number)
StopsAudit timed input Device = ⊤
StopsAudit timed input Memory = ⊤
StopsAudit timed input _ = ⊥

-- ---- the status

-- 0 where the records are lawful; 1 for a bad line, or a failed read or write; 2 for a fault; 3 if
-- memory runs out
abbrev pub IsStatus : ℕ → Type 0
IsStatus status = Contains (0 ∷ 1 ∷ 2 ∷ 3 ∷ []) status
