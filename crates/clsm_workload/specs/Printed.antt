-- What a run prints.
use Rattle.std.specs.Prelude.{◌≡◌, ℕ, ◌*◌, Bool, true, false, List, [], ◌++◌, codes, flat_map, map, Option, Result, Ok, Err, ⊤}
use Rattle.std.specs.Fmt.{decimal}
use Rattle.std.specs.Io.KnownBytes.{Appends}
use Rattle.clsm_audit.specs.Numbers.{name_of}
use Rattle.clsm_audit.specs.declared.place.Moments.{Moments}
use Rattle.clsm_audit.specs.declared.fault.AuditError.{AuditError}
use Rattle.clsm_audit.specs.declared.fault.AuditError.TheVariants as audits
use Rattle.clsm_model.specs.declared.record.CallRecord.{CallRecord}
use Rattle.clsm_text.specs.Written.{line_of, timed_line_of}
use Rattle.clsm_workload.specs.declared.load.AskedRun.{AskedRun}
use Rattle.clsm_workload.specs.declared.ran.Ran.{Ran}

-- how many calls the workers are asked for
abbrev pub calls_asked : AskedRun → ℕ
calls_asked asked = asked.config.seats * asked.load.ops

-- how many calls were made, and the verdict below it
abbrev pub run_text : ℕ → Result ⊤ AuditError → List ℕ
run_text calls (Ok _) = codes "calls " ++ decimal calls ++ codes "\naudit ok\n"
run_text calls (Err (audits.Fault kind index)) =
    codes "calls " ++ decimal calls ++ codes "\naudit fault " ++ name_of kind ++ codes " "
    ++ decimal index ++ codes "\n"
run_text calls (Err audits.Memory) = []

-- a record as a line, and with the moments of its call
abbrev pub record_text : CallRecord → List ℕ
record_text r = line_of r ++ codes "\n"

abbrev pub timed_text : (CallRecord × Moments) → List ℕ
timed_text timed = timed_line_of timed.0 timed.1 ++ codes "\n"

-- records, a line each
abbrev pub records_text : List CallRecord → List ℕ
records_text records = flat_map record_text records

-- records are printed behind what the output held, each with moments, a line each
pub record PrintsTimed (records : List CallRecord) (before after : Option (List ℕ)) : Type 0 where
  pub timed : List (CallRecord × Moments)
  pub each : map (λ (one : CallRecord × Moments). one.0) timed ≡ records
  pub prints : Appends before after (flat_map timed_text timed)

-- the same of a run: its records where they are shown, with moments or without, else the count of
-- calls and the verdict
abbrev pub PrintsBy : Bool → Bool → AskedRun → Ran → Option (List ℕ) → Option (List ℕ) → Type 0
PrintsBy false clock asked ran before after = Appends before after (run_text (calls_asked asked) ran.verdict)
PrintsBy true false asked ran before after = Appends before after (records_text ran.records.items)
PrintsBy true true asked ran before after = PrintsTimed ran.records.items before after

-- by what is asked for
abbrev pub PrintsRun : AskedRun → Ran → Option (List ℕ) → Option (List ℕ) → Type 0
PrintsRun asked ran before after = PrintsBy asked.shows.records asked.shows.clock asked ran before after
