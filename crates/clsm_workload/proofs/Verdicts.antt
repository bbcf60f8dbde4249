-- What the audit of records answers.
use Rattle.std.proofs.Common.{◌≡◌, arith, false, ℕ, List, Result, Ok, Err, IfErr, IfOk, IsOk, inl, inr, refl, sym, ◌∙◌, subst}
use Rattle.std.proofs.Math.Bool.{true≢false}
use Rattle.std.specs.List.{AllZip}
use Rattle.std.specs.Prelude.{All, ⊤, OnOk, Option}
use Rattle.clsm_store_calls.specs.Seats.{HasSizes, SeatState, StoreId}
use Rattle.clsm_store_audit.specs.Settled.{AreLawfulAlone}
use Rattle.clsm_audit.specs.Faults.{IsLawful, IsOneHistory, IsRefusal}
use Rattle.clsm_audit.specs.declared.fault.AuditError.{AuditError}
use Rattle.clsm_model.specs.declared.config.Config.{Config}
use Rattle.clsm_model.specs.declared.record.CallRecord.{CallRecord}
use Rattle.clsm_text.specs.declared.failure.Failure.{Failure}
use Rattle.clsm_store.specs.Headline.{IsWholeHistory, longest_past}
use Rattle.clsm_workload.specs.Calls.{AreSeatsOf, HasMadeAll, HasSettled, IsAudited, IsAuditedWhole, IsVerdict}
use Rattle.clsm_audit.specs.declared.fault.AuditError.TheVariants as audits
use Rattle.clsm_model.specs.Config.{IsSound}
use Rattle.clsm_text.specs.declared.failure.Failure.TheVariants.{BadLine, Device, Fault, Refused, Memory}
use Rattle.clsm_text.specs.Failure.{status_of}
use Rattle.clsm_workload.specs.Printed.{PrintsRun}
use Rattle.clsm_workload.specs.Run.{EndsWell, FindsFault, HasTakenAll, IsAuditOf, IsRunOf, StopsCalls, StopsRun, StopsWork, ending_of}
use Rattle.clsm_workload.specs.declared.load.AskedRun.{AskedRun}
use Rattle.clsm_workload.specs.declared.ran.Ran.{Ran}
use Rattle.clsm_workload.specs.declared.worker.Worked.{Worked}
use Rattle.clsm_workload.proofs.Brought.{joined_parts, parts_of, seats_of}
use Rattle.clsm_workload.proofs.Calls.{zip_map}

pub verdict_is : (config : Config) (records : List CallRecord) (answer : Result ⊤ AuditError) →
    OnOk answer (IsLawful config records) → OnOk answer (IsOneHistory records) →
    IfErr answer (IsRefusal config records) → IsVerdict config records answer
verdict_is config records (Ok _) lawful history fault = (lawful, history)
verdict_is config records (Err error) lawful history fault = fault

-- workers that all came to their end made their records so
abbrev pub AllMade : (SeatState → List CallRecord → Type 0) → List Worked → Type 0
AllMade Makes worked = All (λ (w : Worked). IsOk w.made.ended) worked → AllZip Makes (seats_of worked) (parts_of worked)

module _ (Makes : SeatState → List CallRecord → Type 0) (config : Config) (store : StoreId) (worked : List Worked) where
  audited_so : (r : Ran) → AreSeatsOf store config.seats (seats_of worked) → AllMade Makes worked → IsAuditOf config worked r
      → IsAudited config store Makes r.seats.items r.records.items r.verdict
  audited_so r are made audit = record {
    seats_are = subst (AreSeatsOf store config.seats) (sym audit.seats) are;
    made_by = record {
      parts = parts_of worked;
      each = subst (λ (ss : List SeatState). AllZip Makes ss (parts_of worked)) (sym audit.seats) (made audit.ended);
      joined = audit.records ∙ joined_parts worked;
    };
    verdict_is = audit.verdict;
  }

  -- what was audited, where the seats of the workers are all those of the store
  pub audited_is : (ran : Result Ran Failure) → AreSeatsOf store config.seats (seats_of worked) → AllMade Makes worked → IfOk ran (IsAuditOf config worked)
      → IfOk ran (λ r. IsAudited config store Makes r.seats.items r.records.items r.verdict)
  audited_is (Ok r) are made audit = audited_so r are made audit
  audited_is (Err _) are made audit = tt

  -- and where these seats are those that a session handed back
  pub audited_whole : HasSizes store config → (seats : List SeatState) (ran : Result Ran Failure) → AreSeatsOf store config.seats seats
      → IsWholeHistory seats (longest_past seats) → seats_of worked ≡ seats → AllMade Makes worked → IfOk ran (IsAuditOf config worked)
      → IfOk ran (λ r. IsAuditedWhole config Makes r.seats.items r.records.items r.verdict)
  audited_whole sizes seats (Ok r) are whole is made audit = record {
    store = store;
    sizes = sizes;
    audited = audited_so r (subst (AreSeatsOf store config.seats) (sym is) are) made audit;
    whole = subst (λ (ss : List SeatState). IsWholeHistory ss (longest_past ss)) (sym (audit.seats ∙ is)) whole;
  }
  audited_whole sizes seats (Err _) are whole is made audit = tt

-- what one made so, it made otherwise, too
audited_as : (P Q : SeatState → List CallRecord → Type 0) → ((s : SeatState) (rs : List CallRecord) → P s rs → Q s rs) → (config : Config) (store : StoreId)
    (r : Ran) → IsAudited config store P r.seats.items r.records.items r.verdict → IsAudited config store Q r.seats.items r.records.items r.verdict
audited_as P Q f config store r audited = record {
  seats_are = audited.seats_are;
  made_by = record {
    parts = audited.made_by.parts;
    each = zip_map P Q f r.seats.items audited.made_by.parts audited.made_by.each;
    joined = audited.made_by.joined;
  };
  verdict_is = audited.verdict_is;
}

-- a whole run, by the crew or by a session
pub of_crew : (asked : AskedRun) (store : StoreId) (ran : Result Ran Failure) → HasSizes store asked.config → asked.waits ≡ false →
    IfOk ran (λ r. IsAudited asked.config store (HasMadeAll asked.load) r.seats.items r.records.items r.verdict) →
    IfOk ran (λ r. AreLawfulAlone r.seats.items) → IfOk ran (IsRunOf asked)
of_crew asked store (Ok r) sizes waits audited lawful = record {
  whole = record {
    store = store;
    sizes = sizes;
    audited = audited_as (HasMadeAll asked.load) (HasTakenAll asked.load) (λ s rs made. inl made) asked.config store r audited;
    lawful = lawful;
  };
  history = λ so. absurd (true≢false (sym so ∙ waits));
}
of_crew asked store (Err _) sizes waits audited lawful = tt

pub of_session : (asked : AskedRun) (ran : Result Ran Failure) →
    IfOk ran (λ r. IsAuditedWhole asked.config (HasSettled asked.load) r.seats.items r.records.items r.verdict) →
    IfOk ran (λ r. AreLawfulAlone r.seats.items) → IfOk ran (IsRunOf asked)
of_session asked (Ok r) audited lawful = record {
  whole = record {
    store = audited.store;
    sizes = audited.sizes;
    audited = audited_as (HasSettled asked.load) (HasTakenAll asked.load) (λ s rs made. inr made) asked.config audited.store r audited.audited;
    lawful = lawful;
  };
  history = λ _. audited.whole;
}
of_session asked (Err _) audited lawful = tt

-- how a run ends, by its verdict
module _ (asked : AskedRun) (before after : Option (List ℕ)) (ran : Ran) (is_run : IsRunOf asked ran) (prints : PrintsRun asked ran before after) where
  well_by : (verdict : Result ⊤ AuditError) → ran.verdict ≡ verdict → OnOk (ending_of verdict) (EndsWell asked before after)
  well_by (Ok tt) is = record { ran = ran; is_run = is_run; verdict = is; prints = prints }
  well_by (Err (audits.Fault kind index)) is = tt
  well_by (Err audits.Memory) is = tt

  stops_by : (verdict : Result ⊤ AuditError) → IsSound asked.config → ran.verdict ≡ verdict → IfErr (ending_of verdict) (StopsRun asked before after)
  stops_by (Ok tt) sound is = tt
  stops_by (Err (audits.Fault kind index)) sound is =
      (sound, record { ran = ran; kind = kind; index = index; is_run = is_run; verdict = is; prints = prints })
  stops_by (Err audits.Memory) sound is = tt

  pub ends_well : (result : Result ⊤ Failure) → result ≡ ending_of ran.verdict → OnOk result (EndsWell asked before after)
  ends_well result is = subst (λ (r : Result ⊤ Failure). OnOk r (EndsWell asked before after)) (sym is) (well_by ran.verdict refl)

  pub stops_run : (result : Result ⊤ Failure) → IsSound asked.config → result ≡ ending_of ran.verdict → IfErr result (StopsRun asked before after)
  stops_run result sound is =
      subst (λ (r : Result ⊤ Failure). IfErr r (StopsRun asked before after)) (sym is) (stops_by ran.verdict sound refl)

module _ (asked : AskedRun) (before after : Option (List ℕ)) where
  -- what stops the calls, stops the run
  pub calls_stop : (failure : Failure) → StopsCalls asked.config failure → StopsRun asked before after failure
  calls_stop (BadLine number) stops = stops
  calls_stop Device stops = stops
  calls_stop Fault stops = absurd stops
  calls_stop (Refused error) stops = stops
  calls_stop Memory stops = stops

  -- and so what stops the work after the opening
  pub work_stops : (failure : Failure) → IsSound asked.config → StopsWork failure → StopsRun asked before after failure
  work_stops (BadLine number) sound stops = absurd stops
  work_stops Device sound stops = sound
  work_stops Fault sound stops = absurd stops
  work_stops (Refused error) sound stops = absurd stops
  work_stops Memory sound stops = tt

  -- the status of a fault is that of no other failure
  pub fault_status : (failure : Failure) (status : ℕ) → status ≡ status_of failure → StopsRun asked before after failure → status ≡ 2
      → FindsFault asked before after
  fault_status (BadLine number) status is stops two = absurd (omega (arith, is, two))
  fault_status Device status is stops two = absurd (omega (arith, is, two))
  fault_status Fault status is stops two = stops.1
  fault_status (Refused error) status is stops two = absurd (omega (arith, is, two))
  fault_status Memory status is stops two = absurd (omega (arith, is, two))
