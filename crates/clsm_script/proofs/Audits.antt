-- What an audit of a session's records answers.
use Rattle.std.proofs.Common.{Result, Ok, Err, IfErr}
use Rattle.std.specs.Prelude.{OnOk}
use Rattle.clsm_audit.specs.Faults.{IsLawful, IsOneHistory, IsRefusal}
use Rattle.clsm_audit.specs.declared.fault.AuditError.{AuditError}
use Rattle.clsm_script.specs.Play.{IsAudited}
use Rattle.clsm_script.specs.declared.session.Session.{Session}

pub audited : (session : Session) (answer : Result (Unit {0}) AuditError) →
    OnOk answer (IsLawful session.config session.records) →
    OnOk answer (IsOneHistory session.records) →
    IfErr answer (IsRefusal session.config session.records) → IsAudited session answer
audited session (Ok _) lawful history fault = (lawful, history)
audited session (Err error) lawful history fault = fault
