use Rattle.std.proofs.Common.{List, IfErr, subst, ◌∙◌}
use Rattle.std.specs.Prelude.{OnOk}
use Rattle.clsm_audit.specs.Faults.{IsLawful, IsOneHistory, IsRefusal}
use Rattle.clsm_model.specs.declared.record.CallRecord.{CallRecord}
use Rattle.clsm_script.proofs.Audits.{audited}
use Rattle.clsm_script.proofs.session.Session.audit.Goals as goal

pub returns-in-Ok : goal.returns-in-Ok
returns-in-Ok c =
    let config = c.args.self.now.config in
    let is = c.deref.ensures.value ∙ c.in-Ok.ensures in
    let done = c.audit.ensures in
    audited c.args.self.now c.audit.result
    (subst (λ (rs : List CallRecord). OnOk c.audit.result (IsLawful config rs)) is done.ok)
    (subst (λ (rs : List CallRecord). OnOk c.audit.result (IsOneHistory rs)) is done.history)
    (subst (λ (rs : List CallRecord). IfErr c.audit.result (IsRefusal config rs)) is done.fault)
