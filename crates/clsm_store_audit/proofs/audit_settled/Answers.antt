use Rattle.clsm_audit.proofs.WholeHistory.{is_lawful}
use Rattle.clsm_store_audit.proofs.audit_settled.Goals as goal

pub returns-in-Err-Memory : goal.returns-in-Err-Memory
returns-in-Err-Memory g c = record { lawful = is_lawful c.args.config.now c.args.records.now c.are_lawful.ensures }
