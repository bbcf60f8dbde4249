use Rattle.clsm_workload.proofs.Verdicts.{verdict_is}
use Rattle.clsm_workload.proofs.auditing.verdict_of.Goals as goal

pub returns : goal.returns
returns c =
    verdict_is c.args.config.now c.args.records.now c.audit.result c.audit.ensures.ok
    c.audit.ensures.history c.audit.ensures.fault
