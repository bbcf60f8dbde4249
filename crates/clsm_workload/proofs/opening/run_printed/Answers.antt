use Rattle.clsm_workload.proofs.Verdicts.{fault_status}
use Rattle.clsm_workload.proofs.opening.run_printed.Goals as goal

pub returns-clause-fault : goal.returns-clause-fault
returns-clause-fault g c = fault_status c.args.asked.now _ _ c.in-Err.failure c.status.result c.status.ensures c.in-Err.ensures.stopped
