use Rattle.clsm_workload.proofs.Verdicts.{of_crew}
use Rattle.clsm_workload.proofs.opening.run.Goals as goal

pub returns-clause-run : goal.returns-clause-run
returns-clause-run g c =
    of_crew c.args.asked.now c.in_ok-opened.opened.store c.run_on.result c.in_ok-opened.ensures.store c.if-asked.false c.run_on.ensures.audited
    c.run_on.ensures.lawful
