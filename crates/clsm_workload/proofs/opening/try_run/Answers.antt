use Rattle.clsm_workload.proofs.Verdicts.{ends_well, stops_run}
use Rattle.clsm_workload.proofs.opening.try_run.Goals as goal

pub returns-clause-well : goal.returns-clause-well
returns-clause-well g c =
    ends_well c.args.asked.now _ _ c.in_ok-ran.ran c.in_ok-ran.ensures.run c.in_ok-print_run.ensures.prints c.ending.result c.ending.ensures

pub returns-clause-stopped : goal.returns-clause-stopped
returns-clause-stopped g c =
    stops_run c.args.asked.now _ _ c.in_ok-ran.ran c.in_ok-ran.ensures.run c.in_ok-print_run.ensures.prints c.ending.result
    c.in_ok-ran.ensures.opened c.ending.ensures
