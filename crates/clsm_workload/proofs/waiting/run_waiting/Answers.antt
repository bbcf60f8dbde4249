use Rattle.std.proofs.Common.{rules, subst}
use Rattle.clsm_workload.specs.Run.{EndsSession}
use Rattle.clsm_workload.proofs.waiting.run_waiting.Goals as goal

pub returns-in-Err-ended-clause-stopped : goal.returns-in-Err-ended-clause-stopped
returns-in-Err-ended-clause-stopped g c =
    let config = c.args.asked.now.config in
    c.failure_of.ensures config (subst (EndsSession config c.args.asked.now.load) c.in-Err-ended.is (search rules))
