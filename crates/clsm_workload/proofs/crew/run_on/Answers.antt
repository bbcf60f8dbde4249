use Rattle.std.proofs.Common.{rules, refl}
use Rattle.clsm_workload.specs.Calls.{AreWorked, HasMadeAll}
use Rattle.clsm_workload.proofs.Seated.{all_made, all_seated, are_seats}
use Rattle.clsm_workload.proofs.Verdicts.{audited_is}
use Rattle.clsm_workload.proofs.crew.run_on.Goals as goal

pub work_merging-worked-requires-clause-seats : goal.work_merging-worked-requires-clause-seats
work_merging-worked-requires-clause-seats g c κs within =
    all_seated c.args.opened.store c.args.asked.now.config.seats c.args.opened.seats.items c.requires.seats

pub returns-clause-audited : goal.returns-clause-audited
returns-clause-audited g c =
    let load = c.args.asked.now.load in
    let done : AreWorked load c.args.opened.seats.items c.in_ok-worked.worked.items = search rules in
    audited_is (HasMadeAll load) c.args.asked.now.config c.args.opened.store c.in_ok-worked.worked.items c.audited.result
    (are_seats c.args.opened.store c.args.asked.now.config.seats c.args.opened.seats.items c.requires.seats load c.in_ok-worked.worked.items done
    _ refl)
    (all_made c.args.opened.store c.args.asked.now.config.seats c.args.opened.seats.items c.requires.seats load c.in_ok-worked.worked.items done)
    c.audited.ensures.audit
