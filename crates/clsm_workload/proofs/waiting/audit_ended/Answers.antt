use Rattle.clsm_workload.specs.Calls.{HasSettled}
use Rattle.clsm_workload.proofs.Ended.{are_seats_of, as_many, settled}
use Rattle.clsm_workload.proofs.Verdicts.{audited_whole}
use Rattle.clsm_workload.proofs.waiting.audit_ended.Goals as goal

pub rejoin-requires : goal.rejoin-requires
rejoin-requires g c = as_many c.args.asked.now.load c.args.ended.seats.items c.args.ended.answers.items c.requires.made

pub returns-clause-audited : goal.returns-clause-audited
returns-clause-audited g c =
    let load = c.args.asked.now.load in
    audited_whole (HasSettled load) c.args.asked.now.config c.args.ended.store c.in_ok-worked.worked.items c.requires.sizes c.args.ended.seats.items
    c.audited.result
    (are_seats_of c.args.ended.store c.args.asked.now.config.seats c.args.ended.seats.items c.requires.all_seats) c.requires.whole
    c.in_ok-worked.ensures.seats
    (settled load c.args.ended.seats.items c.args.ended.answers.items c.requires.made c.in_ok-worked.worked.items
    c.in_ok-worked.ensures.seats c.in_ok-worked.ensures.made)
    c.audited.ensures.audit
