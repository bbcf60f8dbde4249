use Rattle.clsm_script.proofs.Sessions.{no_fault}
use Rattle.clsm_script.proofs.playing.settle_seats.Goals as goal

pub settle-requires : goal.settle-requires
settle-requires g c = rw c.in-Ok.is at c.requires.ends

pub returns-in-Err-Fault-clause-faultless : goal.returns-in-Err-Fault-clause-faultless
returns-in-Err-Fault-clause-faultless g c is =
    let faulted = c.requires.fault is in
    no_fault c.args.session.config c.args.session.records faulted.kind faulted.index c.settle-in-Err-Fault.ensures.history faulted.fault
