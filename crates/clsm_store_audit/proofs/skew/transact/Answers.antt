use Rattle.clsm_store_audit.proofs.Skewed.{transacted}
use Rattle.clsm_store_audit.proofs.skew.transact.Goals as goal

pub returns : goal.returns
returns g c =
    let met = c.in_ok-time.ensures.holds in
    transacted c.args.seat c.read_both-read.new.seat c.args.own.now c.args.beside
    (record { seat = c.batch_if.new.seat; read = c.read_both-read.result; time = c.in_ok-time.time })
    c.read_both-read.ensures c.in_ok-time.ensures.written
    (record { reached = met.reads.reached; of_own = met.holds.0; of_beside = met.holds.1.0 })
