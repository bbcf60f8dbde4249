use Rattle.clsm_store_calls.proofs.ReadParts.{begun}
use Rattle.clsm_store_calls.proofs.reading.begin.Goals as goal

pub returns-clause-begins : goal.returns-clause-begins
returns-clause-begins g c =
    begun c.args.seat.now.knows c.pin_at_clock-point.new.seat.knows c.settle_below.new.seat.knows c.pin_at_clock-point.result.component
    c.pin_at_clock-point.result.until c.pin_at_clock-point.ensures.begins c.settle_below.ensures.keeps
