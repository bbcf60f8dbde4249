use Rattle.clsm_store_calls.proofs.AloneParts.{begun_alone}
use Rattle.clsm_store_calls.proofs.conditional.begin_alone.Goals as goal

pub returns-clause-begins : goal.returns-clause-begins
returns-clause-begins g c =
    begun_alone c.args.seat.now.knows c.pin-component.new.seat.knows c.look-limit.new.seat.knows c.look-until.new.seat.knows c.settle_below.new.seat.knows
    c.pin-component.result c.look-until.result c.look-limit.result c.requires.alone c.pin-component.ensures.pinned c.show_invariant.ensures
    c.look-limit.ensures.1 c.look-until.ensures.1 c.settle_below.ensures.keeps c.settle_below.ensures.settled
