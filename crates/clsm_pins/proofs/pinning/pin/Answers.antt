use Rattle.clsm_pins.proofs.Pinned.{pins_of}
use Rattle.clsm_pins.proofs.pinning.pin.Goals as goal

pub returns-clause-pinned : goal.returns-clause-pinned
returns-clause-pinned g c = pins_of c.args.seat.now.knows c.pin.new.seat.knows c.look.new.seat.knows c.pin.ensures.0 c.look.result c.show_invariant.ensures
    c.pin.ensures.1.1 c.look.ensures.1
