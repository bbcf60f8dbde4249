use Rattle.clsm_pins.proofs.Pinned.{unpins_of}
use Rattle.clsm_pins.proofs.pinning.unpin.Goals as goal

pub returns-clause-unpinned : goal.returns-clause-unpinned
returns-clause-unpinned g c = unpins_of c.args.seat.now.knows c.unpin.new.seat.knows c.unpin.ensures.0 (g.E.Ending.end c.args.end.now) c.show_invariant.ensures
    c.unpin.ensures.1.1
