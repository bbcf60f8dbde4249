use Rattle.clsm_pins.proofs.Noted.{closes_of, is_opened}
use Rattle.clsm_pins.proofs.snapshotting.close_snapshot.Goals as goal

pub close_snapshot-requires : goal.close_snapshot-requires
close_snapshot-requires g c = (c.requires.of, is_opened c.args.seat.now.knows.view.snapshot c.args.time c.requires.opened)

pub returns-clause-closed : goal.returns-clause-closed
returns-clause-closed g c = closes_of c.args.seat.now.knows c.close_snapshot.new.seat.knows c.close_snapshot.ensures.0 c.args.time c.show_invariant.ensures
    c.requires.opened c.close_snapshot.ensures.1.1
