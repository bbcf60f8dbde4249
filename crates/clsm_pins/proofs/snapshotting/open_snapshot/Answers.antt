use Rattle.clsm_pins.proofs.Noted.{notes_of}
use Rattle.clsm_pins.proofs.snapshotting.open_snapshot.Goals as goal

pub returns-clause-noted : goal.returns-clause-noted
returns-clause-noted g c = notes_of c.args.seat.now.knows c.look-noted.new.seat.knows c.note.new.seat.knows c.look.new.seat.knows c.look-noted.result
    c.note.ensures.0 c.look.result
    c.show_invariant.ensures c.requires.free c.requires.pinned c.look-noted.ensures.1 c.note.ensures.1.1 c.look.ensures.1
