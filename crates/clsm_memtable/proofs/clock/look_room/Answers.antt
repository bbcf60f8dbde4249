use Rattle.clsm_memtable.proofs.Drawn.{finds_room}
use Rattle.clsm_memtable.proofs.clock.look_room.Goals as goal

pub returns-clause-room : goal.returns-clause-room
returns-clause-room g c =
    finds_room c.args.seat.now.knows c.look-limit.new.seat.knows c.look-clock.new.seat.knows c.look-limit.result c.look-clock.result
    c.show_invariant.ensures c.requires.holds c.requires.unnoted c.look-limit.ensures.1 c.look-clock.ensures.1
