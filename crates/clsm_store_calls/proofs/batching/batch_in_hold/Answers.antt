use Rattle.std.proofs.Common.{arith, length}
use Rattle.clsm_store_calls.proofs.Staged.{may_stage, no_room}
use Rattle.clsm_store_calls.proofs.batching.batch_in_hold.Goals as goal

pub returns-then-members-room-clause-refused : goal.returns-then-members-room-clause-refused
returns-then-members-room-clause-refused g c =
    let found = c.look_room-room in
    no_room c.args.seat.now.knows found.new.seat.knows found.result.clock found.result.limit (length c.args.members.now) found.ensures.room
    (let more = c.if-members-room.true in omega arith)

pub stage_all-requires-clause-may : goal.stage_all-requires-clause-may
stage_all-requires-clause-may g c =
    let found = c.look_room-room in
    may_stage c.args.seat.now.knows found.new.seat.knows found.result.clock found.result.limit
    (length c.args.members.now) c.requires.alone c.requires.uncommitted found.ensures.room
    (let few = c.if-members-room.false in let within = found.ensures.room.within in omega arith) (omega arith)
