use Rattle.clsm_machine_caller.proofs.looks.note_look.Goals as goal

pub returns-in-Lock : goal.returns-in-Lock
returns-in-Lock c = rw c.in-Lock.is (c.note_lock.ensures c.args.layout.now)

pub returns-in-Clock : goal.returns-in-Clock
returns-in-Clock c = rw c.in-Clock.is (c.note_clock.ensures c.args.layout.now)

pub returns-in-Limit : goal.returns-in-Limit
returns-in-Limit c = rw c.in-Limit.is (c.note_limit.ensures c.args.layout.now)
