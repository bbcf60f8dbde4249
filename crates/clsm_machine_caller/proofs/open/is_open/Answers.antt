-- A test that reads no layout, or no slot, decides in each layout, or with each history.
use Rattle.clsm_law.specs.Worlds.{open_past}
use Rattle.clsm_machine_caller.proofs.open.is_open.Goals as goal

pub returns-in-EnterShared : goal.returns-in-EnterShared
returns-in-EnterShared c = rw c.in-EnterShared.is (c.may_enter.ensures c.args.layout.now (open_past c.args.slots.now c.args.batches.now c.args.view.now.past))

pub returns-in-Draw : goal.returns-in-Draw
returns-in-Draw c = rw c.in-Draw.is (c.may_draw.ensures c.args.layout.now (open_past c.args.slots.now c.args.batches.now c.args.view.now.past))

pub returns-in-Fill : goal.returns-in-Fill
returns-in-Fill c = rw c.in-Fill.is (c.may_fill.ensures (open_past c.args.slots.now c.args.batches.now c.args.view.now.past) c.in-Fill.field-1)

pub returns-in-Link : goal.returns-in-Link
returns-in-Link c = rw c.in-Link.is (c.may_link.ensures (open_past c.args.slots.now c.args.batches.now c.args.view.now.past))

pub returns-in-Decide : goal.returns-in-Decide
returns-in-Decide c = rw c.in-Decide.is (c.may_decide.ensures c.args.layout.now)

pub returns-in-Cancel : goal.returns-in-Cancel
returns-in-Cancel c = rw c.in-Cancel.is (c.may_cancel.ensures (open_past c.args.slots.now c.args.batches.now c.args.view.now.past))

pub returns-in-Note : goal.returns-in-Note
returns-in-Note c = rw c.in-Note.is (c.may_note.ensures c.args.layout.now (open_past c.args.slots.now c.args.batches.now c.args.view.now.past))

pub returns-in-Insert : goal.returns-in-Insert
returns-in-Insert c = rw c.in-Insert.is (c.may_insert.ensures (open_past c.args.slots.now c.args.batches.now c.args.view.now.past))

pub returns-in-Stage : goal.returns-in-Stage
returns-in-Stage c = rw c.in-Stage.is (c.may_stage.ensures c.args.layout.now
    (open_past c.args.slots.now c.args.batches.now c.args.view.now.past) c.in-Stage.field-1)

pub returns-in-Commit : goal.returns-in-Commit
returns-in-Commit c = rw c.in-Commit.is (c.may_commit.ensures c.args.layout.now (open_past c.args.slots.now c.args.batches.now c.args.view.now.past))
