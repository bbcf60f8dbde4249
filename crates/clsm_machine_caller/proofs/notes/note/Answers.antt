-- What each kind of step notes holds in every layout, at every seat, and whatever was found, where
-- the view takes none of these in.
use Rattle.clsm_machine_caller.proofs.notes.note.Goals as goal

pub returns-in_ok-note_entry-in-EnterShared : goal.returns-in_ok-note_entry-in-EnterShared
returns-in_ok-note_entry-in-EnterShared c = rw c.in-EnterShared.is (c.in_ok-note_entry-in-EnterShared.ensures c.args.seat)

pub returns-in_ok-note_leaving-in-LeaveShared : goal.returns-in_ok-note_leaving-in-LeaveShared
returns-in_ok-note_leaving-in-LeaveShared c = rw c.in-LeaveShared.is (c.in_ok-note_leaving-in-LeaveShared.ensures c.args.seat c.args.found)

pub returns-in_ok-note_draw-in-Draw : goal.returns-in_ok-note_draw-in-Draw
returns-in_ok-note_draw-in-Draw c = rw c.in-Draw.is (c.in_ok-note_draw-in-Draw.ensures c.args.layout.now c.args.seat)

pub returns-in-Link : goal.returns-in-Link
returns-in-Link c = rw c.in-Link.is (c.note_link.ensures c.args.seat)

pub returns-in-Cancel : goal.returns-in-Cancel
returns-in-Cancel c = rw c.in-Cancel.is (c.note_cancel.ensures c.args.seat)

pub returns-in-Pin : goal.returns-in-Pin
returns-in-Pin c = rw c.in-Pin.is (c.note_pin.ensures c.args.layout.now c.args.seat c.args.found)

pub returns-in_ok-note_end-in-Unpin : goal.returns-in_ok-note_end-in-Unpin
returns-in_ok-note_end-in-Unpin c = rw c.in-Unpin.is (c.in_ok-note_end-in-Unpin.ensures c.args.layout.now c.args.found)

pub returns-in_ok-note_close-in-CloseSnapshot : goal.returns-in_ok-note_close-in-CloseSnapshot
returns-in_ok-note_close-in-CloseSnapshot c = rw c.in-CloseSnapshot.is (c.in_ok-note_close-in-CloseSnapshot.ensures c.args.layout.now c.args.found)

pub returns-in-Insert : goal.returns-in-Insert
returns-in-Insert c = rw c.in-Insert.is (c.note_insert.ensures c.args.layout.now c.args.seat)

pub returns-in_ok-note_leaving-in-LeaveExclusive : goal.returns-in_ok-note_leaving-in-LeaveExclusive
returns-in_ok-note_leaving-in-LeaveExclusive c = rw c.in-LeaveExclusive.is (c.in_ok-note_leaving-in-LeaveExclusive.ensures c.args.seat c.args.found)

pub returns-in_ok-note_taking-in-EnterExclusive : goal.returns-in_ok-note_taking-in-EnterExclusive
returns-in_ok-note_taking-in-EnterExclusive c = rw c.in-EnterExclusive.is (c.in_ok-note_taking-in-EnterExclusive.ensures c.args.seat)

pub returns-in_ok-note_stage-in-Stage : goal.returns-in_ok-note_stage-in-Stage
returns-in_ok-note_stage-in-Stage c = rw c.in-Stage.is (c.in_ok-note_stage-in-Stage.ensures c.args.layout.now c.args.seat c.args.found)

pub returns-in_ok-note_commit-in-Commit : goal.returns-in_ok-note_commit-in-Commit
returns-in_ok-note_commit-in-Commit c = rw c.in-Commit.is (c.in_ok-note_commit-in-Commit.ensures c.args.layout.now c.args.found)
