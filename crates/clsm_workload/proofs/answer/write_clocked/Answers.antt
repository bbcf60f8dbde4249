use Rattle.std.proofs.Common.{subst}
use Rattle.std.specs.Io.KnownBytes.{Appends}
use Rattle.clsm_workload.proofs.Lines.{timed_all, timed_more, timed_none}
use Rattle.clsm_workload.proofs.answer.write_clocked.Goals as goal

pub loop-record-init : goal.loop-record-init
loop-record-init g c = timed_none _ _ c.new-held.ensures.items

pub loop-record-preserved : goal.loop-record-preserved
loop-record-preserved g c =
    timed_more c.args.records.now c.loop-record.record-index c.record-item.result c.record-item.result _ _ _ _ _ _ c.loop-record-test.true
    c.record-item.is c.loop-record.invariant c.in_ok-hold_timed.ensures.held c.in_ok-pass_enough.ensures

pub returns-clause-prints : goal.returns-clause-prints
returns-clause-prints g c =
    timed_all c.args.records.now c.loop-record.record-index _ _ _ c.loop-record.held.items c.loop-record-test.false c.loop-record.invariant
    (subst (Appends _ _) c.as_slice.ensures.value c.in_ok-pass.ensures)
