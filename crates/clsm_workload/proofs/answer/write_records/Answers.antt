use Rattle.std.proofs.Common.{subst}
use Rattle.std.specs.Io.KnownBytes.{Appends}
use Rattle.clsm_workload.proofs.Lines.{held_none, records_all, records_more}
use Rattle.clsm_workload.proofs.answer.write_records.Goals as goal

pub loop-record-init : goal.loop-record-init
loop-record-init g c = held_none _ _ c.new-held.ensures.items

pub loop-record-preserved : goal.loop-record-preserved
loop-record-preserved g c =
    records_more c.args.records.now c.loop-record.record-index c.record-item.result c.record-item.result _ _ _ _ _ c.loop-record-test.true
    c.record-item.is c.loop-record.invariant c.in_ok-hold.ensures.held c.in_ok-pass_enough.ensures

pub returns-clause-prints : goal.returns-clause-prints
returns-clause-prints g c =
    records_all c.args.records.now c.loop-record.record-index _ _ _ c.loop-record.held.items c.loop-record-test.false c.loop-record.invariant
    (subst (Appends _ _) c.as_slice.ensures.value c.in_ok-pass.ensures)
