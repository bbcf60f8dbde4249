use Rattle.std.proofs.Common.{take}
use Rattle.std.specs.Io.KnownBytes.{Appends, append_known}
use Rattle.clsm_workload.specs.Printed.{records_text}
use Rattle.clsm_workload.proofs.answer.write_records.Given as goal

abbrev pub invariant-loop-record : goal.invariant-loop-record
invariant-loop-record g l =
    Appends (g.W.Write.contents l.initial.output) (append_known (g.W.Write.contents l.output) l.held.items)
    (records_text (take l.record-index l.records))
