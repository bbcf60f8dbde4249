use Rattle.std.proofs.Common.{take}
use Rattle.std.specs.Io.KnownBytes.{append_known}
use Rattle.clsm_workload.specs.Printed.{PrintsTimed}
use Rattle.clsm_workload.proofs.answer.write_clocked.Given as goal

abbrev pub invariant-loop-record : goal.invariant-loop-record
invariant-loop-record g l =
    PrintsTimed (take l.record-index l.records) (g.W.Write.contents l.initial.output)
    (append_known (g.W.Write.contents l.output) l.held.items)
