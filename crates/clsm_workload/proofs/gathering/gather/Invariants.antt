use Rattle.std.proofs.Common.{◌≡◌, ◌++◌, IsOk, map}
use Rattle.std.specs.Prelude.{All}
use Rattle.clsm_workload.specs.declared.worker.Worked.{Worked}
use Rattle.clsm_workload.proofs.Brought.{records_by}
use Rattle.clsm_workload.proofs.gathering.gather.Given as goal

-- the seats and the records so far and those still to come are all of them
abbrev pub invariant-loop-one : goal.invariant-loop-one
invariant-loop-one l = record {
  seats : l.all.seats.items ++ map (λ (w : Worked). w.seat) l.one-iterator.rest.items ≡ map (λ (w : Worked). w.seat) l.fn.worked.items;
  records : l.all.records.items ++ records_by l.one-iterator.rest.items ≡ records_by l.fn.worked.items;
  ended : All (λ (w : Worked). IsOk w.made.ended) l.one-iterator.rest.items → All (λ (w : Worked). IsOk w.made.ended) l.fn.worked.items;
}
