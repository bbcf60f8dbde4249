use Rattle.std.proofs.Common.{◌≡◌, ◌++◌, length, map}
use Rattle.clsm_workload.specs.declared.worker.Worked.{Worked}
use Rattle.clsm_workload.proofs.waiting.rejoin.Given as goal

-- the seats so far and those still to come are all of them, and so what was made by them
abbrev pub invariant-loop-seat : goal.invariant-loop-seat
invariant-loop-seat l = record {
  seats : map (λ (w : Worked). w.seat) l.worked.items ++ l.seat-iterator.rest.items ≡ l.fn.seats.items;
  made : map (λ (w : Worked). w.made) l.worked.items ++ l.made.rest.items ≡ l.fn.made.items;
  rest : length l.made.rest.items ≡ length l.seat-iterator.rest.items;
}
