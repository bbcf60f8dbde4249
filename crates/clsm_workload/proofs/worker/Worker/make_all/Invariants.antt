use Rattle.clsm_store_calls.specs.Seats.{IsSameSeat}
use Rattle.clsm_workload.proofs.Calls.{HasTaken}
use Rattle.clsm_workload.proofs.worker.Worker.make_all.Given as goal

-- so many turns of the workload were taken, and their records are kept
abbrev pub invariant-loop-taken : goal.invariant-loop-taken
invariant-loop-taken g l = record {
  same : IsSameSeat (g.S.Player.seat l.initial.player) (g.S.Player.seat l.player);
  made : HasTaken l.taken l.initial.self.workload l.self.workload (g.S.Player.seat l.initial.player) (g.S.Player.seat l.player) l.self.records.items;
}
