use Rattle.std.proofs.Common.{◌≡◌}
use Rattle.clsm_workload.proofs.merger.entries_before.Given as goal

-- the token is as it was
abbrev pub invariant-loop-earlier : goal.invariant-loop-earlier
invariant-loop-earlier g l = record {
  same : l.frozen ≡ l.initial.frozen;
}
