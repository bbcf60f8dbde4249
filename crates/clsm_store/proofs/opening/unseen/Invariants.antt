use Rattle.std.proofs.Common.{◌≡◌, length}
use Rattle.clsm_store.proofs.opening.unseen.Given as goal

abbrev pub invariant-loop : goal.invariant-loop
invariant-loop l = length l.seen.items ≡ l.counter
