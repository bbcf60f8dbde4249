use Rattle.std.proofs.Common.{◌≡◌, ◌++◌, map, take}
use Rattle.clsm_levels.specs.Run.{all_of}
use Rattle.clsm_levels.proofs.merge.sources.Given as goal

abbrev pub invariant-loop-run : goal.invariant-loop-run
invariant-loop-run l = l.all.items ≡ l.epoch ++ all_of (map (λ r. r.items) (take l.run-index l.runs))
