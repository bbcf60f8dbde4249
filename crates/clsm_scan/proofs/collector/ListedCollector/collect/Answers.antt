use Rattle.std.proofs.Common.{◌≡◌, ◌++◌, ◌∷◌, []}
use Rattle.clsm_model.specs.Map.{Pair}
use Rattle.clsm_scan.specs.Heads.{rows_of}
use Rattle.clsm_scan.proofs.Filled.{taken_if_ok}
use Rattle.clsm_scan.proofs.collector.ListedCollector.collect.Goals as goal

pub returns-clause-collected : goal.returns-clause-collected
returns-clause-collected g c =
    taken_if_ok (λ (row : Pair). rows_of (g.S.Source.last c.args.seat.now.knows c.args.source.now) ≡ row ∷ [])
    (λ (row : Pair). c.give.new.to.items ≡ c.args.self.now.rows.items ++ row ∷ []) c.give.result c.give.ensures.takes
