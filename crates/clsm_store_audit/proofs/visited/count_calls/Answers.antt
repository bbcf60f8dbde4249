use Rattle.std.proofs.Common.{◌≡◌, arith, rules}
use Rattle.clsm_store_audit.proofs.CountedCalls.{calls_counted, count_stays}
use Rattle.clsm_store_audit.proofs.visited.count_calls.Goals as goal

pub returns : goal.returns
returns g c =
    let visits = c.visit-counted.ensures.visits.visits in
    let same = count_stays _ (λ f. f.0) (λ b row a called. search rules) _ _ _ visits.taken in
    let counts = calls_counted _ (λ f. f.0) (λ b row a called. search rules) _ _ _ (omega arith) visits.taken in
    let keys = visits.count.counted in
    let fits = c.well_formed in
    let all : c.visit-counted.new.call.0.now ≡ c.visit-counted.result.keys = omega (arith, fits) in
    search rules
