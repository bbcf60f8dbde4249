use Rattle.std.proofs.Common.{ℕ, ◌+◌, ◌-◌, ◌*◌, ◌/◌, ◌^◌, ◌<◌, ◌≤◌, subst, arith}
use Rattle.std.proofs.Math.Nat.{div-mul-le_self, lt-div-mul-add}
use Rattle.clsm_words.proofs.Reciprocals.{guess_fits, guess_near}
use Rattle.clsm_words.proofs.divisor.Divisor.quotient.Goals as goal

pub returns-clause-fits : goal.returns-clause-fits
returns-clause-fits c =
    let n = c.args.number in
    let d = c.self.inside in
    let below : (2 ^ 64 - 1) / d.by * d.by ≤ 2 ^ 64 - 1 = div-mul-le_self (2 ^ 64 - 1) d.by in
    let le : d.reciprocal * d.by ≤ 2 ^ 64 = rw c.self.invariant.2 (omega (below, arith)) in
    subst (λ (by : ℕ). n * d.reciprocal / 2 ^ 64 * by ≤ n) c.self.view_is (guess_fits n d.by d.reciprocal (2 ^ 64) (omega arith) le)

pub returns-clause-near : goal.returns-clause-near
returns-clause-near c =
    let n = c.args.number in
    let d = c.self.inside in
    let above : 2 ^ 64 - 1 < (2 ^ 64 - 1) / d.by * d.by + d.by = lt-div-mul-add c.self.invariant.0 in
    let le : 2 ^ 64 ≤ d.reciprocal * d.by + d.by = rw c.self.invariant.2 (omega (above, arith)) in
    let small : n < 2 ^ 64 = let fits = c.ranges.number.fits in omega arith in
    subst (λ (by : ℕ). n < n * d.reciprocal / 2 ^ 64 * by + 2 * by) c.self.view_is
    (guess_near n d.by d.reciprocal (2 ^ 64) (omega arith) c.self.invariant.0 small le)
