use Rattle.std.proofs.Common.{◌≡◌, ℕ, ◌-◌, ◌^◌, ◌%◌, bit_and, sym, ◌∙◌, subst, arith}
use Rattle.std.proofs.lemmas.Bool.{eqb-true}
use Rattle.clsm_words.proofs.Masks.{masked}
use Rattle.clsm_words.proofs.Reciprocals.{rest_again, rest_left}
use Rattle.clsm_words.proofs.divisor.Divisor.rest.Goals as goal

pub returns-then-self : goal.returns-then-self
returns-then-self c =
    let n = c.args.number in
    let d = c.self.inside in
    subst (λ (by : ℕ). bit_and n (d.by - 1) ≡ n % by) c.self.view_is
    (masked n d.by d.bits (eqb-true d.by (2 ^ d.bits) (sym c.self.invariant.1 ∙ c.if-self.true)))

pub returns-then-rest-self : goal.returns-then-rest-self
returns-then-rest-self c =
    rest_left c.args.number c.self.inside.by _ c.quotient.result c.self.view_is c.quotient.ensures.fits c.if-rest-self.true

pub returns-else-rest-self : goal.returns-else-rest-self
returns-else-rest-self c = let q = c.quotient.ensures in
    rest_again c.args.number c.self.inside.by _ c.quotient.result c.self.view_is q.fits q.near (omega (c.if-rest-self.false, arith))
