use Rattle.std.proofs.Common.{◌≡◌, true, false, sym, ◌∙◌, subst, arith}
use Rattle.clsm_audit.specs.Moments.{HasLatest, IsLatest}
use Rattle.clsm_audit.proofs.Swept.{kept_latest, new_latest}
use Rattle.clsm_audit.proofs.sweep.later.Goals as goal

pub returns-in_default : goal.returns-in_default
returns-in_default c = λ events is ends.
    let none = subst (HasLatest events) c.in_default.is is in
    new_latest events c.args.finish ends (λ e among e_ends. let clash : false ≡ true = sym (none e among) ∙ e_ends in absurd (cc clash))

pub returns-then-latest-finish : goal.returns-then-latest-finish
returns-then-latest-finish c = λ events is ends.
    let old : IsLatest events c.in-Some.latest = subst (HasLatest events) c.in-Some.is is in
    new_latest events c.args.finish ends (λ e among e_ends. let le = old.latest e among e_ends in let lt = c.if-latest-finish.true in omega arith)

pub returns : goal.returns
returns c = λ events is ends.
    kept_latest events c.args.finish ends c.in-Some.latest (subst (HasLatest events) c.in-Some.is is) c.if-latest-finish.false
