use Rattle.std.proofs.Common.{◌≡◌, true, false, sym, ◌∙◌, subst, arith}
use Rattle.clsm_audit.specs.Moments.{HasFirst, HasLatest, IsFirstEarly, IsLatest}
use Rattle.clsm_audit.proofs.Swept.{higher_first, late_first, lower_first}
use Rattle.clsm_audit.proofs.sweep.Sweep.found_at.Goals as goal
use Rattle.clsm_audit.proofs.sweep.Sweep.found_at.Goals.{in_default-found-via-in-Some-found+else-found-begin, in_default-found-via-in_default-found}

pub returns-in_default : goal.returns-in_default
returns-in_default c = λ events swept begins behind.
    let none = subst (HasLatest events) c.in_default.is swept.latest in
    late_first events c.args.begin.now begins (λ f among ends. let clash : false ≡ true = sym (none f among) ∙ ends in absurd (cc clash))
    c.args.self.now.found swept.found

pub returns-then-latest-begin : goal.returns-then-latest-begin
returns-then-latest-begin c = λ events swept begins behind.
    let latest : IsLatest events c.in-Some.latest = subst (HasLatest events) c.in-Some.is swept.latest in
    late_first events c.args.begin.now begins (λ f among ends. let le = latest.latest f among ends in let lt = c.if-latest-begin.true in omega arith)
    c.args.self.now.found swept.found

pub returns-in-Some-found : goal.returns-in-Some-found
returns-in-Some-found c = λ events swept begins behind.
    higher_first events c.args.begin.now begins c.in-Some-found.found (subst (HasFirst events) c.in-Some-found.is swept.found) c.if-found-begin.true

pub returns-in_default-found : goal.returns-in_default-found
returns-in_default-found c = λ events swept begins behind.
    lower_first events c.args.begin.now begins c.in-Some.latest (subst (HasLatest events) c.in-Some.is swept.latest) behind c.if-latest-begin.false
    (λ b f b_among f_among early.
    elim c.in_default-found.branch [
      | in_default-found-via-in-Some-found+else-found-begin w ↦
          let first : IsFirstEarly events w.in-Some-found.found = subst (HasFirst events) w.in-Some-found.is swept.found in
          let le = first.least b f b_among f_among early in
          let lt = w.if-found-begin.false in
          omega arith
      | in_default-found-via-in_default-found w ↦
          absurd (subst (HasFirst events) w.in_default-found.is swept.found b f b_among f_among early)
    ])
