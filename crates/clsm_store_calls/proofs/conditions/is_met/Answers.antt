use Rattle.std.proofs.Common.{sym, subst, true≢false, ◌∙◌}
use Rattle.std.proofs.lemmas.Bool.{eq-eqb}
use Rattle.clsm_model.specs.History.{plain}
use Rattle.clsm_model.proofs.Equals.{Value-Decides, option_eq-Decides}
use Rattle.clsm_store_calls.specs.Conditions.{Holds}
use Rattle.clsm_store_calls.proofs.Unmet.{one_count}
use Rattle.clsm_store_calls.proofs.conditions.is_met.Goals as goal

pub returns-in-Has-clause-met : goal.returns-in-Has-clause-met
returns-in-Has-clause-met g c = λ same.
    let is = (option_eq-Decides Value-Decides c.value_below.result c.in-Has.expected).0 (sym c.eq.ensures ∙ same) in
    subst (Holds (plain c.args.seat.now.knows.past) c.args.point.until) (sym c.in-Has.is) (sym c.value_below.ensures.value ∙ is)

pub returns-in-Counts-clause-unmet : goal.returns-in-Counts-clause-unmet
returns-in-Counts-clause-unmet g c = λ differs holds.
    let h = plain c.args.seat.now.knows.past in
    let t = c.args.point.until in
    let wanted = subst (Holds h t) c.in-Counts.is holds in
    let same = one_count h t c.in-Counts.lo c.in-Counts.hi c.keys_below.result c.in-Counts.keys c.keys_below.ensures.counts wanted in
    true≢false (sym (eq-eqb c.keys_below.result c.in-Counts.keys same) ∙ differs)
