use Rattle.std.proofs.Common.{◌∙◌, ap, arith, subst, sym}
use Rattle.clsm_model.specs.History.{plain, value}
use Rattle.clsm_store_calls.proofs.Placed.{one_more}
use Rattle.clsm_store_calls.proofs.many.leave_all.Goals as goal

pub leave_others-requires-clause-first : goal.leave_others-requires-clause-first
leave_others-requires-clause-first g c =
    let key = g.K.Keyed.key in
    let past = sym c.value_left.ensures.looks.past in
    let found = c.value_left.ensures.value
    ∙ (λ i. value (plain (past i)) ((c.key.ensures ∙ ap key c.index-keys-0.is) i) c.args.point.until) in
    one_more key g.V.ValuePlace.tells (plain c.value_left.new.seat.knows.past) c.args.point.until c.args.keys.now c.args.places.now 0
    c.index-keys-0.result c.take.new.self c.requires.some (let same = c.requires.same in let some = c.requires.some in omega arith) tt
    (subst (g.V.ValuePlace.tells c.take.new.self) found c.take.ensures)
