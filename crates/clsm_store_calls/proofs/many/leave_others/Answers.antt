use Rattle.std.proofs.Common.{◌∙◌, ap, arith, subst}
use Rattle.std.proofs.lemmas.List.{length-set}
use Rattle.clsm_model.specs.History.{plain, value}
use Rattle.clsm_words.proofs.Keeps.{looks_trans}
use Rattle.clsm_store_calls.proofs.Placed.{all_placed, one_more}
use Rattle.clsm_store_calls.proofs.many.leave_others.Goals as goal

pub loop-at-preserved : goal.loop-at-preserved
loop-at-preserved g c =
    let before = c.loop-at.invariant in
    let some = c.loop-at-test.true in
    let key = g.K.Keyed.key in
    let h = plain c.args.seat.now.knows.past in
    let until = c.args.point.until in
    let found = c.value_left.ensures.value
    ∙ (λ i. value (plain (before.looks.past i)) ((c.key.ensures ∙ ap key c.index-keys-at.is) i) until) in
    record {
      of = c.value_left.ensures.of;
      looks = looks_trans c.args.seat.now.knows c.loop-at.seat.knows c.value_left.new.seat.knows before.looks c.value_left.ensures.looks;
      same = length-set c.loop-at.places c.loop-at.at c.take.new.self ∙ before.same;
      values = one_more key g.V.ValuePlace.tells h until c.args.keys.now c.loop-at.places c.loop-at.at c.index-keys-at.result c.take.new.self some
          (let same = before.same in omega arith) before.values (subst (g.V.ValuePlace.tells c.take.new.self) found c.take.ensures);
    }

pub returns-clause-values : goal.returns-clause-values
returns-clause-values g c =
    let end = c.loop-at-test.false in
    let same = c.loop-at.invariant.same in
    all_placed g.K.Keyed.key g.V.ValuePlace.tells (plain c.args.seat.now.knows.past) c.args.point.until c.args.keys.now c.loop-at.places c.loop-at.at
    (omega arith) (omega arith) c.loop-at.invariant.values
