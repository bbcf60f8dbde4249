use Rattle.std.proofs.Common.{◌+◌, length, ap, refl, subst, arith}
use Rattle.clsm_law.specs.declared.word.Word.TheVariants.{Clock}
use Rattle.clsm_law.specs.declared.step.Step.TheVariants.{Commit}
use Rattle.clsm_law.specs.Views.{or_zero}
use Rattle.clsm_words.specs.declared.operation.Operation.TheVariants.{Store}
use Rattle.clsm_words.specs.Seats.{RawState}
use Rattle.clsm_words.specs.Knowing.{Sound}
use Rattle.clsm_words.proofs.May.{caller, may_act}
use Rattle.clsm_words.proofs.words.Words.commit.Goals as goal

pub overflow_add-end : goal.overflow_add-end
overflow_add-end g c =
    let sound = subst (λ (v : RawState). Sound v.knows) c.seat.view_is c.seat.invariant.1 in
    let small = sound.small_for (Commit c.args.members.now) c.requires.opens.1 in
    let first = ap or_zero c.requires.first in
    omega arith

pub act_told-requires-clause-allows : goal.act_told-requires-clause-allows
act_told-requires-clause-allows g c = may_act caller c.args.self.now c.seat.inside.seat.table_id c.seat.inside.seat.id c.seat.inside.seat.me
    c.seat.invariant.1 c.args.seat.now c.seat.view_is (Commit c.args.members.now) Clock c.requires.opens.0 c.requires.opens.1 refl
    c.self.inside.words c.self.view_is (Store (c.args.first + length c.args.members.now)) (λ i x. or_zero (c.requires.first i) + length c.args.members.now)
