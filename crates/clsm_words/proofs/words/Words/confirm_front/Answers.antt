use Rattle.std.proofs.Common.{refl}
use Rattle.clsm_law.specs.declared.step.Step.TheVariants.{RaiseFront}
use Rattle.clsm_law.specs.declared.word.Word.TheVariants.{Front}
use Rattle.clsm_words.specs.declared.operation.Operation.TheVariants.{Load}
use Rattle.clsm_words.proofs.May.{confirmer, may_act}
use Rattle.clsm_words.proofs.words.Words.confirm_front.Goals as goal

pub act_told-requires-clause-allows : goal.act_told-requires-clause-allows
act_told-requires-clause-allows g c = may_act (confirmer c.args.time) c.args.self.now c.seat.inside.seat.table_id c.seat.inside.seat.id
    c.seat.inside.seat.me c.seat.invariant.1 c.args.seat.now c.seat.view_is (RaiseFront c.args.time) Front c.requires.raise.0
    (c.requires.raise.1, c.requires.look) refl c.self.inside.words c.self.view_is Load refl
