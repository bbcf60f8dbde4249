use Rattle.std.proofs.Common.{sym, ◌∙◌, ap}
use Rattle.clsm_law.specs.declared.word.Word.TheVariants.{Pin}
use Rattle.clsm_law.specs.declared.step.Step.TheVariants.{Unpin}
use Rattle.clsm_law.specs.Views.{next_word}
use Rattle.clsm_words.specs.declared.operation.Operation.TheVariants.{Store}
use Rattle.clsm_words.proofs.May.{caller, may_act}
use Rattle.clsm_words.proofs.words.Words.unpin.Goals as goal

pub act_told-requires-clause-allows : goal.act_told-requires-clause-allows
act_told-requires-clause-allows g c = may_act caller c.args.self.now c.seat.inside.seat.table_id c.seat.inside.seat.id c.seat.inside.seat.me
    c.seat.invariant.1 c.args.seat.now c.seat.view_is (Unpin (g.E.Ending.end c.args.end.now)) (Pin c.seat.inside.number) c.requires.opens.0 c.requires.opens.1
    (ap Pin (c.seat.invariant.0 ∙ ap (λ v. v.knows.number) c.seat.view_is))
    c.self.inside.words c.self.view_is (Store (next_word c.args.pin)) (λ i x. next_word (sym c.requires.pin i))
