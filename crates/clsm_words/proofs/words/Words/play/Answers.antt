use Rattle.clsm_words.proofs.May.{caller, may_act}
use Rattle.clsm_words.proofs.words.Words.play.Goals as goal

pub act_told-requires-clause-allows : goal.act_told-requires-clause-allows
act_told-requires-clause-allows g c = may_act caller c.args.self.now c.seat.inside.seat.table_id c.seat.inside.seat.id c.seat.inside.seat.me c.seat.invariant.1
    c.args.seat.now c.seat.view_is c.args.step.now c.args.word c.requires.0.0 c.requires.0.1 c.requires.1 c.self.inside.words c.self.view_is
    c.args.by c.requires.2
