use Rattle.std.proofs.Common.{sym, ◌∙◌}
use Rattle.clsm_store_calls.proofs.Agreed.{met_agrees, met_same}
use Rattle.clsm_store_calls.proofs.agreeing.agree_at.Goals as goal

pub returns-clause-same : goal.returns-clause-same
returns-clause-same g c = met_same c.args.merger.now c.args.message c.look_as_merger.new.seat.table c.learn_as_merger.new.to.knows
    c.look_as_merger.new.seat.knows c.look_as_merger.result
    (c.look_as_merger.ensures.0.0 ∙ sym c.requires.of.0) c.learn_as_merger.ensures.1 c.look_as_merger.ensures.1 c.show_invariant.ensures
    c.show_invariant-2.ensures c.requires.frozen c.requires.ready

pub returns-clause-agrees : goal.returns-clause-agrees
returns-clause-agrees g c = met_agrees c.args.merger.now c.args.message c.look_as_merger.new.seat.table c.learn_as_merger.new.to.knows
    c.look_as_merger.new.seat.knows c.look_as_merger.result
    (c.look_as_merger.ensures.0.0 ∙ sym c.requires.of.0) c.learn_as_merger.ensures.1 c.look_as_merger.ensures.1 c.show_invariant.ensures
    c.show_invariant-2.ensures c.requires.frozen c.requires.ready
