use Rattle.std.proofs.Common.{◌==◌, sym, ◌∙◌}
use Rattle.clsm_memtable.proofs.Drawn.{finds_limit, draws, loses_draw, shared_holds}
use Rattle.clsm_memtable.proofs.Exchanges.{won, lost}
use Rattle.clsm_memtable.proofs.clock.draw.Goals as goal

pub returns-then-time-limit-clause-refused : goal.returns-then-time-limit-clause-refused
returns-then-time-limit-clause-refused g c =
    finds_limit c.args.seat.now.knows c.look-limit.new.seat.knows c.look-time.new.seat.knows c.look-limit.result c.look-time.result c.show_invariant.ensures
    (shared_holds c.args.seat.now.knows.view.mode c.requires.holds) c.requires.unnoted c.look-limit.ensures.1 c.look-time.ensures.1 c.if-time-limit.true

pub returns-in-Done-clause-drawn : goal.returns-in-Done-clause-drawn
returns-in-Done-clause-drawn g c =
    let x = c.draw.ensures.0 in
    draws c.args.seat.now.knows c.look-limit.new.seat.knows c.look-time.new.seat.knows c.look-limit.result c.look-time.result c.show_invariant.ensures
    (shared_holds c.args.seat.now.knows.view.mode c.requires.holds) c.requires.unnoted c.look-limit.ensures.1 c.look-time.ensures.1
    c.draw.new.seat.knows x c.draw.ensures.1.1 c.if-time-limit.false (won (x == c.look-time.result) (sym c.draw.ensures.2 ∙ c.in-Done.is))

pub returns-in_default : goal.returns-in_default
returns-in_default g c =
    let x = c.draw.ensures.0 in record {
      of = c.draw.ensures.1.0;
      drawn = tt;
      refused = loses_draw c.args.seat.now.knows c.look-limit.new.seat.knows c.look-time.new.seat.knows c.look-limit.result c.look-time.result
          c.show_invariant.ensures (shared_holds c.args.seat.now.knows.view.mode c.requires.holds) c.requires.unnoted c.look-limit.ensures.1
          c.look-time.ensures.1
          c.draw.new.seat.knows x c.draw.ensures.1.1 (lost (x == c.look-time.result) (λ e. c.in_default.not-Done (c.draw.ensures.2 ∙ e)));
    }
