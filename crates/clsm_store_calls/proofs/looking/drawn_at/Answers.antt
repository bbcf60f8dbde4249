use Rattle.std.proofs.Common.{refl, rules, sym, ◌∙◌}
use Rattle.clsm_store_calls.specs.declared.merger_seat.MergerSeat.{MergerSeat}
use Rattle.clsm_store_calls.proofs.Polls.{polled_found, polls_clock}
use Rattle.clsm_store_calls.proofs.looking.drawn_at.Goals as goal

pub returns-clause-polls : goal.returns-clause-polls
returns-clause-polls g c =
    let old = c.args.merger.now in
    let looked : MergerSeat = record old { raw = c.look_as_merger-clock.new.seat } in
    polls_clock old looked c.look_as_merger-clock.result (c.look_as_merger-clock.ensures.0.0 ∙ sym c.requires.of.0) refl refl
    c.requires.clean.out.exclusive c.requires.clean.clean c.look_as_merger-clock.ensures.1

pub returns-clause-drawn : goal.returns-clause-drawn
returns-clause-drawn g c =
    let found = polled_found c.args.merger.now.raw.knows c.look_as_merger-clock.new.seat.knows c.look_as_merger-clock.result
    c.requires.clean.out.exclusive c.requires.clean.clean c.look_as_merger-clock.ensures.1 in
    rw found (search rules)
