use Rattle.std.proofs.Common.{◌≡◌, ◌-◌, rules}
use Rattle.clsm_store_calls.proofs.Polls.{looks_for_room, rests_on}
use Rattle.clsm_store_calls.proofs.looking.room_at.Goals as goal

pub returns-clause-rests : goal.returns-clause-rests
returns-clause-rests g c = rests_on c.args.seat.now.knows c.look-limit.new.seat.knows c.look-clock.new.seat.knows c.look-limit.result
    c.look-clock.result c.requires.rests c.look-limit.ensures.1 c.look-clock.ensures.1

pub returns-clause-looks : goal.returns-clause-looks
returns-clause-looks g c =
    let left : c.saturating_sub.result ≡ c.look-limit.result - c.look-clock.result = search rules in
    looks_for_room c.args.seat.now.knows c.look-limit.new.seat.knows c.look-clock.new.seat.knows c.look-limit.result
    c.look-clock.result c.requires.rests c.look-limit.ensures.1 c.look-clock.ensures.1 c.saturating_sub.result left
