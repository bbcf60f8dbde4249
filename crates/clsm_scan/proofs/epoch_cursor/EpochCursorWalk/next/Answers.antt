use Rattle.std.proofs.Common.{Option, subst}
use Rattle.clsm_levels.specs.Yields.{IsNextFrom}
use Rattle.clsm_words.specs.declared.known.Spot.{Spot}
use Rattle.clsm_search.specs.Ordering.{found_in_epoch}
use Rattle.clsm_search.proofs.EpochWrites.{next_same}
use Rattle.clsm_scan.specs.Walking.{spot_entry}
use Rattle.clsm_scan.proofs.EpochCursors.{newest_next}
use Rattle.clsm_scan.proofs.epoch_cursor.EpochCursorWalk.next.Given.{Over}
use Rattle.clsm_scan.proofs.epoch_cursor.EpochCursorWalk.next.Goals as goal
use Rattle.clsm_scan.proofs.epoch_cursor.EpochCursorWalk.next.Goals.{After-newest_from}

-- the write that it found is the next one
next : (g : Over) (c : After-newest_from g) → IsNextFrom (found_in_epoch c.args.seat.now.knows c.args.self.now.epoch) c.args.from
    (spot_entry c.newest_from.new.seat.knows c.args.self.now.epoch c.newest_from.result)
next g c =
    let k = c.args.seat.now.knows in
    let k' = c.newest_from.new.seat.knows in
    let e = c.args.self.now.epoch in
    let spot = c.newest_from.result in
    next_same k k' e c.args.from (spot_entry k' e spot) c.newest_from.ensures.looks.looks.past
    (newest_next k' e c.args.from spot c.newest_from.ensures.newest)

pub returns-in-Some-clause-next : goal.returns-in-Some-clause-next
returns-in-Some-clause-next g c =
    let e = c.args.self.now.epoch in
    subst (λ (o : Option Spot). IsNextFrom (found_in_epoch c.args.seat.now.knows e) c.args.from (spot_entry c.newest_from.new.seat.knows e o)) c.in-Some.is
    (next g (goal.at.returns-in-Some-clause-next g c).After-newest_from)

pub returns-in-None-clause-next : goal.returns-in-None-clause-next
returns-in-None-clause-next g c =
    let e = c.args.self.now.epoch in
    subst (λ (o : Option Spot). IsNextFrom (found_in_epoch c.args.seat.now.knows e) c.args.from (spot_entry c.newest_from.new.seat.knows e o)) c.in-None.is
    (next g (goal.at.returns-in-None-clause-next g c).After-newest_from)
