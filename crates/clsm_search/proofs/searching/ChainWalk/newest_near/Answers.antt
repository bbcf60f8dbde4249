use Rattle.std.proofs.Common.{subst}
use Rattle.clsm_search.specs.Ordering.{IsWriteIn}
use Rattle.clsm_search.specs.Searching.{IsHit}
use Rattle.clsm_search.proofs.Orders.{looks_further}
use Rattle.clsm_search.proofs.searching.ChainWalk.newest_near.Given.{Over}
use Rattle.clsm_search.proofs.searching.ChainWalk.newest_near.Goals as goal
use Rattle.clsm_search.proofs.searching.ChainWalk.newest_near.Goals.{In-Some}

-- the walk came to a write of its key
write : (g : Over) (c : In-Some g) → IsWriteIn c.args.seat.now.knows c.args.self.now.epoch c.in-Some.time c.args.self.now.key
write g c =
    let k = c.args.seat.now.knows in
    let walk = c.args.self.now in
    let hit = subst (IsHit k.past k.layout.cells walk.epoch.first walk.key walk.epoch.until) c.in-Some.is c.requires.walked.0 in
    record { from = hit.0.from; below = hit.0.below; hit = hit.1 }

pub spot_of-from-requires-clause-write : goal.spot_of-from-requires-clause-write
spot_of-from-requires-clause-write g c = (c.args.self.now.key, write g (goal.at.spot_of-from-requires-clause-write g c).In-Some)

pub returns-clause-looks : goal.returns-clause-looks
returns-clause-looks g c =
    looks_further c.args.words.now c.args.seat.now c.spot_of-from.new.seat c.newer-listed.new.seat c.spot_of-from.ensures.looks c.newer-listed.ensures.looks
