use Rattle.clsm_search.proofs.Chains.{nothing_ahead}
use Rattle.clsm_search.proofs.ChainWalks.{behind_on, found_at_end, found_on, near_on, walk_stays}
use Rattle.clsm_search.proofs.searching.ChainWalk.newest.Goals as goal

pub returns-in-Ok : goal.returns-in-Ok
returns-in-Ok g c =
    near_on c.args.words.now c.args.seat.now c.to_write-walk.new.seat c.newest_near.new.seat c.args.self c.to_write-walk.result c.to_write-walk.ensures
    c.newest_near.ensures.looks c.in-Ok.newest c.in-Ok.ensures.newest

pub newest_further-requires : goal.newest_further-requires
newest_further-requires g c =
    walk_stays c.args.words.now c.to_write-walk.new.seat c.newest_near.new.seat c.to_write-walk.result c.to_write-walk.ensures.walks c.newest_near.ensures.looks

pub returns : goal.returns
returns g c =
    behind_on c.args.words.now c.args.seat.now c.to_write-walk.new.seat c.newest_near.new.seat c.args.self c.to_write-walk.result c.to_write-walk.ensures
    c.newest_near.ensures.looks c.newest_further.new.seat c.newest_further.result c.newest_further.ensures

pub returns-then-walk-eq0 : goal.returns-then-walk-eq0
returns-then-walk-eq0 g c =
    let s = c.to_write-walk.new.seat in
    let walk = c.to_write-walk.result in
    let walks = c.to_write-walk.ensures.walks in
    found_on c.args.words.now c.args.seat.now s c.args.self s walk walk.best c.to_write-walk.ensures
    (found_at_end c.args.words.now s walk walks (nothing_ahead s.knows walk.epoch.first walk.next walks.chain c.if-walk-eq0.true))
