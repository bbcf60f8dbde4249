use Rattle.clsm_search.proofs.ChainWalks.{behind_on, near_on, walk_stays}
use Rattle.clsm_search.proofs.searching.ChainWalk.newest_further.Goals as goal

pub returns-in-Ok : goal.returns-in-Ok
returns-in-Ok g c =
    near_on c.args.words.now c.args.seat.now c.to_write-further.new.seat c.newest_near.new.seat c.args.self c.to_write-further.result c.to_write-further.ensures
    c.newest_near.ensures.looks c.in-Ok.newest c.in-Ok.ensures.newest

pub newest_behind-requires-2 : goal.newest_behind-requires-2
newest_behind-requires-2 g c =
    walk_stays c.args.words.now c.to_write-further.new.seat c.newest_near.new.seat c.to_write-further.result
    c.to_write-further.ensures.walks c.newest_near.ensures.looks

pub returns : goal.returns
returns g c =
    behind_on c.args.words.now c.args.seat.now c.to_write-further.new.seat c.newest_near.new.seat c.args.self c.to_write-further.result
    c.to_write-further.ensures
    c.newest_near.ensures.looks c.newest_behind-2.new.seat c.newest_behind-2.result c.newest_behind-2.ensures
