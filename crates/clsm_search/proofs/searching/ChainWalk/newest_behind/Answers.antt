use Rattle.clsm_search.proofs.ChainWalks.{found_aside, found_near, walk_stays}
use Rattle.clsm_search.proofs.searching.ChainWalk.newest_behind.Goals as goal

pub returns-in-Ok : goal.returns-in-Ok
returns-in-Ok g c = found_near c.args.words.now c.args.seat.now c.newest_listed.new.seat c.args.self c.in-Ok.newest c.newest_listed.ensures.looks
    c.in-Ok.ensures.newest

pub to_end-requires : goal.to_end-requires
to_end-requires g c = walk_stays c.args.words.now c.args.seat.now c.newest_listed.new.seat c.args.self c.requires c.newest_listed.ensures.looks

pub returns-in-Err : goal.returns-in-Err
returns-in-Err g c = found_aside c.args.words.now c.args.seat.now c.newest_listed.new.seat c.args.self c.to_end.new.seat c.to_end.result
    c.newest_listed.ensures.looks c.to_end.ensures
