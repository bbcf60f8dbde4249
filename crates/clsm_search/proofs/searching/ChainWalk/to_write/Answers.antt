use Rattle.clsm_search.proofs.ChainWalks.{walks_further, walks_yet}
use Rattle.clsm_search.proofs.searching.ChainWalk.to_write.Goals as goal

pub loop-init : goal.loop-init
loop-init g c = walks_yet c.args.words.now c.args.seat.now c.args.seat.now c.args.self c.requires

pub loop-preserved : goal.loop-preserved
loop-preserved g c =
    walks_further c.args.words.now c.args.seat.now c.loop.seat c.args.self c.pass_cell-walk.new.seat c.loop.walk c.pass_cell-walk.result c.loop.invariant
    c.pass_cell-walk.ensures.on
