use Rattle.std.proofs.Common.{get_or}
use Rattle.clsm_scan.proofs.Filled.{filled_more, head_row, pairs_more, room_left}
use Rattle.clsm_scan.proofs.collector.FillingCollector.collect.Goals as goal

pub returns-clause-ready : goal.returns-clause-ready
returns-clause-ready g c =
    let rows = c.args.self.now.rows.now in
    let count = c.args.self.now.count in
    let room = room_left g.R.Row.is_row g.R.Row.pair rows count c.requires.ready c.requires.room in
    let row = head_row (g.S.Source.last c.args.seat.now.knows c.args.source.now) c.requires.has in
    let taken = g.met.R.Row.is_taken (get_or rows count c.index-self-at.result) c.give.new.to row.0 c.give.result (c.give.ensures.takes row.0 row.1) in
    filled_more g.R.Row.is_row g.R.Row.pair rows count c.requires.ready c.give.new.to room taken.1

pub returns-clause-collected : goal.returns-clause-collected
returns-clause-collected g c = λ row is.
    let rows = c.args.self.now.rows.now in
    let count = c.args.self.now.count in
    let room = room_left g.R.Row.is_row g.R.Row.pair rows count c.requires.ready c.requires.room in
    let taken = g.met.R.Row.is_taken (get_or rows count c.index-self-at.result) c.give.new.to row c.give.result (c.give.ensures.takes row is) in
    pairs_more g.R.Row.is_row g.R.Row.pair rows count c.requires.ready c.give.new.to row room taken.0
