use Rattle.std.proofs.Common.{arith}
use Rattle.clsm_store_calls.proofs.ReadParts.{may_end_under, under}
use Rattle.clsm_store_calls.proofs.scanning.scan_under.Goals as goal

pub unpin-requires-clause-opens : goal.unpin-requires-clause-opens
unpin-requires-clause-opens g c =
    may_end_under c.args.words.now c.args.seat.now.knows c.begin_under-point.new.seat.knows c.rows_below.new.seat c.begin_under-point.result.component
    c.begin_under-point.result.until c.args.snapshot.time c.requires.rests.rests c.begin_under-point.ensures.pins c.begin_under-point.ensures.may
    c.begin_under-point.ensures.time c.rows_below.ensures.looks c.rows_below.ensures.of c.requires.opened (g.R.Collector.most c.rows_below.new.rows)
    c.args.bounds.lo c.args.bounds.hi (g.R.Collector.rows c.rows_below.new.rows) c.in-Ok.more c.in-Ok.ensures.reads

pub returns-in-Ok-clause-reads : goal.returns-in-Ok-clause-reads
returns-in-Ok-clause-reads g c =
    under (g.R.Collector.most c.rows_below.new.rows) c.args.bounds.lo c.args.bounds.hi (g.R.Collector.rows c.rows_below.new.rows) c.in-Ok.more
    c.requires.rests.rests c.begin_under-point.ensures.pins
    (let may = c.begin_under-point.ensures.may in let settled = may.settled in let at = c.begin_under-point.ensures.time in omega arith)
    c.rows_below.ensures.looks c.unpin.ensures.unpinned c.requires.opened
