use Rattle.std.proofs.Common.{refl}
use Rattle.clsm_store_calls.proofs.ReadParts.{given_up, many, may_end_at}
use Rattle.clsm_store_calls.proofs.scanning.scan_at.Goals as goal

pub unpin-requires-clause-opens : goal.unpin-requires-clause-opens
unpin-requires-clause-opens g c =
    may_end_at c.args.words.now c.args.seat.now.knows c.begin-point.new.seat.knows c.rows_below.new.seat c.begin-point.result.component
    c.begin-point.result.until c.requires.rests.rests c.begin-point.ensures.begins c.begin-point.ensures.settled c.rows_below.ensures.looks
    c.rows_below.ensures.of c.requires.closed (g.R.Collector.most c.rows_below.new.rows) c.args.bounds.lo c.args.bounds.hi
    (g.R.Collector.rows c.rows_below.new.rows) c.in-Ok.more c.in-Ok.ensures.reads

pub returns-in-Ok-clause-reads : goal.returns-in-Ok-clause-reads
returns-in-Ok-clause-reads g c =
    many c.requires.rests.rests c.begin-point.ensures.begins c.begin-point.ensures.settled c.rows_below.ensures.looks c.unpin.ensures.unpinned
    (g.R.Collector.most c.rows_below.new.rows) c.args.bounds.lo c.args.bounds.hi (g.R.Collector.rows c.rows_below.new.rows) c.in-Ok.more refl
    c.requires.closed

pub returns-in-Err-clause-given_up : goal.returns-in-Err-clause-given_up
returns-in-Err-clause-given_up g c =
    given_up c.requires.rests.rests c.begin-point.ensures.begins c.begin-point.ensures.settled c.rows_below.ensures.looks c.unpin-in-Err.ensures.unpinned refl
