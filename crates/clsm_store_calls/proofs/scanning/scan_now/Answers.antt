use Rattle.std.proofs.Common.{refl}
use Rattle.clsm_words.proofs.Keeps.{looks_trans}
use Rattle.clsm_store_calls.proofs.ReadParts.{given_up, single}
use Rattle.clsm_store_calls.proofs.scanning.scan_now.Goals as goal

pub returns-in-Ok-clause-reads : goal.returns-in-Ok-clause-reads
returns-in-Ok-clause-reads g c =
    let looks = looks_trans c.begin-point.new.seat.knows c.value_below-value.new.seat.knows c.rows_below-read.new.seat.knows c.value_below-value.ensures.looks
    c.rows_below-read.ensures.looks in (
      c.value_below-value.result,
      single c.requires.rests.rests c.begin-point.ensures.begins c.begin-point.ensures.settled looks c.unpin.ensures.unpinned c.args.bounds.lo
          c.value_below-value.result c.end_of.ensures,
    )

pub returns-in-Err-clause-given_up : goal.returns-in-Err-clause-given_up
returns-in-Err-clause-given_up g c =
    let looks = looks_trans c.begin-point.new.seat.knows c.value_below-value.new.seat.knows c.rows_below-read.new.seat.knows c.value_below-value.ensures.looks
    c.rows_below-read.ensures.looks in
    given_up c.requires.rests.rests c.begin-point.ensures.begins c.begin-point.ensures.settled looks c.unpin-in-Err.ensures.unpinned refl
