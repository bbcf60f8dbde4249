use Rattle.clsm_store_calls.proofs.ReadParts.{single}
use Rattle.clsm_store_calls.proofs.reading.read.Goals as goal

pub returns-clause-reads : goal.returns-clause-reads
returns-clause-reads g c =
    single c.requires.rests.rests c.begin-point.ensures.begins c.begin-point.ensures.settled c.value_left.ensures.looks c.unpin.ensures.unpinned c.args.key
    c.value_left.new.into c.end_of.ensures
