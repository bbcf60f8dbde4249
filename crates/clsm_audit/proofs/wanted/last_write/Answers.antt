use Rattle.clsm_audit.proofs.Searches.{searched_all, searched_found, searched_none}
use Rattle.clsm_audit.proofs.wanted.last_write.Goals as goal
use Rattle.clsm_audit.proofs.wanted.last_write.Goals.{in-Some, in_default}

pub loop-index-preserved : goal.loop-index-preserved
loop-index-preserved c =
    let searched = c.loop-index.invariant in
    elim c.match-last_in.branch [
      | in-Some w ↦ rw (w.last-is, w.from-is)
          (searched_found _ _ _ _ _ c.loop-index-test.true c.index-records-index.is _ _ w.in-Some.found searched w.in-Some.ensures)
      | in_default w ↦ rw (w.last-is, w.from-is)
          (searched_none _ _ _ _ _ c.loop-index-test.true c.index-records-index.is _ _ searched w.in_default.ensures)
    ]

pub returns : goal.returns
returns c = searched_all c.args.records.now c.args.wanted.now c.loop-index.index c.args.below c.loop-index.from c.loop-index.last c.loop-index-test.false
    c.loop-index.invariant
