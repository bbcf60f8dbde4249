use Rattle.clsm_words.specs.Plays.{IsSeatOf}
use Rattle.clsm_lock.specs.Keeping.{StaysOutMerger}
use Rattle.clsm_lock.proofs.excluding.lock_as_merger.Given as goal

abbrev pub invariant-loop : goal.invariant-loop
invariant-loop g l = record {
  of : IsSeatOf l.words l.merger;
  out : StaysOutMerger l.initial.merger.knows l.merger.knows;
  more : (goal.iterator-loop g).can_next l.iterator' × (goal.iterator-loop g).is_finite l.iterator';
}
