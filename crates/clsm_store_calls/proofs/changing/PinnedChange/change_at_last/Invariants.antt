use Rattle.clsm_words.specs.Plays.{IsSeatOf}
use Rattle.clsm_store_calls.specs.Changing.{HasComeSoFar, IsAskedBy, Spared}
use Rattle.clsm_store_calls.specs.Tally.{OnlyLosesChanges, tally_of}
use Rattle.clsm_store_calls.proofs.changing.PinnedChange.change_at_last.Given as goal

abbrev pub invariant-loop : goal.invariant-loop
invariant-loop g l = record {
  of : IsSeatOf l.words l.seat;
  come : HasComeSoFar l.words l.seat l.self.component l.self.key l.progress;
  asked : IsAskedBy (λ old change. g.F.Fn.post l.self.f.now (old, tt) change) l.progress;
  spared : Spared l.initial.seat.knows l.seat.knows l.self.key l.progress;
  counts : OnlyLosesChanges (tally_of l.initial.seat.knows) (tally_of l.seat.knows);
  more : (goal.iterator-loop g).can_next l.iterator' × (goal.iterator-loop g).is_finite l.iterator';
}
