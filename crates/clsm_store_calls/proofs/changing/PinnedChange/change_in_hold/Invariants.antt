use Rattle.std.specs.Prelude.{◌<◌}
use Rattle.clsm_words.specs.declared.known.Known.{Known}
use Rattle.clsm_words.specs.Plays.{IsSeatOf}
use Rattle.clsm_store_calls.specs.Changing.{HasComeSoFar, IsAskedBy, Spared}
use Rattle.clsm_store_calls.specs.Resting.{Still}
use Rattle.clsm_store_calls.specs.Tally.{tally_of}
use Rattle.clsm_store_calls.proofs.ChangeLosses.{LosesChanges}
use Rattle.clsm_store_calls.proofs.changing.PinnedChange.change_in_hold.Given as goal

abbrev pub invariant-loop-lost : goal.invariant-loop-lost
invariant-loop-lost g l = record {
  of : IsSeatOf l.words l.seat;
  come : HasComeSoFar l.words l.seat l.self.component l.self.key l.progress;
  asked : IsAskedBy (λ old change. g.F.Fn.post l.self.f.now (old, tt) change) l.progress;
  still : Still l.initial.seat.knows l.seat.knows;
  spared : (first : Known) → Spared first l.initial.seat.knows l.self.key l.initial.progress → Spared first l.seat.knows l.self.key l.progress;
  counts : LosesChanges l.lost (tally_of l.initial.seat.knows) (tally_of l.seat.knows);
  few : l.lost < l.tries;
}
