use Rattle.std.proofs.Common.{◌≡◌, ◌≤◌, ◌<◌, ℕ, false}
use Rattle.clsm_words.specs.Keeping.{LooksAside}
use Rattle.clsm_words.specs.Plays.{IsSeatOf}
use Rattle.clsm_search.specs.Searching.{is_hit}
use Rattle.clsm_search.proofs.spans.is_written_in.Given as goal

abbrev pub invariant-loop-time : goal.invariant-loop-time
invariant-loop-time g l = record {
  of : IsSeatOf l.words l.seat;
  looks : LooksAside l.initial.seat.knows l.seat.knows;
  none : (t : ℕ) → l.span.from ≤ t → t < l.time → is_hit l.initial.seat.knows.past l.span.key t ≡ false;
}
