use Rattle.std.proofs.Common.{◌≡◌, ℕ, ◌-◌, ◌≤◌, length}
use Rattle.clsm_words.specs.Keeping.{LooksAside}
use Rattle.clsm_words.specs.Plays.{IsSeatOf}
use Rattle.clsm_scan.specs.Streams.{AreAhead, AreOver, ArePast, first_of}
use Rattle.clsm_scan.proofs.merged.Merged.pass.Given as goal

abbrev pub invariant-loop-at : goal.invariant-loop-at
invariant-loop-at g l = record {
  of : IsSeatOf l.words l.seat;
  looks : LooksAside l.fn.seat.knows l.seat.knows;
  hi : l.self.hi ≡ l.fn.self.hi;
  over : AreOver l.seat.knows l.self.streams.items;
  ahead : AreAhead l.seat.knows l.from l.self.hi l.self.streams.items;
  past : ArePast l.from l.at l.self.streams.items;
  same : (key : ℕ) → l.from ≤ key → key ≤ l.fn.self.hi → first_of l.seat.knows l.self.streams.items key
      ≡ first_of l.fn.seat.knows l.fn.self.streams.items key;
}

abbrev pub decreases-loop-at : goal.decreases-loop-at
decreases-loop-at g l = length l.self.streams.items - l.at
