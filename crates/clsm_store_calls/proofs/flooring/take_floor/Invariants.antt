use Rattle.std.proofs.Common.{◌≡◌, None}
use Rattle.clsm_words.specs.Plays.{IsSeatOf}
use Rattle.clsm_store_calls.specs.Flooring.{KeepsFrozen, floor_at, noted_at, round_at, rounds_at}
use Rattle.clsm_store_calls.proofs.flooring.take_floor.Given as goal

abbrev pub invariant-loop-seat : goal.invariant-loop-seat
invariant-loop-seat g l = record {
  of : IsSeatOf l.words l.merger;
  keeps : KeepsFrozen l.initial.merger.knows l.merger.knows;
  round : l.merger.knows.merger.round ≡ round_at l.words.layout.seats l.seat l.found l.initial.merger.knows.merger.round;
  fresh : l.seat ≡ 0 → l.found ≡ None;
  floor : l.merger.knows.merger.floor ≡ floor_at l.words.layout.seats l.seat l.before l.end l.found;
  noted : l.merger.knows.merger.noted ≡ noted_at l.words.layout.seats l.seat l.found l.initial.merger.knows.merger.noted;
  rounds : l.merger.knows.merger.rounds ≡ rounds_at l.words.layout.seats l.seat l.initial.merger.knows.merger.rounds;
}
