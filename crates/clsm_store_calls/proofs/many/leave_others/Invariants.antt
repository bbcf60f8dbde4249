use Rattle.std.proofs.Common.{◌≡◌, length, map, take}
use Rattle.clsm_model.specs.History.{plain}
use Rattle.clsm_words.specs.Keeping.{Looks}
use Rattle.clsm_words.specs.Plays.{IsSeatOf}
use Rattle.clsm_store_calls.specs.Many.{HoldValues}
use Rattle.clsm_store_calls.proofs.many.leave_others.Given as goal

abbrev pub invariant-loop-at : goal.invariant-loop-at
invariant-loop-at g l = record {
  of : IsSeatOf l.words l.seat;
  looks : Looks l.fn.seat.knows l.seat.knows;
  same : length l.places ≡ length l.keys;
  values : HoldValues g.V.ValuePlace.tells (plain l.fn.seat.knows.past) l.point.until (map g.K.Keyed.key (take l.at l.keys)) (take l.at l.places);
}
