use Rattle.std.proofs.Common.{take}
use Rattle.clsm_model.specs.History.{plain}
use Rattle.clsm_words.specs.Keeping.{Looks}
use Rattle.clsm_words.specs.Plays.{IsSeatOf}
use Rattle.clsm_store_calls.specs.Conditions.{AllHold}
use Rattle.clsm_store_calls.proofs.conditions.first_unmet.Given as goal

-- those tested so far hold
abbrev pub invariant-loop-index : goal.invariant-loop-index
invariant-loop-index g l = record {
  of : IsSeatOf l.words l.seat;
  looks : Looks l.initial.seat.knows l.seat.knows;
  met : AllHold (plain l.initial.seat.knows.past) l.point.until (take l.index l.conditions);
}
