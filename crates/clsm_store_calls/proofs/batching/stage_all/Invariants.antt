use Rattle.std.proofs.Common.{◌≡◌, ◌+◌, take}
use Rattle.clsm_words.specs.Plays.{IsSeatOf}
use Rattle.clsm_store_calls.specs.Batching.{StagesAll}
use Rattle.clsm_store_calls.proofs.batching.stage_all.Given as goal

abbrev pub invariant-loop-member : goal.invariant-loop-member
invariant-loop-member g l = record {
  of : IsSeatOf l.words l.seat;
  staged : StagesAll l.initial.seat.knows l.seat.knows (take l.member-index l.members);
  time_is : l.time ≡ l.first + l.member-index;
}
