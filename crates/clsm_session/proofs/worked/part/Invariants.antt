use Rattle.std.proofs.Common.{◌≡◌, ◌++◌}
use Rattle.clsm_session.proofs.Places.{answers_of, seats_of}
use Rattle.clsm_session.proofs.worked.part.Given as goal

-- the seats so far and those still to come are all of them, and so are the answers
abbrev pub invariant-loop-one : goal.invariant-loop-one
invariant-loop-one g l = record {
  seats : l.seats.items ++ seats_of l.one-iterator.rest.items ≡ seats_of l.fn.worked.items;
  answers : l.answers.items ++ answers_of l.one-iterator.rest.items ≡ answers_of l.fn.worked.items;
}
