use Rattle.std.proofs.Common.{Some}
use Rattle.clsm_session.proofs.session.work.Given as goal

-- the seat's own place
abbrev pub ghosts-work_at : goal.ghosts-work_at
ghosts-work_at g a = record { store = Some a.caller.seat.store; number = a.caller.seat.number }
