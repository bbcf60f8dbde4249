use Rattle.clsm_store.specs.Settling.{HaveFollowed}
use Rattle.clsm_store.proofs.settling.follow_all.Given as goal

abbrev pub invariant-loop-place : goal.invariant-loop-place
invariant-loop-place g l = HaveFollowed l.store l.fn.message l.fn.seats.items l.seats.items l.newest l.place
