use Rattle.std.proofs.Common.{◌≡◌, ◌++◌, All, length}
use Rattle.clsm_store_calls.specs.Seats.{AreNew}
use Rattle.clsm_store_calls.specs.Resting.{store_of}
use Rattle.clsm_store.proofs.opening.seat_all.Given as goal

abbrev pub invariant-loop-raw : goal.invariant-loop-raw
invariant-loop-raw g l = record {
  whole : l.yielded ++ l.raw-iterator.rest.items ≡ l.fn.raw.items;
  new : AreNew (store_of l.words) (length l.yielded) l.seats.items;
  at : All (λ seat. seat.store ≡ store_of l.words) l.seats.items;
}
