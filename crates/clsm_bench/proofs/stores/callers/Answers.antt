use Rattle.std.proofs.Common.{◌≡◌, List, subst}
use Rattle.std.proofs.lemmas.List.Elements.{All-tail}
use Rattle.std.specs.Prelude.{All}
use Rattle.clsm_store_calls.specs.Seats.{SeatState}
use Rattle.clsm_bench.proofs.stores.callers.Goals as goal

pub loop-seat-preserved : goal.loop-seat-preserved
loop-seat-preserved c =
    let all = subst (λ (seats : List SeatState). All (λ (seat : SeatState). seat.store ≡ c.args.store.now) seats) c.in-Some.ensures.steps.0
    c.loop-seat.invariant in
    All-tail (λ (seat : SeatState). seat.store ≡ c.args.store.now) c.in-Some.seat c.next.new.self.rest.items all
