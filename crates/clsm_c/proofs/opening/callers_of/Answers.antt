use Rattle.std.proofs.Common.{◌≡◌, List, refl, subst}
use Rattle.std.proofs.lemmas.List.Elements.{All-tail}
use Rattle.std.specs.Arc.{arc_value}
use Rattle.std.specs.Prelude.{All}
use Rattle.clsm_store_calls.specs.Seats.{SeatState}
use Rattle.clsm_store.proofs.InOrder.{one_more}
use Rattle.clsm_c.proofs.opening.callers_of.Goals as goal

pub loop-seat-preserved : goal.loop-seat-preserved
loop-seat-preserved c =
    let before = c.loop-seat.invariant in
    let ahead = c.in-Some.ensures.steps.0 in
    let rest = c.next.new.self.rest.items in record {
      seats = one_more (λ caller. caller.seat) c.loop-seat.callers.items c.push.new.self.items _ c.in-Some.seat c.loop-seat.seat-iterator.rest.items
          rest c.args.seats.items c.in_ok-push.ensures.items refl ahead before.seats;
      at = All-tail (λ (seat : SeatState). seat.store ≡ arc_value c.args.store.now) c.in-Some.seat rest
          (subst (λ (seats : List SeatState). All (λ (seat : SeatState). seat.store ≡ arc_value c.args.store.now) seats) ahead before.at);
    }
