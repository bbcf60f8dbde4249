use Rattle.std.proofs.Common.{List, subst, sym}
use Rattle.clsm_store_calls.specs.Seats.{AreNew, SeatState}
use Rattle.clsm_c.proofs.opening.open.Goals as goal

pub returns-clause-handles : goal.returns-clause-handles
returns-clause-handles c =
    let opened = c.in_ok-store.field-0 in record {
      store = opened.store;
      sized = c.in_ok-store.ensures.store;
      callers = subst (λ (seats : List SeatState). AreNew opened.store c.args.config.seats seats)
          (sym c.in-Ok-callers_of.ensures) c.in_ok-store.ensures.seats;
      merger = c.in_ok-store.ensures.merger;
    }
