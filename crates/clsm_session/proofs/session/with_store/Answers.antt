use Rattle.std.proofs.Common.{List, sym, subst}
use Rattle.clsm_store.specs.Meetings.{AreMet}
use Rattle.clsm_store_calls.specs.Seats.{SeatState}
use Rattle.clsm_session.specs.Ended.{AreAllSeats, AreDone}
use Rattle.clsm_session.proofs.Places.{all_back, all_done, all_settled, has_all, of_store}
use Rattle.clsm_session.proofs.session.with_store.Goals as goal

pub settle-seats-requires : goal.settle-seats-requires
settle-seats-requires g c =
    let store = c.in-Ok.opened.store in
    let count = c.args.config.seats in
    of_store store count c.in-Ok-part.seats.items
    (subst (AreAllSeats store count) (sym c.in-Ok-part.ensures.seats)
    (all_back g.J.Job.does store count c.in-Ok.opened.seats.items c.in-Ok.ensures.seats c.in_ok-worked.worked.items c.in_ok-worked.ensures.back))

pub returns-clause-seats : goal.returns-clause-seats
returns-clause-seats g c =
    let store = c.in-Ok.opened.store in
    let count = c.args.config.seats in
    all_settled store count c.in-Ok-part.seats.items c.settle-seats.result.items c.settle-seats.ensures.met
    (subst (AreAllSeats store count) (sym c.in-Ok-part.ensures.seats)
    (all_back g.J.Job.does store count c.in-Ok.opened.seats.items c.in-Ok.ensures.seats c.in_ok-worked.worked.items c.in_ok-worked.ensures.back))

pub returns-clause-done : goal.returns-clause-done
returns-clause-done g c =
    let store = c.in-Ok.opened.store in
    let settled = c.settle-seats.result.items in
    subst (AreDone g.J.Job.does store settled) (sym c.in-Ok-part.ensures.answers)
    (all_done g.J.Job.does store c.args.config.seats c.in-Ok.opened.seats.items c.in-Ok.ensures.seats c.in_ok-worked.worked.items
    c.in_ok-worked.ensures.back settled
    (subst (λ (seats : List SeatState). AreMet seats settled) c.in-Ok-part.ensures.seats c.settle-seats.ensures.met))

pub returns-clause-whole : goal.returns-clause-whole
returns-clause-whole g c =
    let store = c.in-Ok.opened.store in
    let count = c.args.config.seats in
    c.settle-seats.ensures.whole (has_all store c.args.config c.in-Ok-part.seats.items c.in-Ok.ensures.store
    (subst (AreAllSeats store count) (sym c.in-Ok-part.ensures.seats)
    (all_back g.J.Job.does store count c.in-Ok.opened.seats.items c.in-Ok.ensures.seats c.in_ok-worked.worked.items c.in_ok-worked.ensures.back)))
