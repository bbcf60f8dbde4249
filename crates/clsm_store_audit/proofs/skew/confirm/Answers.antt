use Rattle.std.proofs.Common.{◌≡◌, List, [], ◌∷◌, subst, rules}
use Rattle.clsm_store_calls.specs.Seats.{SeatState}
use Rattle.clsm_store.specs.Headline.{HasAllSeats, IsWholeHistory, longest_past}
use Rattle.clsm_store.specs.Meetings.{AreMet}
use Rattle.clsm_store_audit.proofs.Skewed.{read_apart}
use Rattle.clsm_store_audit.proofs.skew.confirm.Goals as goal

pub unreachable-requires : goal.unreachable-requires
unreachable-requires c =
    let both : List SeatState = c.args.one.seat ∷ c.args.other.seat ∷ [] in
    let items : c.in_ok-seats.seats.items ≡ both = search rules in
    let settled : List SeatState = c.settle-seats.result.items in
    read_apart c.args.store.now c.requires.two c.args.crossing.now.one c.args.crossing.now.other c.args.one c.args.other c.requires.one c.requires.other
    settled
    (subst (λ (l : List SeatState). AreMet l settled) items c.settle-seats.ensures.met)
    (subst (λ (l : List SeatState). HasAllSeats c.args.store.now l → IsWholeHistory settled (longest_past settled)) items c.settle-seats.ensures.whole)
    (c.is_same_read.ensures.0 c.if-is_same_read.true)
