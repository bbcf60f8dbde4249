use Rattle.std.proofs.Common.{◌≡◌, List, [], ◌∷◌, true≢false, refl, sym, subst, ◌∙◌, rules}
use Rattle.clsm_store_calls.specs.Seats.{SeatState}
use Rattle.clsm_store.specs.Headline.{HasAllSeats, IsWholeHistory, longest_past}
use Rattle.clsm_store.specs.Meetings.{AreMet}
use Rattle.clsm_store_audit.proofs.Raced.{answered, made}
use Rattle.clsm_store_audit.proofs.race.confirm.Goals as goal

pub unreachable-requires : goal.unreachable-requires
unreachable-requires c =
    let both : List SeatState = c.args.put.0 ∷ c.args.read.0 ∷ [] in
    let items : c.in_ok-seats.seats.items ≡ both = search rules in
    true≢false (sym (c.in_ok-check.ensures.1 (answered c.args.store.now c.requires.two _ _ _ _ _ _ _ _ (made _ _ _ _ _ _ refl refl refl c.requires.put)
    (made _ _ _ _ _ _ refl refl refl c.requires.read)
    c.settle-seats.result.items
    (subst (λ (l : List SeatState). AreMet l c.settle-seats.result.items) items c.settle-seats.ensures.met)
    (subst (λ (l : List SeatState). HasAllSeats c.args.store.now l → IsWholeHistory c.settle-seats.result.items (longest_past c.settle-seats.result.items))
    items c.settle-seats.ensures.whole) refl)) ∙ c.if-not-branch.true)
