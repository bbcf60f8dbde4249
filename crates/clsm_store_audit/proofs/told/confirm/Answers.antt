use Rattle.std.proofs.Common.{◌≡◌, List, [], ◌∷◌, Some, true≢false, sym, ap, subst, ◌∙◌, rules}
use mathlib.Core.Bool.{not}
use Rattle.clsm_model.proofs.Equals.{Value-Decides, option_eq-Decides}
use Rattle.clsm_store_calls.specs.Seats.{SeatState, known_by}
use Rattle.clsm_store.specs.Headline.{HasAllSeats, IsWholeHistory, longest_past}
use Rattle.clsm_store.specs.Meetings.{AreMet}
use Rattle.clsm_store_audit.proofs.Heard.{found_is}
use Rattle.clsm_store_audit.proofs.Raced.{put_alone, put_is, reader_begins}
use Rattle.clsm_store_audit.proofs.told.confirm.Goals as goal

pub unreachable-requires : goal.unreachable-requires
unreachable-requires c =
    let found = c.args.found in
    let write = c.args.write.now in
    let both : List SeatState = c.args.put.0 ∷ found.seat ∷ [] in
    let items : c.in_ok-seats.seats.items ≡ both = search rules in
    let settled : List SeatState = c.settle-seats.result.items in
    let met = subst (λ (l : List SeatState). AreMet l settled) items c.settle-seats.ensures.met in
    let whole = subst (λ (l : List SeatState). HasAllSeats c.args.store.now l → IsWholeHistory settled (longest_past settled)) items
    c.settle-seats.ensures.whole in
    let same : found.got.value ≡ Some write.value = found_is (known_by found.seat) (longest_past settled)
    (reader_begins c.args.store.now c.requires.two _ _ _ _ _ _ _ _ c.requires.put c.requires.found.made settled met whole) 0 c.args.put.1 write.key
    write.value
    (put_is c.args.store.now c.requires.two _ _ _ _ _ _ _ _ c.requires.put c.requires.found.made settled met whole)
    (put_alone c.args.store.now c.requires.two _ _ _ _ _ _ _ _ c.requires.put c.requires.found.made settled met whole)
    found.key found.time found.got.time found.got.value c.requires.found.finds in
    true≢false (sym c.if-ne.true ∙ c.ne.ensures ∙ ap not ((option_eq-Decides Value-Decides found.got.value (Some write.value)).1 same))
