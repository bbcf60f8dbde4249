use Rattle.std.proofs.Common.{◌≡◌, ◌∙◌, ◌++◌, ◌∷◌, [], ap, sym, subst, Option}
use Rattle.std.specs.Option.{option_to_list}
use Rattle.clsm_law.specs.declared.view.View.{View}
use Rattle.clsm_law.specs.OpenSteps.{open_time}
use Rattle.clsm_words.specs.Plays.{AreFreshFrom}
use Rattle.clsm_words.specs.Seats.{RawState as RawState}
use Rattle.clsm_store.proofs.Starts.{fresh_at, fresh_rests}
use Rattle.clsm_tests.proofs.tests.hints.opened.Goals as goal

pub invariant_of-result : goal.invariant_of-result
invariant_of-result g c =
    let words = c.expect-words.result.0 in
    let all = c.expect-words.result.1.items in
    let rest = c.pop.new.self.items in
    let seat = c.expect-seat.result in
    let popped : rest ++ seat ∷ [] ≡ all = sym (c.pop.ensures.items ∙ ap (λ (o : Option RawState). rest ++ option_to_list o) c.expect-seat.ensures) in
    let opened = rw c.expect-words.ensures at c.new.ensures.seats in
    let fresh = fresh_at words all rest seat [] opened.1 popped in
    (fresh.0, fresh_rests seat _ fresh.1, sym (ap (λ (v : View). v.pin) fresh.1.1), ap (λ (v : View). open_time v.snapshot) fresh.1.1)
