use Rattle.std.proofs.Common.{◌≡◌, ◌<◌, cond, length, set, sym, ap, ◌∙◌, arith, length-set, List}
use Rattle.std.proofs.lemmas.List.{get_or-set_same}
use Rattle.clsm_law.specs.declared.merger.MergerView.{MergerView}
use Rattle.clsm_law.specs.declared.merger.Reader.{Reader}
use Rattle.clsm_law.specs.Merging.{reader_at, reader_by, unseen}
use Rattle.clsm_pins.proofs.Released.{released}
use Rattle.clsm_pins.proofs.quieting.quiet.Goals as goal

pub returns-clause-released : goal.returns-clause-released
returns-clause-released g c quiet =
    let m = c.args.merger.now.knows.merger in
    let new = c.look_as_merger-word.new.seat.knows.merger in
    let seat = c.args.seat in
    let seen = reader_by (reader_at m.readers seat) c.look_as_merger-word.result in
    let follows = c.look_as_merger-word.ensures.1 in
    let readers : new.readers ≡ set m.readers seat seen = ap (λ (n : MergerView). n.readers) follows.view
    ∙ ap (λ b. cond b (set m.readers seat seen) m.readers) c.requires.retired in
    let inside : seat < length m.readers = let long = ap (λ (l : List Reader). length l) readers ∙ length-set m.readers seat seen in let count =
    follows.sound.seats in let same = follows.layout in let few = c.requires.inside in let z = ap (λ z. z.seats) same in omega arith in
    let is : reader_at new.readers seat ≡ c.noted.result = ap (λ (l : List Reader). reader_at l seat) readers
    ∙ get_or-set_same m.readers seat seen unseen inside ∙ ap (λ (r : Reader). reader_by r c.look_as_merger-word.result) (sym c.requires.seen)
    ∙ sym c.noted.ensures.noted in
    released new seat (ap (λ (r : Reader). r.quiet) is ∙ quiet)
