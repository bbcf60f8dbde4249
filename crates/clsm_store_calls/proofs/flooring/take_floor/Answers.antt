use Rattle.std.proofs.Common.{◌≡◌, ℕ, ◌+◌, ◌<◌, ap, sym, ◌∙◌, arith, subst, refl, true, Option}
use Rattle.clsm_law.specs.declared.layout.Layout.{Layout}
use Rattle.clsm_law.specs.declared.merger.MergerView.{MergerView}
use Rattle.clsm_law.specs.declared.word.Word.TheVariants.{Snap}
use Rattle.clsm_law.specs.Merging.{epoch_end, is_frozen, least}
use Rattle.clsm_words.proofs.Changing.{look_leaves}
use Rattle.clsm_model.proofs.Batches.{prefix_trans}
use Rattle.clsm_store_calls.specs.Flooring.{floor_at, noted_at, round_at, rounds_at}
use Rattle.clsm_store_calls.proofs.Rounds.{next_floor, next_noted, next_round, next_rounds}
use Rattle.clsm_store_calls.proofs.flooring.take_floor.Goals as goal

pub loop-seat-preserved : goal.loop-seat-preserved
loop-seat-preserved g c =
    let first = c.args.merger.now.knows in
    let k = c.loop-seat.merger.knows in
    let z = k.layout in
    let is = c.loop-seat.invariant in
    let i = c.loop-seat.seat in
    let found = c.loop-seat.found in
    let x = c.look_as_merger-word.result in
    let new = c.look_as_merger-word.new.seat.knows in
    let follows = c.look_as_merger-word.ensures.1 in
    let view = follows.view in
    let now = ap (λ (o : Option ℕ). least found o) c.noted_time.ensures in
    let seats : c.args.words.now.layout.seats ≡ z.seats = ap (λ (z : Layout). z.seats) (sym is.of.1) in
    let all = c.seats-seat-end.ensures in
    let inside : i < z.seats = omega arith in
    let frozen : is_frozen k.merger.phase ≡ true = ap (λ (m : MergerView). is_frozen m.phase) is.keeps.view ∙ c.requires.frozen in
    let ends : epoch_end z k.merger ≡ c.args.end = ap (λ (m : MergerView). epoch_end z m) is.keeps.view
    ∙ ap (λ (z : Layout). epoch_end z first.merger) is.keeps.layout ∙ sym c.requires.end in
    let stands = subst (λ (n : ℕ). k.merger.round ≡ round_at n i found first.merger.round) seats is.round in
    let low = subst (λ (n : ℕ). k.merger.floor ≡ floor_at n i c.args.before c.args.end found) seats is.floor in
    let counted = subst (λ (n : ℕ). k.merger.rounds ≡ rounds_at n i first.merger.rounds) seats is.rounds in
    let least_is = c.least-found.ensures ∙ now in
    record {
      of = c.look_as_merger-word.ensures.0;
      keeps = record {
        layout = follows.layout ∙ is.keeps.layout;
        view = subst (λ (m : MergerView). m ≡ record k.merger
            { floor = m.floor; round = m.round; rounds = m.rounds; noted = m.noted })
            (sym view) refl
            ∙ ap (λ (m : MergerView). record m {
              floor = new.merger.floor;
              round = new.merger.round;
              rounds = new.merger.rounds;
              noted = new.merger.noted;
            }) is.keeps.view;
        past = prefix_trans first.past k.past new.past is.keeps.past follows.longer;
        runs = λ word run. look_leaves k new (Snap i) x follows word run ∙ is.keeps.runs word run;
      };
      round = ap (λ (m : MergerView). m.round) view ∙ next_round z k.merger i x c.args.before c.args.end found first.merger.round inside frozen stands
          is.fresh low ends
          ∙ (λ j. round_at (sym seats j) (i + 1) (sym least_is j) first.merger.round);
      fresh = λ none. absurd (omega arith);
      floor = ap (λ (m : MergerView). m.floor) view ∙ next_floor z k.merger i x c.args.before c.args.end found first.merger.round inside frozen stands
          is.fresh low ends
          ∙ (λ j. floor_at (sym seats j) (i + 1) c.args.before c.args.end (sym least_is j));
      noted = ap (λ (m : MergerView). m.noted) view ∙ next_noted z k.merger i x c.args.before c.args.end found first.merger.round inside frozen stands
          is.fresh low ends first.merger.noted (subst (λ (n : ℕ). k.merger.noted ≡ noted_at n i found first.merger.noted) seats is.noted)
          ∙ (λ j. noted_at (sym seats j) (i + 1) (sym least_is j) first.merger.noted);
      rounds = ap (λ (m : MergerView). m.rounds) view ∙ next_rounds z k.merger i x c.args.before c.args.end found first.merger.round inside frozen stands
          is.fresh low ends first.merger.rounds counted
          ∙ ap (λ (n : ℕ). rounds_at n (i + 1) first.merger.rounds) (sym seats);
    }
