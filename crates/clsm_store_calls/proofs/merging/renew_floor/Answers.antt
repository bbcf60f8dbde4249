use Rattle.std.proofs.Common.{◌≡◌, ℕ, ◌+◌, ◌*◌, ◌≤◌, arith, refl, sym, ap, ◌∙◌, subst, vec_capacity}
use Rattle.clsm_law.specs.declared.layout.Layout.{Layout}
use Rattle.clsm_law.specs.declared.merger.MergerView.{MergerView}
use Rattle.clsm_store_calls.proofs.Prepared.{counts_of, epoch_stays, runs_stay, same_frozen, still_frozen}
use Rattle.clsm_store_calls.proofs.merging.renew_floor.Goals as goal

pub returns-clause-stays : goal.returns-clause-stays
returns-clause-stays g c =
    let k = c.args.merger.now.raw.knows in
    let floored = c.take_floor-floor.new.merger.knows in
    let keeps = c.take_floor-floor.ensures.keeps in
    let z = c.args.words.now.layout in
    let merges = c.args.merger.now.merges in
    let before = subst (λ (y : Layout). c.args.merger.now.floor ≤ (merges + 1) * y.cells) c.requires.of.1 c.requires.ready.early in
    let end : (merges + 1) * c.cells.result ≡ (merges + 1) * z.cells = ap (λ (n : ℕ). (merges + 1) * n) c.cells.ensures in
    let after = c.take_floor-floor.ensures.early (omega arith) in
    let early : c.take_floor-floor.result.0 ≤ (merges + 1) * z.cells = omega arith in
    record {
      frozen = still_frozen k floored c.args.merger.now.merges keeps.view c.requires.frozen;
      ready = record {
        floor = c.take_floor-floor.ensures.floor;
        noted = c.take_floor-floor.ensures.noted;
        early = subst (λ (z : Layout). c.take_floor-floor.result.0 ≤ (c.args.merger.now.merges + 1) * z.cells) (sym c.take_floor-floor.ensures.of.1) early;
        room = subst (λ (z : Layout). z.cells ≤ vec_capacity c.args.merger.now.walk.group) (sym keeps.layout) c.requires.ready.room;
        seats = c.requires.ready.seats ∙ ap (λ (z : Layout). z.seats) (sym keeps.layout);
      };
      same = same_frozen c.args.merger.now (record {
        raw = c.take_floor-floor.new.merger;
        merges = c.args.merger.now.merges;
        floor = c.take_floor-floor.result.0;
        noted = c.take_floor-floor.result.1;
        walk = c.args.merger.now.walk;
        seen = c.args.merger.now.seen;
      })
          (c.take_floor-floor.ensures.of.0 ∙ sym c.requires.of.0) keeps.layout refl (counts_of k floored keeps.view)
          (epoch_stays k floored c.show_invariant.ensures c.requires.frozen.frozen c.requires.frozen.out.exclusive keeps.layout
          (ap (λ (m : MergerView). m.merged) keeps.view) keeps.past)
          (runs_stay k floored (ap (λ (m : MergerView). m.merged) keeps.view) keeps.runs);
    }
