use Rattle.std.proofs.Common.{◌≡◌, ℕ, ◌+◌, ◌-◌, ◌*◌, ◌==◌, ◌&&◌, not, Bool, cond, true, false, eq-eqb, refl, ap, sym, subst, ◌∙◌, arith, inl}
use mathlib.Core.Logic.{dite}
use native.Mathlib.Decide.{ℕ_discrete}
use Rattle.clsm_law.specs.declared.layout.Layout.{Layout}
use Rattle.clsm_law.specs.declared.merger.MergerView.{MergerView}
use Rattle.clsm_law.specs.declared.word.Word.TheVariants.{Clock, State}
use Rattle.clsm_law.specs.Memory.{cell_of, is_same}
use Rattle.clsm_law.specs.Merging.{epoch_end, is_clean, merger_looked}
use Rattle.clsm_law.specs.Relation.{one_more_if}
use Rattle.clsm_law.proofs.Passes.{passes_if}
use Rattle.clsm_words.specs.declared.known.Known.{Known}
use Rattle.clsm_words.specs.Knowing.{row_of}
use Rattle.clsm_store_calls.proofs.freezing.pad.Goals as goal

-- in a hold of the lock a look at the clock is not noted
held_unpolled : (z : Layout) (m : MergerView) (x : ℕ) → m.exclusive ≡ true → merger_looked z m Clock x ≡ m
held_unpolled z m x held = λ i. record m {
  clock_looks = one_more_if (not (held i) && is_clean m.phase) m.clock_looks;
  clock_found = cond (not (held i) && is_clean m.phase) x m.clock_found;
}

cond_same : (b : Bool) (n : ℕ) → cond b n n ≡ n
cond_same true n = refl
cond_same false n = refl

pub loop-time-init : goal.loop-time-init
loop-time-init g c =
    let old = c.args.merger.now.knows in
    let new = c.look_as_merger-clock.new.seat.knows in
    let follows = c.look_as_merger-clock.ensures.1 in
    let view = follows.view ∙ held_unpolled old.layout old.merger c.look_as_merger-clock.result c.requires.held.0 in
    record {
      of = c.look_as_merger-clock.ensures.0;
      held = record {
        layout = follows.layout;
        exclusive = ap (λ (m : MergerView). m.exclusive) view ∙ c.requires.held.0;
        view = ap (λ (m : MergerView). record m { padded = new.merger.padded }) view;
      };
      clock = follows.made;
      padded = λ t low high. absurd (omega arith);
    }

pub loop-time-preserved : goal.loop-time-preserved
loop-time-preserved g c =
    let k = c.loop-time.merger.knows in
    let time = c.loop-time.time in
    let new = c.pad.new.seat.knows in
    let is = c.loop-time.invariant in
    let follows = c.pad.ensures.1.1 in
    let exclusive = is.held.exclusive in
    record {
      of = c.pad.ensures.1.0;
      held = record {
        layout = follows.layout ∙ is.held.layout;
        exclusive = ap (λ (m : MergerView). m.exclusive) follows.view ∙ exclusive;
        view = subst (λ (m : MergerView). m ≡ record k.merger { padded = m.padded }) (sym follows.view) refl
            ∙ ap (λ (m : MergerView). record m { padded = new.merger.padded }) is.held.view;
      };
      clock = follows.stays Clock exclusive ∙ is.clock;
      padded = λ t low high. ap (λ (z : Layout). row_of new (State (cell_of z t))) follows.layout ∙ dite (ℕ_discrete t time)
          (λ (e : t ≡ time). ap (λ (n : ℕ). row_of new (State (cell_of k.layout n))) e ∙ follows.made)
          (λ ne. follows.stays (State (cell_of k.layout t)) (inl exclusive)
          ∙ ap (λ (n : ℕ). cond (is_same (State (cell_of k.layout t)) (State (cell_of k.layout time))) 1 n) (is.padded t low (omega arith))
          ∙ cond_same (is_same (State (cell_of k.layout t)) (State (cell_of k.layout time))) 1);
    }

pub returns-clause-padded : goal.returns-clause-padded
returns-clause-padded g c =
    let k : Known = c.loop-time.merger.knows in
    let z : Layout = k.layout in
    let held = c.loop-time.invariant.held in
    let end : epoch_end z k.merger ≡ c.args.end = ap (λ (z : Layout). (k.merger.merged + 1) * z.cells) held.layout
    ∙ ap (λ (m : MergerView). (m.merged + 1) * c.args.merger.now.knows.layout.cells) held.view ∙ sym c.requires.end in
    let clock = c.loop-time.invariant.clock in
    passes_if (λ t. row_of k (State (cell_of z t)) == 1) (row_of k Clock) (epoch_end z k.merger - row_of k Clock)
    (λ t low high. eq-eqb _ 1 (c.loop-time.invariant.padded t (omega arith) (omega arith)))
