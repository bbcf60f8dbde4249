use Rattle.std.proofs.Common.{ℕ, ◌+◌, ◌*◌, ◌<◌, ◌≤◌, inl, inr, Some, sym, subst, arith, ◌∙◌}
use Rattle.std.proofs.lemmas.Bool.{ltb-true, ltb-false}
use Rattle.clsm_levels.specs.declared.entry.Entry.{Entry}
use Rattle.clsm_levels.specs.Entry.{first_below}
use Rattle.clsm_levels.specs.Yields.{IsNextFrom}
use Rattle.clsm_law.specs.Places.{entry_in}
use Rattle.clsm_words.specs.Knowing.{row_of}
use Rattle.clsm_words.proofs.Keeps.{aside_trans}
use Rattle.clsm_runs.specs.Searching.{IsSearchable, StandsFrom, count_of, run_at}
use Rattle.clsm_runs.proofs.NamedRuns.{older_there, run_there}
use Rattle.clsm_runs.specs.Staying.{entry_in_stays, has_stays, place_stays}
use Rattle.clsm_runs.proofs.Standing.{passes, passes_taken, takes}
use Rattle.clsm_runs.proofs.entry.HeldRun.next.Goals as goal

pub loop-passage-preserved-then-key-sought : goal.loop-passage-preserved-then-key-sought
loop-passage-preserved-then-key-sought g c =
    let k = c.args.seat.now.knows in
    let now = c.loop-passage.seat.knows in
    let place = c.args.self.place in
    let at = c.loop-passage.passage.position in
    let before = c.loop-passage.invariant in
    let run : IsSearchable k c.args.self.component place =
    record { held = c.requires.held; named = c.requires.named } in
    let same = place_stays k now c.args.self.component place before.looks.looks run in
    let key = c.part-key.ensures.told ∙ same.words at 0 in
    let less : (entry_in (row_of k) place at).key < c.args.sought.from = omega (arith, key) in
    let inside : at < count_of k place = let count = before.stands.count in omega arith in
    record {
      of = c.part-key.ensures.of;
      looks = aside_trans k now c.part-key.new.seat.knows before.looks c.part-key.ensures.looks;
      stands = record {
        stands = passes k place c.args.sought.until c.args.sought.from at before.stands.stands inside (inl less);
        count = before.stands.count;
        all = before.stands.all;
      };
    }

pub is_below-requires-clause-all : goal.is_below-requires-clause-all
is_below-requires-clause-all g c =
    let k = c.args.seat.now.knows in
    let old = c.loop-passage.seat.knows in
    let now = c.part-key.new.seat.knows in
    let component = c.args.self.component in
    let place = c.args.self.place in
    let until = c.args.sought.until in
    let at = c.loop-passage.passage.position in
    let run : IsSearchable k component place =
    record { held = c.requires.held; named = c.requires.named } in
    let looks = aside_trans k old now c.loop-passage.invariant.looks c.part-key.ensures.looks in
    let is = entry_in_stays k now component place at looks.looks run in
    let inside : at < count_of k place = let count = c.loop-passage.invariant.stands.count in omega arith in
    let older = older_there k component place at c.show_invariant.ensures (record { run = run; inside = inside }) in
    λ all.
    let first : component * k.layout.cells ≤ until = c.loop-passage.invariant.stands.all all in
    let early : (entry_in (row_of k) place at).time < until = omega (arith, older, first) in
    subst (λ (e : Entry). e.time < until) (sym is) early

pub loop-passage-preserved : goal.loop-passage-preserved
loop-passage-preserved g c =
    let k = c.args.seat.now.knows in
    let now = c.part-key.new.seat.knows in
    let place = c.args.self.place in
    let at = c.loop-passage.passage.position in
    let until = c.args.sought.until in
    let before = c.loop-passage.invariant in
    let run : IsSearchable k c.args.self.component place =
    record { held = c.requires.held; named = c.requires.named } in
    let old = c.loop-passage.seat.knows in
    let looks = aside_trans k old now before.looks c.part-key.ensures.looks in
    let is = entry_in_stays k now c.args.self.component place at looks.looks run in
    let inside : at < count_of k place = let count = before.stands.count in omega arith in
    let late : until ≤ (entry_in (row_of now) place at).time =
    ltb-false (entry_in (row_of now) place at).time until (sym c.is_below.ensures.told ∙ c.if-is_below.false) in
    record {
      of = c.is_below.ensures.of;
      looks = aside_trans k now c.is_below.new.seat.knows looks c.is_below.ensures.looks;
      stands = record {
        stands = passes k place until c.args.sought.from at before.stands.stands inside
            (inr (subst (λ (e : Entry). until ≤ e.time) is late));
        count = before.stands.count;
        all = before.stands.all;
      };
    }

pub returns-then-is_below : goal.returns-then-is_below
returns-then-is_below g c =
    let k = c.args.seat.now.knows in
    let old = c.loop-passage.seat.knows in
    let first = c.part-key.new.seat.knows in
    let second = c.is_below.new.seat.knows in
    let component = c.args.self.component in
    let place = c.args.self.place in
    let until = c.args.sought.until in
    let from = c.args.sought.from in
    let at = c.loop-passage.passage.position in
    let before = c.loop-passage.invariant in
    let run : IsSearchable k component place =
    record { held = c.requires.held; named = c.requires.named } in
    let one = aside_trans k old first before.looks c.part-key.ensures.looks in
    let two = aside_trans k first second one c.is_below.ensures.looks in
    let same = place_stays k old component place before.looks.looks run in
    let key = c.part-key.ensures.told ∙ same.words at 0 in
    let still = entry_in_stays k first component place at one.looks run in
    let is = entry_in_stays k second component place at two.looks run in
    let below : (entry_in (row_of first) place at).time < until =
    ltb-true (entry_in (row_of first) place at).time until (sym c.is_below.ensures.told ∙ c.if-is_below.true) in
    let early : (entry_in (row_of k) place at).time < until = subst (λ (e : Entry). e.time < until) still below in
    let later : from ≤ (entry_in (row_of k) place at).key = omega (arith, key) in
    let order = (run_there k component place c.show_invariant.ensures run).order in
    let found = λ (key : ℕ). first_below (run_at k place) key until in
    let there = place_stays k second component place two.looks run in
    let inside : at < count_of k place = let count = before.stands.count in omega arith in
    record {
      of = c.is_below.ensures.of;
      looks = two;
      passed = record {
        has = has_stays k second component place at two.looks (record { run = run; inside = inside });
        key = there.words at 0 ∙ sym key;
      };
      next = subst (λ (e : Entry). IsNextFrom found from (Some e)) (sym is)
          (takes k place until from at before.stands.stands inside order later early);
      stands = record {
        stands = subst (λ (e : Entry). StandsFrom k place until (e.key + 1) (at + 1)) (sym is)
            (passes_taken k place until from at before.stands.stands inside later);
        count = before.stands.count;
        all = before.stands.all;
      };
    }
