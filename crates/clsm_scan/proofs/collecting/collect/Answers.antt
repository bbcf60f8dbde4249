use Rattle.std.proofs.Common.{◌≡◌, ℕ, ◌+◌, ◌≤◌, ◌<◌, Some, None, Option, length, true, sym, ap, ◌∙◌, subst, arith, refl, [], ◌∷◌, ◌++◌, List, inl, inr}
use Rattle.std.proofs.lemmas.Bool.{cases_lt}
use Rattle.clsm_model.specs.Map.{Pair, value_at}
use Rattle.clsm_levels.specs.Entry.{value_of}
use Rattle.clsm_scan.specs.Collected.{AreAll, AreRowsTo, IsAtMost, IsNextRow, is_full, left_at}
use Rattle.clsm_scan.specs.Reading.{HasReadTo}
use Rattle.clsm_scan.proofs.ReadOn.{read_none, read_on}
use Rattle.clsm_scan.proofs.Rows.{beyond_pushed, just_full, next_row_same, none_at_most, most_pushed, rows_ended, rows_none, rows_stopped, rows_taken}
use Rattle.clsm_scan.proofs.collecting.collect.Given.{Over}
use Rattle.clsm_scan.proofs.collecting.collect.Goals as goal
use Rattle.clsm_scan.proofs.collecting.collect.Goals.{After-checked_add}

pub loop-key-init : goal.loop-key-init
loop-key-init g c =
    let value = left_at (g.C.Source.found c.args.seat.now.knows c.args.cursor.now) in
    let empty = sym c.requires.none in
    record {
      read = read_none g.C.Source.is_over g.C.Source.found g.C.Source.stands c.args.words.now c.args.seat.now c.args.cursor.now c.args.bounds.lo
          c.requires.stands;
      later = omega arith;
      rows = subst (AreRowsTo value c.args.bounds.lo c.args.bounds.lo) empty (rows_none value c.args.bounds.lo);
      beyond = λ k lt. ap (λ (rows : List Pair). value_at rows k) c.requires.none;
      within = let most = g.R.Collector.most c.args.rows.now in
          subst (λ (rows : List Pair). IsAtMost (length rows) most) empty (none_at_most most);
      most = refl;
      ready = c.requires.ready;
      goes_on = g.met.R.Collector.begins c.args.rows.now c.requires.ready;
    }

pub returns-then-is_full-clause-rows : goal.returns-then-is_full-clause-rows
returns-then-is_full-clause-rows g c =
    let value = left_at (g.C.Source.found c.args.seat.now.knows c.args.cursor.now) in
    let value' = left_at (g.C.Source.found c.loop-key.seat.knows c.loop-key.cursor) in
    let before = c.loop-key.invariant in
    let most = g.R.Collector.most c.args.rows.now in
    let old = g.R.Collector.rows c.loop-key.rows in
    let here = c.in-Some.ensures.next in
    let hi = c.args.bounds.hi in
    let next = next_row_same value value' c.loop-key.from hi (Some (c.in-Some.key, here.words)) (λ k above. ap value_of (before.read.same k above))
    here.next in
    let full : is_full most (length old) ≡ true = ap (λ (o : Option ℕ). is_full o (length old)) (sym before.most) ∙ sym c.is_full.ensures ∙ c.if-is_full.true in
    rows_stopped value c.args.bounds.lo c.loop-key.from c.args.bounds.hi most old (c.in-Some.key, here.words) before.rows before.later next
    (just_full most (length old) full before.within)

-- ---- a turn that collects a row

abbrev value : (g : Over) → After-checked_add g → ℕ → Option (List ℕ)
value g c = left_at (g.C.Source.found c.args.seat.now.knows c.args.cursor.now)

abbrev row : (g : Over) → After-checked_add g → Pair
row g c = (c.in-Some.key, c.in-Some.ensures.next.words)

put : (g : Over) (c : After-checked_add g) → g.R.Collector.rows c.collect.new.self ≡ g.R.Collector.rows c.loop-key.rows ++ row g c ∷ []
put g c = c.in_ok-collect.ensures.collected (row g c) c.in-Some.ensures.next.is

within : (g : Over) (c : After-checked_add g) → IsAtMost (length (g.R.Collector.rows c.collect.new.self)) (g.R.Collector.most c.args.rows.now)
within g c =
    let old = g.R.Collector.rows c.loop-key.rows in
    let room = ap (λ (o : Option ℕ). is_full o (length old)) (sym c.loop-key.invariant.most) ∙ sym c.is_full.ensures ∙ c.if-is_full.false in
    most_pushed (g.R.Collector.most c.args.rows.now) old (g.R.Collector.rows c.collect.new.self) (row g c) (put g c) room

next : (g : Over) (c : After-checked_add g) → IsNextRow (value g c) c.loop-key.from c.args.bounds.hi (Some (row g c))
next g c =
    let now = left_at (g.C.Source.found c.loop-key.seat.knows c.loop-key.cursor) in
    next_row_same (value g c) now c.loop-key.from c.args.bounds.hi (Some (row g c)) (λ k above. ap value_of (c.loop-key.invariant.read.same k above))
    c.in-Some.ensures.next.next

pub returns-in_default-checked_add-clause-rows : goal.returns-in_default-checked_add-clause-rows
returns-in_default-checked_add-clause-rows g c =
    let turn = (goal.at.returns-in_default-checked_add-clause-rows g c).After-checked_add in
    let before = c.loop-key.invariant in
    let old = g.R.Collector.rows c.loop-key.rows in
    let last : c.args.bounds.hi ≤ c.in-Some.key = elim (cases_lt c.in-Some.key c.args.bounds.hi) [
      | inl lt ↦ absurd (c.in_default-checked_add.ensures (let fits = c.well_formed in omega (arith, fits)))
      | inr le ↦ le
    ] in (
      subst (AreAll (value g turn) c.args.bounds.lo c.args.bounds.hi) (sym (put g turn))
          (rows_ended (value g turn) c.args.bounds.lo c.loop-key.from c.args.bounds.hi old (row g turn) before.rows before.later
          (next g turn) before.beyond last),
      within g turn,
    )

pub loop-key-preserved : goal.loop-key-preserved
loop-key-preserved g c =
    let turn = (goal.at.loop-key-preserved g c).After-checked_add in
    let before = c.loop-key.invariant in
    let old = g.R.Collector.rows c.loop-key.rows in
    let behind = sym c.in-Some-checked_add.ensures.1 in
    let row_next = next g turn in
    record {
      read = subst (HasReadTo g.C.Source.is_over g.C.Source.found g.C.Source.stands c.args.words.now c.args.seat.now c.collect.new.seat c.args.cursor.now
          c.next_key.new.cursor) behind
          (read_on g.C.Source.is_over g.C.Source.found g.C.Source.stands c.args.words.now g.met.C.Source.over_stays g.met.C.Source.found_stays
          g.met.C.Source.stands_stays c.args.seat.now c.loop-key.seat c.next_key.new.seat c.collect.new.seat c.args.cursor.now c.loop-key.cursor
          c.next_key.new.cursor c.loop-key.from (c.in-Some.key + 1) (let later = row_next.0 in omega arith) before.read c.in-Some.ensures.read
          c.in_ok-collect.ensures.of c.collect.ensures.looks);
      later = let later = row_next.0 in omega arith;
      rows = subst (AreRowsTo (value g turn) c.args.bounds.lo c.in-Some-checked_add.behind) (sym (put g turn))
          (subst (λ (end : ℕ). AreRowsTo (value g turn) c.args.bounds.lo end (old ++ row g turn ∷ [])) behind
          (rows_taken (value g turn) c.args.bounds.lo c.loop-key.from c.args.bounds.hi old (row g turn) before.rows before.later row_next));
      beyond = subst (λ (rows : List Pair). (k : ℕ) → c.args.bounds.hi < k → value_at rows k ≡ None) (sym (put g turn))
          (beyond_pushed (value g turn) c.args.bounds.lo c.args.bounds.hi old (row g turn) row_next.1 before.beyond);
      within = within g turn;
      most = c.collect.ensures.most ∙ before.most;
      ready = c.collect.ensures.ready;
      goes_on = g.met.R.Collector.goes_further c.args.rows.now c.loop-key.rows c.collect.new.self before.goes_on c.collect.ensures.goes_on;
    }
