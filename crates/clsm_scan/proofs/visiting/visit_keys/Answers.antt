use Rattle.std.proofs.Common.{ℕ, ◌+◌, ◌≤◌, None, Some, Option, sym, ap, subst, arith, List, inl, inr}
use Rattle.std.proofs.lemmas.Bool.{cases_lt}
use Rattle.clsm_model.specs.Map.{Pair}
use Rattle.clsm_levels.specs.Entry.{value_of}
use Rattle.clsm_scan.specs.Collected.{IsNextRow, left_at}
use Rattle.clsm_scan.proofs.Counts.{IsVisitTo, visit_all, visit_ended, visit_next, visit_none}
use Rattle.clsm_scan.specs.Reading.{HasReadTo}
use Rattle.clsm_scan.proofs.ReadOn.{read_none, read_on}
use Rattle.clsm_scan.proofs.Rows.{next_row_same}
use Rattle.clsm_scan.proofs.visiting.visit_keys.Given.{Over}
use Rattle.clsm_scan.proofs.visiting.visit_keys.Goals as goal
use Rattle.clsm_scan.proofs.visiting.visit_keys.Goals.{After-checked_add}

pub loop-key-init : goal.loop-key-init
loop-key-init g c =
    let value = left_at (g.C.Source.found c.args.seat.now.knows c.args.cursor.now) in
    record {
      read = read_none g.C.Source.is_over g.C.Source.found g.C.Source.stands c.args.words.now c.args.seat.now c.args.cursor.now c.args.bounds.lo
          c.requires.stands;
      later = omega arith;
      visits = visit_none g.V.Visitor.takes value c.args.bounds.lo c.args.bounds.hi c.args.visitor.now;
      ready = c.requires.ready;
    }

-- ---- a turn that takes a row

abbrev value : (g : Over) → After-checked_add g → ℕ → Option (List ℕ)
value g c = left_at (g.C.Source.found c.args.seat.now.knows c.args.cursor.now)

abbrev row : (g : Over) → After-checked_add g → Pair
row g c = (c.in-Some.key, c.in-Some.ensures.next.words)

next : (g : Over) (c : After-checked_add g) → IsNextRow (value g c) c.loop-key.from c.args.bounds.hi (Some (row g c))
next g c =
    let now = left_at (g.C.Source.found c.loop-key.seat.knows c.loop-key.cursor) in
    next_row_same (value g c) now c.loop-key.from c.args.bounds.hi (Some (row g c)) (λ k above. ap value_of (c.loop-key.invariant.read.same k above))
    c.in-Some.ensures.next.next

visited : (g : Over) (c : After-checked_add g) → IsVisitTo g.V.Visitor.takes (value g c) c.args.bounds.lo (c.in-Some.key + 1) c.args.bounds.hi
    c.saturating_add-keys.result (Some c.unwrap_or.result) c.args.visitor.now c.visit.new.self
visited g c =
    let before = c.loop-key.invariant in
    subst (λ (key : ℕ). IsVisitTo g.V.Visitor.takes (value g c) c.args.bounds.lo (c.in-Some.key + 1) c.args.bounds.hi c.saturating_add-keys.result (Some key)
    c.args.visitor.now c.visit.new.self) (sym c.unwrap_or.ensures)
    (visit_next g.V.Visitor.takes (value g c) c.args.bounds.lo c.args.bounds.hi c.loop-key.from c.loop-key.keys c.saturating_add-keys.result (row g c)
    c.loop-key.first c.args.visitor.now c.loop-key.visitor c.visit.new.self before.visits before.later (next g c) c.saturating_add-keys.ensures
    (c.visit.ensures.takes (row g c) c.in-Some.ensures.next.is))

pub returns-in_default-checked_add-clause-visits : goal.returns-in_default-checked_add-clause-visits
returns-in_default-checked_add-clause-visits g c =
    let turn = (goal.at.returns-in_default-checked_add-clause-visits g c).After-checked_add in
    let last : c.args.bounds.hi ≤ c.in-Some.key = elim (cases_lt c.in-Some.key c.args.bounds.hi) [
      | inl lt ↦ absurd (c.in_default-checked_add.ensures (let fits = c.well_formed in omega (arith, fits)))
      | inr le ↦ le
    ] in
    visit_ended g.V.Visitor.takes (value g turn) c.args.bounds.lo c.args.bounds.hi c.in-Some.key c.saturating_add-keys.result (Some c.unwrap_or.result)
    c.args.visitor.now c.visit.new.self (visited g turn) last

pub returns-clause-visits : goal.returns-clause-visits
returns-clause-visits g c =
    let all = left_at (g.C.Source.found c.args.seat.now.knows c.args.cursor.now) in
    let now = left_at (g.C.Source.found c.loop-key.seat.knows c.loop-key.cursor) in
    let before = c.loop-key.invariant in
    visit_all g.V.Visitor.takes all c.args.bounds.lo c.args.bounds.hi c.loop-key.from c.loop-key.keys c.loop-key.first c.args.visitor.now
    c.loop-key.visitor before.visits
    (next_row_same all now c.loop-key.from c.args.bounds.hi None (λ k above. ap value_of (before.read.same k above)) c.in_default.ensures.next)

pub loop-key-preserved : goal.loop-key-preserved
loop-key-preserved g c =
    let turn = (goal.at.loop-key-preserved g c).After-checked_add in
    let behind = sym c.in-Some-checked_add.ensures.1 in
    let row_next = next g turn in
    record {
      read = subst (HasReadTo g.C.Source.is_over g.C.Source.found g.C.Source.stands c.args.words.now c.args.seat.now c.visit.new.seat c.args.cursor.now
          c.next_key.new.cursor) behind
          (read_on g.C.Source.is_over g.C.Source.found g.C.Source.stands c.args.words.now g.met.C.Source.over_stays g.met.C.Source.found_stays
          g.met.C.Source.stands_stays c.args.seat.now c.loop-key.seat c.next_key.new.seat c.visit.new.seat c.args.cursor.now c.loop-key.cursor
          c.next_key.new.cursor c.loop-key.from (c.in-Some.key + 1) (let later = row_next.0 in omega arith) c.loop-key.invariant.read c.in-Some.ensures.read
          c.visit.ensures.of c.visit.ensures.looks);
      later = let later = row_next.0 in omega arith;
      visits = subst (λ (end : ℕ). IsVisitTo g.V.Visitor.takes (value g turn) c.args.bounds.lo end c.args.bounds.hi c.saturating_add-keys.result
          (Some c.unwrap_or.result) c.args.visitor.now c.visit.new.self) behind (visited g turn);
      ready = c.visit.ensures.ready;
    }
