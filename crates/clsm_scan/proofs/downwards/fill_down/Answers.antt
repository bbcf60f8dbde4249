use Rattle.std.proofs.Common.{◌≡◌, ◌∙◌, ℕ, ◌+◌, ◌-◌, ◌≤◌, [], List, Option, None, Some, ap, arith, length, map, refl, reverse, subst, sym, take}
use Rattle.clsm_model.specs.Map.{Pair}
use Rattle.clsm_words.proofs.Keeps.{aside_trans, looks_none}
use Rattle.clsm_scan.specs.Collected.{AreAll, IsCollected, left_at}
use Rattle.clsm_scan.specs.Downwards.{IsStoppedDown}
use Rattle.clsm_scan.specs.Filling.{FillsOn, fills_none, fills_on}
use Rattle.clsm_scan.specs.Sources.{found_in_component}
use Rattle.clsm_scan.proofs.Falling.{down_none, filled_none, handed_all, handed_cut, pairs_none, pairs_within, stopped_later, window_read}
use Rattle.clsm_scan.proofs.downwards.fill_down.Given.{Over}
use Rattle.clsm_scan.proofs.downwards.fill_down.Goals as goal
use Rattle.clsm_scan.proofs.downwards.fill_down.Goals.{After-read_window-read}

pub windows-init : goal.windows-init
windows-init g c =
    let value = left_at (found_in_component c.args.seat.now.knows c.args.span.point.component c.args.span.point.until) in
    let rows = c.args.filling.now.rows.now in
    let count = c.args.filling.now.count in
    let top = c.of-rest.ensures.hi in
    let lo = c.of-rest.ensures.lo in
    let floor = c.of-rest.ensures.floor in
    let some = c.requires.some in
    record {
      of = c.requires.of;
      looks = record { looks = looks_none c.args.seat.now.knows; trail = refl };
      lo = lo;
      low = omega arith;
      left = omega arith;
      within = omega arith;
      room = c.requires.room;
      ready = filled_none g.R.Row.is_row rows count c.requires.none;
      goes_on = subst (FillsOn c.args.filling.now.rows 0 c.args.filling.now.rows) (sym c.requires.none) (fills_none c.args.filling.now.rows 0);
      given = subst (λ (pairs : List Pair). AreAll value (c.of-rest.result.hi + 1) c.args.span.bounds.hi (reverse pairs))
          (sym (pairs_none g.R.Row.pair rows count c.requires.none)) (down_none value (c.of-rest.result.hi + 1) c.args.span.bounds.hi (omega arith));
    }

-- ---- a turn

abbrev value : (g : Over) → After-read_window-read g → ℕ → Option (List ℕ)
value g c = left_at (found_in_component c.args.seat.now.knows c.args.span.point.component c.args.span.point.until)

-- the rows of its window
abbrev window : (g : Over) → After-read_window-read g → List Pair
window g c = take c.read_window-read.result.count c.read_window-read.new.rows

read : (g : Over) (c : After-read_window-read g) (more : Option ℕ) → c.read_window-read.result.more ≡ more
    → IsCollected (value g c) c.next_window-lo.result c.windows.rest.hi (Some (length c.windows.window)) (window g c) more
read g c more is =
    let component = c.args.span.point.component in
    let until = c.args.span.point.until in
    subst (IsCollected (value g c) c.next_window-lo.result c.windows.rest.hi (Some (length c.windows.window)) (window g c)) is
    (window_read c.args.seat.now.knows c.windows.seat.knows component until c.next_window-lo.result c.windows.rest.hi (Some (length c.windows.window))
    (window g c) c.read_window-read.result.more c.requires.may.held c.windows.invariant.looks c.read_window-read.ensures.window)

pub windows-smaller-in-Some : goal.windows-smaller-in-Some
windows-smaller-in-Some g c =
    let turn = (goal.at.windows-smaller-in-Some g c).After-read_window-read in
    let stopped = read g turn (Some c.in-Some.more) c.in-Some.is in
    let later = stopped_later (value g turn) c.next_window-lo.result c.windows.rest.hi (length c.windows.window) c.in-Some.more (window g turn)
    c.windows.invariant.room stopped in
    let until = stopped.until in
    let from = c.next_window-lo.ensures.from in
    let same = c.narrow.ensures.hi in
    let floor = c.narrow.ensures.floor in
    omega arith

pub returns-in-Some-hand_down-clause-rows : goal.returns-in-Some-hand_down-clause-rows
returns-in-Some-hand_down-clause-rows g c =
    let turn = (goal.at.returns-in-Some-hand_down-clause-rows g c).After-read_window-read in
    let before = c.windows.invariant in
    let lo = c.args.span.bounds.lo in
    let hi = c.args.span.bounds.hi in
    let old = map g.R.Row.pair (take c.windows.filling.count c.windows.filling.rows.now) in
    let new = map g.R.Row.pair (take c.hand_down.new.self.count c.hand_down.new.self.rows.now) in
    subst (λ (max : ℕ). IsStoppedDown (value g turn) lo hi max new c.in-Some-hand_down.more) before.goes_on.long
    (handed_cut (value g turn) lo c.next_window-lo.result c.windows.rest.hi hi (length c.windows.filling.rows.now) c.in-Some-hand_down.more (window g turn)
    old new (let low = before.low in let at = before.lo in let from = c.next_window-lo.ensures.from in omega arith) before.within
    c.in-Some-hand_down.ensures.handed (read g turn None c.in_default.is).0 before.given)

pub returns-then-lo-rest-clause-goes_on : goal.returns-then-lo-rest-clause-goes_on
returns-then-lo-rest-clause-goes_on g c =
    fills_on c.args.filling.now.rows 0 c.windows.filling.rows c.windows.filling.count c.hand_down.new.self.rows c.hand_down.new.self.count
    c.windows.invariant.goes_on c.in_default-hand_down.ensures.goes_on

pub returns-then-lo-rest-clause-rows : goal.returns-then-lo-rest-clause-rows
returns-then-lo-rest-clause-rows g c =
    let turn = (goal.at.returns-then-lo-rest-clause-rows g c).After-read_window-read in
    let before = c.windows.invariant in
    let hi = c.args.span.bounds.hi in
    let old = map g.R.Row.pair (take c.windows.filling.count c.windows.filling.rows.now) in
    let new = map g.R.Row.pair (take c.hand_down.new.self.count c.hand_down.new.self.rows.now) in
    let until = c.next_window-lo.ensures.until in
    let handed = c.in_default-hand_down.ensures in (
      subst (λ (lo : ℕ). AreAll (value g turn) lo hi (reverse new)) (c.if-lo-rest.true ∙ before.lo)
          (handed_all (value g turn) c.next_window-lo.result c.windows.rest.hi hi (window g turn) old new (omega arith) before.within handed.handed
          (read g turn None c.in_default.is).0 before.given),
      (let counted = pairs_within g.R.Row.is_row g.R.Row.pair c.hand_down.new.self.rows.now c.hand_down.new.self.count handed.ready in
          let within = handed.ready.within in let long = handed.goes_on.long in let long' = before.goes_on.long in omega arith),
    )

pub windows-preserved : goal.windows-preserved
windows-preserved g c =
    let turn = (goal.at.windows-preserved g c).After-read_window-read in
    let before = c.windows.invariant in
    let hi = c.args.span.bounds.hi in
    let old = map g.R.Row.pair (take c.windows.filling.count c.windows.filling.rows.now) in
    let new = map g.R.Row.pair (take c.hand_down.new.self.count c.hand_down.new.self.rows.now) in
    let until = c.next_window-lo.ensures.until in
    let handed = c.in_default-hand_down.ensures in
    let top = c.pass.ensures.hi in
    let below = before.within in
    let same = c.read_window-read.ensures.same in
    let room = before.room in
    record {
      of = c.read_window-read.ensures.of;
      looks = aside_trans c.args.seat.now.knows c.windows.seat.knows c.read_window-read.new.seat.knows before.looks c.read_window-read.ensures.looks;
      lo = c.pass.ensures.lo ∙ before.lo;
      low = c.pass.ensures.low;
      left = c.pass.ensures.left;
      within = omega arith;
      room = omega arith;
      ready = handed.ready;
      goes_on = fills_on c.args.filling.now.rows 0 c.windows.filling.rows c.windows.filling.count c.hand_down.new.self.rows c.hand_down.new.self.count
          before.goes_on handed.goes_on;
      given = subst (λ (lo : ℕ). AreAll (value g turn) lo hi (reverse new)) (sym top)
          (handed_all (value g turn) c.next_window-lo.result c.windows.rest.hi hi (window g turn) old new (omega arith) before.within handed.handed
          (read g turn None c.in_default.is).0 before.given);
    }
