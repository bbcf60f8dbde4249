use Rattle.std.proofs.Common.{[], List, arith, length, reverse, subst, sym, ◌≤◌}
use Rattle.clsm_model.specs.Map.{Pair}
use Rattle.clsm_scan.specs.Collected.{AreAll, left_at}
use Rattle.clsm_scan.specs.Sources.{found_in_component}
use Rattle.clsm_scan.proofs.Falling.{down_none, pairs_none}
use Rattle.clsm_scan.proofs.downwards.scan_down.Goals as goal

pub returns-then-bounds-clause-rows : goal.returns-then-bounds-clause-rows
returns-then-bounds-clause-rows g c =
    let value = left_at (found_in_component c.args.seat.now.knows c.args.point.component c.args.point.until) in
    let lo = c.args.bounds.lo in
    let hi = c.args.bounds.hi in
    let rows = c.args.filling.now.rows.now in
    let none = sym (pairs_none g.R.Row.pair rows c.args.filling.now.count c.requires.none) in (
      subst (λ (pairs : List Pair). AreAll value lo hi (reverse pairs)) none (down_none value lo hi c.if-bounds.true),
      subst (λ (pairs : List Pair). length pairs ≤ length rows) none (omega arith),
    )
