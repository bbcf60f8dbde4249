use Rattle.std.proofs.Common.{◌≡◌, ◌++◌, ◌≤◌, drop, length, map, reverse, take}
use Rattle.clsm_scan.specs.Filling.{AreFilled, FillsOn}
use Rattle.clsm_scan.proofs.collector.Filling.hand_down.Given as goal

abbrev pub invariant-loop-left : goal.invariant-loop-left
invariant-loop-left g l = record {
  within : l.left ≤ length l.window;
  ready : AreFilled g.R.Row.is_row l.self.rows.now l.self.count;
  goes_on : FillsOn l.fn.self.rows l.fn.self.count l.self.rows l.self.count;
  handed : map g.R.Row.pair (take l.self.count l.self.rows.now)
      ≡ map g.R.Row.pair (take l.fn.self.count l.fn.self.rows.now) ++ reverse (drop l.left l.window);
}

abbrev pub decreases-loop-left : goal.decreases-loop-left
decreases-loop-left g l = l.left
