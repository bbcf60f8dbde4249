use Rattle.std.proofs.Common.{◌-◌, ◌≡◌, ℕ, ◌≤◌, ◌<◌, ◌^◌, length, None}
use Rattle.clsm_model.specs.Map.{value_at}
use Rattle.clsm_scan.specs.Collected.{AreRowsTo, IsAtMost, left_at}
use Rattle.clsm_scan.specs.Reading.{HasReadTo}
use Rattle.clsm_scan.proofs.collecting.collect.Given as goal

abbrev pub invariant-loop-key : goal.invariant-loop-key
invariant-loop-key g l = record {
  read : HasReadTo g.C.Source.is_over g.C.Source.found g.C.Source.stands l.words l.fn.seat l.seat l.fn.cursor l.cursor l.from;
  later : l.bounds.lo ≤ l.from;
  rows : AreRowsTo (left_at (g.C.Source.found l.fn.seat.knows l.fn.cursor)) l.bounds.lo l.from (g.R.Collector.rows l.rows);
  beyond : (k : ℕ) → l.bounds.hi < k → value_at (g.R.Collector.rows l.rows) k ≡ None;
  within : IsAtMost (length (g.R.Collector.rows l.rows)) (g.R.Collector.most l.fn.rows);
  most : g.R.Collector.most l.rows ≡ g.R.Collector.most l.fn.rows;
  ready : g.R.Collector.is_ready l.rows;
  goes_on : g.R.Collector.goes_on l.fn.rows l.rows;
}

abbrev pub decreases-loop-key : goal.decreases-loop-key
decreases-loop-key g l = 2 ^ 64 - l.from
