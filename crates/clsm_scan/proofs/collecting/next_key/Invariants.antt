use Rattle.std.proofs.Common.{◌+◌, ◌-◌, ◌≤◌}
use Rattle.clsm_scan.specs.Collected.{left_at}
use Rattle.clsm_scan.specs.Reading.{HasReadTo}
use Rattle.clsm_scan.proofs.Rows.{ArePassed}
use Rattle.clsm_scan.proofs.collecting.next_key.Given as goal

abbrev pub invariant-loop-sought : goal.invariant-loop-sought
invariant-loop-sought g l = record {
  read : HasReadTo g.C.Source.is_over g.C.Source.found g.C.Source.stands l.words l.fn.seat l.seat l.fn.cursor l.cursor l.sought;
  later : l.from ≤ l.sought;
  passed : ArePassed (left_at (g.C.Source.found l.fn.seat.knows l.fn.cursor)) l.from l.sought;
}

abbrev pub decreases-loop-sought : goal.decreases-loop-sought
decreases-loop-sought g l = l.hi + 1 - l.sought
