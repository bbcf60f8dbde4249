use Rattle.std.proofs.Common.{◌-◌, ◌≤◌, ◌^◌}
use Rattle.clsm_scan.specs.Collected.{left_at}
use Rattle.clsm_scan.proofs.Counts.{IsVisitTo}
use Rattle.clsm_scan.specs.Reading.{HasReadTo}
use Rattle.clsm_scan.proofs.visiting.visit_keys.Given as goal

abbrev pub invariant-loop-key : goal.invariant-loop-key
invariant-loop-key g l = record {
  read : HasReadTo g.C.Source.is_over g.C.Source.found g.C.Source.stands l.words l.fn.seat l.seat l.fn.cursor l.cursor l.from;
  later : l.bounds.lo ≤ l.from;
  visits : IsVisitTo g.V.Visitor.takes (left_at (g.C.Source.found l.fn.seat.knows l.fn.cursor)) l.bounds.lo l.from l.bounds.hi l.keys l.first
      l.fn.visitor l.visitor;
  ready : g.V.Visitor.is_ready l.visitor;
}

abbrev pub decreases-loop-key : goal.decreases-loop-key
decreases-loop-key g l = 2 ^ 64 - l.from
