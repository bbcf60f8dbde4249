use Rattle.std.proofs.Common.{◌≡◌, length, take}
use Rattle.clsm_text.specs.Line.{lines_of}
use Rattle.clsm_text.specs.Audit.{IsListOf}
use Rattle.clsm_text.proofs.listing.list_records.Given as goal

abbrev pub invariant-loop-line : goal.invariant-loop-line
invariant-loop-line l = record {
  can : (goal.iterator-loop-line).can_next l.line-iterator;
  ends : (goal.iterator-loop-line).is_finite l.line-iterator;
  number : l.number ≡ length l.yielded;
  list : IsListOf l.timed (take l.number (lines_of l.text)) l.list.listed.records.items l.list.listed.lines.items
      l.list.moments.items;
}
