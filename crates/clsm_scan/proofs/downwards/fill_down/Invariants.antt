use Rattle.std.proofs.Common.{◌≡◌, ◌+◌, ◌-◌, ◌*◌, ◌^◌, ◌≤◌, length, map, reverse, take}
use Rattle.clsm_words.specs.Keeping.{LooksAside}
use Rattle.clsm_words.specs.Plays.{IsSeatOf}
use Rattle.clsm_scan.specs.Collected.{AreAll, left_at}
use Rattle.clsm_scan.specs.Filling.{AreFilled, FillsOn}
use Rattle.clsm_scan.specs.Sources.{found_in_component}
use Rattle.clsm_scan.proofs.downwards.fill_down.Given as goal

abbrev pub invariant-windows : goal.invariant-windows
invariant-windows g l = record {
  of : IsSeatOf l.words l.seat;
  looks : LooksAside l.fn.seat.knows l.seat.knows;
  lo : l.rest.lo ≡ l.fn.span.bounds.lo;
  low : l.rest.lo ≤ l.rest.floor;
  left : l.rest.floor ≤ l.rest.hi;
  within : l.rest.hi ≤ l.fn.span.bounds.hi;
  room : 1 ≤ length l.window;
  ready : AreFilled g.R.Row.is_row l.filling.rows.now l.filling.count;
  goes_on : FillsOn l.fn.filling.rows 0 l.filling.rows l.filling.count;
  given : AreAll (left_at (found_in_component l.fn.seat.knows l.fn.span.point.component l.fn.span.point.until)) (l.rest.hi + 1) l.fn.span.bounds.hi
      (reverse (map g.R.Row.pair (take l.filling.count l.filling.rows.now)));
}

abbrev pub decreases-windows : goal.decreases-windows
decreases-windows g l = l.rest.hi * 2 ^ 64 + (l.rest.hi - l.rest.floor)
