use Rattle.clsm_machine_caller.proofs.SeatPages.{IsRangeBelow-empty}
use Rattle.clsm_machine_caller.proofs.pages.is_range_below.Goals as goal

pub returns-then-hi-eq0 : goal.returns-then-hi-eq0
returns-then-hi-eq0 c = IsRangeBelow-empty _ _ _ _ _ _ c.if-hi-eq0.true c.is_empty.ensures
