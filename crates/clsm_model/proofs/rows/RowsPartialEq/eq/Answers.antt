use Rattle.std.proofs.Common.{◌∙◌}
use Rattle.std.specs.Cmp.{unsigned_Decides}
use Rattle.clsm_model.proofs.Equals.{pair-Decides, same_test, Value-Decides, Rows-Decides}
use Rattle.clsm_model.proofs.rows.RowsPartialEq.eq.Goals as goal

pub returns : goal.returns
returns c = rw (← c.self.view_is, ← c.other.view_is)
    (c.eq.ensures ∙ same_test (pair-Decides unsigned_Decides Value-Decides) Rows-Decides c.self.inside.items.items c.other.inside.items.items)
