use Rattle.std.proofs.Common.{◌∙◌}
use Rattle.std.specs.Cmp.{unsigned_Decides}
use Rattle.clsm_model.proofs.Equals.{pair-Decides, same_test}
use Rattle.clsm_model.proofs.EqualRecords.{Change-Decides, Members-Decides}
use Rattle.clsm_model.proofs.members.MembersPartialEq.eq.Goals as goal

pub returns : goal.returns
returns c = rw (← c.self.view_is, ← c.other.view_is)
    (c.eq.ensures ∙ same_test (pair-Decides unsigned_Decides Change-Decides) Members-Decides c.self.inside.items.items c.other.inside.items.items)
