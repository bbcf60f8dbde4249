use Rattle.clsm_model.proofs.EqualRecords.{Members-Decides}
use Rattle.clsm_machine_caller.proofs.open.is_staged.Goals as goal

pub returns : goal.returns
returns c = rw c.eq.ensures (Members-Decides c.args.view.now.staged c.args.members.now)
