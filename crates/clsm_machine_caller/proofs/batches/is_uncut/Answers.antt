use Rattle.clsm_machine_caller.proofs.Uncut.{outside_all, all_outside}
use Rattle.clsm_machine_caller.proofs.batches.is_uncut.Goals as goal

pub returns : goal.returns
returns c = rw c.are_outside.ensures (outside_all c.args.batches.now c.args.time, all_outside c.args.batches.now c.args.time)
