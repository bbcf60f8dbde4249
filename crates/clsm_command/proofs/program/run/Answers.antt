use Rattle.std.proofs.Common.{rules}
use Rattle.clsm_command.proofs.Added.{args_added}
use Rattle.clsm_command.proofs.program.run.Goals as goal

pub returns : goal.returns
returns c = args_added _ _ c.named.result _ _ c.args-2.result c.named.ensures c.in_ok-vec.ensures.items c.args-2.ensures (search rules)
