use Rattle.std.proofs.Common.{◌∙◌}
use Rattle.clsm_command.proofs.Read.{flag_read}
use Rattle.clsm_command.proofs.matches.flag.Goals as goal

pub returns : goal.returns
returns c = c.unwrap_or.ensures
    ∙ flag_read _ c.args.matches.now c.args.id.now c.get_one.result c.get_one.ensures.none c.get_one.ensures.value
