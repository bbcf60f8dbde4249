use Rattle.std.proofs.Common.{◌∙◌}
use Rattle.std.specs.Str.Parse.{ExplainsUnsignedError, HasUnsignedDigitsIfOk, ParsesUnsigned}
use Rattle.clsm_command.proofs.Read.{number_read}
use Rattle.clsm_command.proofs.matches.number.Goals as goal

pub returns : goal.returns
returns c = c.unwrap_or.ensures
    ∙ number_read (λ bs r. ParsesUnsigned 64 10 bs r × ExplainsUnsignedError 10 bs r × HasUnsignedDigitsIfOk bs r)
    (λ t r h. h.0) c.args.matches.now c.args.id.now c.get_one.result c.get_one.ensures.none c.get_one.ensures.value
