use Rattle.std.proofs.Common.{lit<}
use Rattle.clsm_text.proofs.Readings.{no_member}
use Rattle.clsm_text.proofs.member.parse_member.Goals as goal

pub returns-in_default : goal.returns-in_default
returns-in_default c =
    no_member c.args.text.now (c.in_default.ensures.byte (lit< tt) (λ w o finds. finds))
