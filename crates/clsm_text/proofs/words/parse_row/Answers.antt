use Rattle.std.proofs.Common.{lit<}
use Rattle.clsm_text.proofs.Texts.{no_row}
use Rattle.clsm_text.proofs.words.parse_row.Goals as goal

pub returns-in_default : goal.returns-in_default
returns-in_default c =
    no_row c.args.text.now (c.in_default.ensures.byte (lit< tt) (λ w o finds. finds))
