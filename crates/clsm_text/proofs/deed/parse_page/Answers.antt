use Rattle.clsm_text.proofs.Texts.{no_page}
use Rattle.clsm_text.proofs.deed.parse_page.Goals as goal

pub returns-in_default-3 : goal.returns-in_default-3
returns-in_default-3 c =
    λ deed. no_page c.args.words.now deed c.in-len3-up.len_at_least
    (rw c.in_default-3.is at c.in_ok-rows.ensures)
