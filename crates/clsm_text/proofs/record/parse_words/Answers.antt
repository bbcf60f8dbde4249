use Rattle.clsm_text.proofs.Texts.{say_from}
use Rattle.clsm_text.proofs.record.parse_words.Goals as goal

pub returns : goal.returns
returns c =
    say_from c.args.words.now _ _ c.in-len2-up.len_at_least c.in-Some-Some.ensures
    c.in-Some-Some.ensures' (rw c.in-Some.is at c.in_ok-deed.ensures)
