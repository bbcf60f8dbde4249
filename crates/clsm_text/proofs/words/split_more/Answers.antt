use Rattle.std.proofs.Common.{rules, tests}
use Rattle.clsm_text.proofs.Texts.{more_found, more_missing, no_word}
use Rattle.clsm_text.proofs.words.split_more.Goals as goal

pub returns-then-ne-clause-none : goal.returns-then-ne-clause-none
returns-then-ne-clause-none c = more_missing c.args.words.now no_word (search (rules, tests))

pub returns-clause-found : goal.returns-clause-found
returns-clause-found c = more_found c.args.words.now no_word c.if-words-lt2.false (search (rules, tests))
