use Rattle.std.proofs.Common.{rules, tests}
use Rattle.clsm_text.proofs.Texts.{bar_found, bar_missing, no_word}
use Rattle.clsm_text.proofs.timed.split_moments.Goals as goal

pub returns-then-ne-clause-none : goal.returns-then-ne-clause-none
returns-then-ne-clause-none c = bar_missing c.args.words.now no_word (search (rules, tests))

pub returns-clause-found : goal.returns-clause-found
returns-clause-found c = bar_found c.args.words.now no_word c.if-words-lt3.false (search (rules, tests))
