use Rattle.clsm_machine_caller.proofs.SeatWords.{words_said}
use Rattle.clsm_machine_caller.proofs.drawn.says_words.Goals as goal

pub returns-then-written-words : goal.returns-then-written-words
returns-then-written-words c =
    let said = words_said c.args.words.now c.args.written.now c.if-written-words.true in
    (λ e. said.0 (c.is_each_said.ensures.0 e), λ same. c.is_each_said.ensures.1 (said.1 same))
