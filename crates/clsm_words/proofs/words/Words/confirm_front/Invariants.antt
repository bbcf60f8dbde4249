use Rattle.clsm_words.specs.Knowing.{Follows}
use Rattle.clsm_words.specs.Plays.{confirming}
use Rattle.clsm_words.proofs.words.Words.confirm_front.Given as goal

abbrev pub ghosts-act_told : goal.ghosts-act_told
ghosts-act_told g a = record { follows = λ k x k'. Follows (confirming a.by.now x) k x k' }
