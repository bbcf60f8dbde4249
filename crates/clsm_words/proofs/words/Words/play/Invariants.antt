use Rattle.clsm_words.specs.Knowing.{Follows}
use Rattle.clsm_words.proofs.words.Words.play.Given as goal

abbrev pub ghosts-act_told : goal.ghosts-act_told
ghosts-act_told g a = record { follows = Follows a.by.now }
