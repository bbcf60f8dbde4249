use Rattle.clsm_law.specs.declared.step.Step.TheVariants.{Commit}
use Rattle.clsm_words.specs.Knowing.{Follows}
use Rattle.clsm_words.proofs.words.Words.commit.Given as goal

abbrev pub ghosts-act_told : goal.ghosts-act_told
ghosts-act_told g a = record { follows = Follows (Commit a.by.now.now) }
