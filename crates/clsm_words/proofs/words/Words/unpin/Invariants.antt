use Rattle.clsm_law.specs.declared.step.Step.TheVariants.{Unpin}
use Rattle.clsm_words.specs.Knowing.{Follows}
use Rattle.clsm_words.proofs.words.Words.unpin.Given as goal

abbrev pub ghosts-act_told : goal.ghosts-act_told
ghosts-act_told g a = record { follows = Follows (Unpin (g.E.Ending.end a.by.now)) }
