use Rattle.clsm_words.specs.Merging.{FollowsMerger}
use Rattle.clsm_words.proofs.words.Words.play_as_merger.Given as goal

abbrev pub ghosts-act_told : goal.ghosts-act_told
ghosts-act_told g a = record { follows = FollowsMerger a.by.now }
