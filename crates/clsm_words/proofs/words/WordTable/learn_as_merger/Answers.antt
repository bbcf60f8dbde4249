use Rattle.clsm_words.proofs.Dealing.{learns_sound_merger}
use Rattle.clsm_words.proofs.words.WordTable.learn_as_merger.Goals as goal

pub invariant_of-to : goal.invariant_of-to
invariant_of-to c = learns_sound_merger _ _ c.args.message c.take_in.ensures.learns c.to.invariant
