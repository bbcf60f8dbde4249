use Rattle.std.proofs.Common.{arith}
use Rattle.clsm_law.specs.declared.step.Step.TheVariants.{Note}
use Rattle.clsm_words.proofs.words.Words.note.Goals as goal

pub overflow_add-time : goal.overflow_add-time
overflow_add-time g c = let h = c.show_invariant.ensures.small (Note c.args.time) c.requires.1 in omega arith
