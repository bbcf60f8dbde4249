use Rattle.std.proofs.Common.{◌∙◌, ap, sym}
use Rattle.clsm_words.specs.declared.known.Known.{Known}
use Rattle.clsm_words.proofs.Dealing.{learns_sound}
use Rattle.clsm_words.proofs.words.WordTable.learn.Goals as goal

pub invariant_of-to : goal.invariant_of-to
invariant_of-to c = let learns = c.take_in.ensures.learns in
    (c.to.invariant.0 ∙ sym (ap (λ (k : Known). k.number) learns), learns_sound _ _ c.args.message learns c.to.invariant.1)
