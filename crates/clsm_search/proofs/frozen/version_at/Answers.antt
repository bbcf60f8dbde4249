use Rattle.std.proofs.Common.{◌<◌, subst, arith}
use Rattle.clsm_law.specs.declared.word.Part.TheVariants.{Key}
use Rattle.clsm_model.specs.declared.slot.Slot.{Slot}
use Rattle.clsm_words.specs.Changing.{NoWord}
use Rattle.clsm_words.specs.Knowing.{IsPartOf}
use Rattle.clsm_search.specs.Searching.{slot_in}
use Rattle.clsm_search.specs.Staying.{slot_on}
use Rattle.clsm_search.proofs.FrozenTimes.{version_there}
use Rattle.clsm_search.proofs.frozen.version_at.Goals as goal

pub returns-clause-version : goal.returns-clause-version
returns-clause-version g c =
    let k = c.args.merger.now.knows in
    let t = c.args.time in
    version_there t (slot_in k t) c.part-key.result c.state-code.result c.state-code.ensures.told
    (λ (lt : c.state-code.result < 2). let ge = c.if-code-lt2.false in omega arith)
    (subst (λ (slot : Slot). IsPartOf slot Key c.part-key.result)
    (slot_on NoWord k c.state-code.new.merger.knows t c.state-code.ensures.looks c.requires.frozen.known) c.part-key.ensures.told)
