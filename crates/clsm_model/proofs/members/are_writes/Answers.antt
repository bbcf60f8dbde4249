use Rattle.std.proofs.Common.{rules, tests}
use Rattle.std.proofs.lemmas.Iterator.{YieldsList-from_slice}
use Rattle.std.proofs.lemmas.Iterator.Search.{all_from_yields_List}
use Rattle.clsm_model.proofs.Writes.{are_writes, is_change}
use Rattle.clsm_model.proofs.members.are_writes.Goals as goal

pub returns : goal.returns
returns c =
    are_writes c.args.members.now c.all.result
    (all_from_yields_List (λ m. is_change m.1) _ _ c.all.result c.all.ensures.ran (YieldsList-from_slice c.args.members.now c.iter.ensures.rest)
    (λ x b q k. search (rules, tests)))
