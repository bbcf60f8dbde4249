use Rattle.std.proofs.Common.{rules, tests}
use Rattle.std.proofs.lemmas.Iterator.{YieldsList-from_slice}
use Rattle.std.proofs.lemmas.Iterator.Search.{all_from_yields_List}
use Rattle.clsm_machine_caller.specs.Settling.{is_outside}
use Rattle.clsm_machine_caller.proofs.batches.are_outside.Goals as goal

pub returns : goal.returns
returns c = all_from_yields_List (is_outside c.args.time) _ _ c.all.result c.all.ensures.ran (YieldsList-from_slice c.args.batches.now c.iter.ensures.rest)
    (λ x b q k. search (rules, tests))
