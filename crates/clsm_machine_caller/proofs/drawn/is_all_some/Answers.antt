use Rattle.std.proofs.Common.{rules, tests, ◌∙◌}
use Rattle.std.specs.Option.{is_some}
use Rattle.std.proofs.lemmas.Iterator.{YieldsList-from_slice}
use Rattle.std.proofs.lemmas.Iterator.Search.{all_from_yields_List}
use Rattle.clsm_machine_caller.proofs.SeatWords.{is_all_some-all}
use Rattle.clsm_machine_caller.proofs.drawn.is_all_some.Goals as goal

pub returns : goal.returns
returns c = all_from_yields_List is_some _ _ c.all.result c.all.ensures.ran (YieldsList-from_slice c.args.words.now c.iter.ensures.rest)
    (λ x b q k. search (rules, tests)) ∙ is_all_some-all c.args.words.now
