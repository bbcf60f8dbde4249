use Rattle.std.proofs.Common.{nat_lt, rules, tests}
use Rattle.std.proofs.lemmas.List.Sorted.{answers_always}
use Rattle.clsm_machine_caller.proofs.SeatRanges.{KeysRise-test}
use Rattle.clsm_machine_caller.proofs.ranges.keys_rise.Goals as goal

pub returns : goal.returns
returns c = KeysRise-test c.args.rows.now c.is_sorted_by.result (c.is_sorted_by.ensures.cases (λ x y. nat_lt x.0 y.0)
    (answers_always _ _ _ (λ f a r g h. search (rules, tests))))
