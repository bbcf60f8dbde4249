use Rattle.std.proofs.Common.{◌==◌, Some, None, rules, tests, ◌∙◌}
use Rattle.std.proofs.lemmas.Iterator.{YieldsList-from_slice}
use Rattle.std.proofs.lemmas.Iterator.Search.{find_from_yields_List}
use Rattle.clsm_machine_caller.proofs.SeatRows.{value_at-found}
use Rattle.clsm_machine_caller.proofs.ranges.value_at.Goals as goal

pub returns-in_err-row : goal.returns-in_err-row
returns-in_err-row c =
    let found = find_from_yields_List (λ row. c.args.key == row.0) _ _ c.find.result c.find.ensures.ran
    (YieldsList-from_slice c.args.rows.now c.iter.ensures.rest) (λ x b q k. search (rules, tests)) in
    c.from_residual.ensures ∙ value_at-found c.args.rows.now c.args.key None (rw c.in_err-row.was at found)

pub returns : goal.returns
returns c =
    let found = find_from_yields_List (λ row. c.args.key == row.0) _ _ c.find.result c.find.ensures.ran
    (YieldsList-from_slice c.args.rows.now c.iter.ensures.rest) (λ x b q k. search (rules, tests)) in
    value_at-found c.args.rows.now c.args.key (Some c.in_ok-row.row.now) (rw c.in_ok-row.was at found)
