use Rattle.std.proofs.Common.{eqb-true, sym, ◌∙◌}
use Rattle.clsm_machine_caller.proofs.SeatPages.{page, of_page}
use Rattle.clsm_machine_caller.proofs.pages.is_page_before.Goals as goal
use Rattle.clsm_machine_caller.proofs.pages.is_page_before.Goals.{then-rows-asked, else-rows-asked}

pub returns-then-is_next_key : goal.returns-then-is_next_key
returns-then-is_next_key c = elim c.if-rows-asked.branch [
  | then-rows-asked w ↦ (
    λ e. page _ _ _ _ _ _ _ w.if-rows-asked.true (w.is_next_key.ensures.0 (sym w.value-is ∙ c.if-is_next_key.true))
        (c.is_range_below.ensures.0 e),
    λ is. c.is_range_below.ensures.1 (of_page _ _ _ _ _ _ _ is).front,
  )
  | else-rows-asked w ↦ absurd (w.if-rows-asked.false (eqb-true _ _ (sym w.value-is ∙ c.if-is_next_key.true)))
]

pub returns-else-is_next_key : goal.returns-else-is_next_key
returns-else-is_next_key c = elim c.if-rows-asked.branch [
  | then-rows-asked w ↦ (λ e. absurd (cc), λ is. absurd (let e = w.is_next_key.ensures.1 (of_page _ _ _ _ _ _ _ is).next in cc))
  | else-rows-asked w ↦ (λ e. absurd (cc), λ is. absurd (w.if-rows-asked.false (of_page _ _ _ _ _ _ _ is).full))
]
