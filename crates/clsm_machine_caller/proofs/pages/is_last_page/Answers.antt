use Rattle.clsm_machine_caller.proofs.SeatPages.{last_page, of_last_page}
use Rattle.clsm_machine_caller.proofs.pages.is_last_page.Goals as goal

pub returns-then-rows-asked : goal.returns-then-rows-asked
returns-then-rows-asked c = (
  λ e. last_page _ _ _ _ _ _ c.if-rows-asked.true (c.is_range.ensures.0 e),
  λ page. c.is_range.ensures.1 (of_last_page _ _ _ _ _ _ page).1,
)
