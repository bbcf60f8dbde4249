use Rattle.std.proofs.Common.{rules}
use Rattle.clsm_text.proofs.Taken.{part_end}
use Rattle.clsm_text.proofs.input.take_part.Goals as goal

pub returns-then-is_empty-clause-takes : goal.returns-then-is_empty-clause-takes
returns-then-is_empty-clause-takes g c =
    part_end _ _ _ c.in-Ok.available.now c.fill_buf.follows.holds-at-none.0 c.in-Ok.ensures.end (search rules)
