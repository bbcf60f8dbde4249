use Rattle.std.proofs.Common.{refl, sym, ◌∙◌}
use Rattle.clsm_machine_caller.proofs.SeatRanges.{IsRange-given, IsRange-rows, IsRange-writes}
use Rattle.clsm_machine_caller.proofs.ranges.is_range.Goals as goal
use Rattle.clsm_machine_caller.proofs.ranges.is_range.Goals.{then-keys_rise, else-keys_rise}

pub returns-then-is_each_row_given : goal.returns-then-is_each_row_given
returns-then-is_each_row_given c = elim c.if-keys_rise.branch [
  | then-keys_rise w ↦ (
    λ e. IsRange-given _ _ _ _ (w.if-keys_rise.ensures.0 refl)
        (w.is_each_row_given.ensures.0 (sym w.value-is ∙ c.if-is_each_row_given.true)) (c.is_each_write_given.ensures.0 e),
    λ range. c.is_each_write_given.ensures.1 (IsRange-writes _ _ _ _ _ _ range),
  )
  | else-keys_rise w ↦ absurd (cc)
]

pub returns-else-is_each_row_given : goal.returns-else-is_each_row_given
returns-else-is_each_row_given c = elim c.if-keys_rise.branch [
  | then-keys_rise w ↦ (λ e. absurd (cc), λ range. absurd (let e = w.is_each_row_given.ensures.1 (IsRange-rows _ _ _ _ _ range) in cc))
  | else-keys_rise w ↦ (λ e. absurd (cc), λ range. absurd (let e = c.keys_rise.ensures.1 range.rise in cc))
]
