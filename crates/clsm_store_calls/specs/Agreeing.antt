-- How the merger's token of a frozen epoch agrees with what a seat knows of the history.
use Rattle.std.specs.Prelude.{◌≡◌, ◌+◌, ◌*◌, ◌≤◌, List, length}
use mathlib.Core.List.{IsPrefix}
use Rattle.clsm_model.specs.declared.slot.Slot.{Slot}
use Rattle.clsm_store_calls.specs.Merging.{IsOfHistory}
use Rattle.clsm_store_calls.specs.Seats.{FrozenState}

-- What the token carries is of a history that begins with these slots, and of just these where they
-- reach to the end of the frozen epoch
pub record AgreesWith (slots : List Slot) (s : FrozenState) : Type 0 where
  pub history : List Slot
  pub begins : IsPrefix slots history
  pub carried : IsOfHistory history s
  pub whole : (s.merger.merges + 1) * s.merger.store.layout.cells ≤ length slots → history ≡ slots
