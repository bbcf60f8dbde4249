-- What the merger notes of a seat while a component is retired.
use Rattle.std.specs.Prelude.{◌≡◌, ℕ, ◌%◌, Option, Some, None, slice_set}
use mathlib.Core.List.{IsPrefix}
use Rattle.clsm_law.specs.declared.view.View.{View}
use Rattle.clsm_law.specs.declared.merger.Reader.{Reader}
use Rattle.clsm_law.specs.declared.merger.MergerView.{MergerView}
use Rattle.clsm_law.specs.Law.{each}
use Rattle.clsm_law.specs.Machine.{IsLawful, WorldState}
use Rattle.clsm_words.specs.declared.known.Known.{Known}

-- it noted this of the seat, and nothing else of it changed; its past goes on
pub record LooksAtPin (old new : Known) (seat : ℕ) (seen : Reader) : Type 0 where
  pub number : new.number ≡ old.number
  pub dealt : new.dealt ≡ old.dealt
  pub layout : new.layout ≡ old.layout
  pub past : IsPrefix old.past new.past
  pub merger : new.merger ≡ record old.merger { readers = slice_set old.merger.readers seat seen }

-- in each world that may be, with this view of the merger, the seat with this number holds no
-- component but the newest
abbrev pub HoldsNothingRetired : MergerView → ℕ → Type 0
HoldsNothingRetired m seat = (w : WorldState) (component : ℕ) → IsLawful w → w.merger ≡ m → each w.layout View.held w.views seat ≡ Some component → component
    ≡ m.merged

-- a word was noted, and it was odd, as a read ran
abbrev pub IsNotedOdd : Option ℕ → Type 0
IsNotedOdd None = ⊥
IsNotedOdd (Some word) = word % 2 ≡ 1
