-- When a seat may settle the times below its own.
use Rattle.std.specs.Prelude.{◌≡◌, ℕ, ◌+◌, ◌*◌, ◌<◌, ◌≤◌, Option, Some, None}
use Rattle.clsm_law.specs.declared.view.Waiting.{Waiting}
use Rattle.clsm_law.specs.Memory.{cell_of}
use Rattle.clsm_law.specs.Raising.{MayRaise}
use Rattle.clsm_words.specs.declared.known.Known.{Known}
use Rattle.clsm_words.specs.declared.words.WordTable.{WordTable}
use Rattle.clsm_words.specs.Plays.{IsSeatOf}
use Rattle.clsm_words.specs.Seats.{RawState}

-- the seat looked at a clock that is not below the time
abbrev pub IsClockFrom : Option ℕ → ℕ → Type 0
IsClockFrom None s = ⊥
IsClockFrom (Some clock) s = s ≤ clock

-- the seat may settle the time: it holds the component, the time is of its two epochs and below a
-- clock that it looked at, and an own drawn time is above it
pub record MaySettle (k : Known) (component t : ℕ) : Type 0 where
  pub held : k.view.held ≡ Some component
  pub from : component * k.layout.cells ≤ t
  pub until : t < (component + 2) * k.layout.cells
  pub clock : IsClockFrom k.view.clock (t + 1)
  pub own : (u : ℕ) → k.view.drawn ≡ Some u → t < u

-- it is to settle the time, which it reached
pub record IsToSettle (words : WordTable) (seat : RawState) (component t : ℕ) : Type 0 where
  pub of : IsSeatOf words seat
  pub may : MaySettle seat.knows component t
  pub reached : t ≤ seat.knows.view.reached

-- the seat may settle all times below s
pub record MaySettleBelow (k : Known) (component s : ℕ) : Type 0 where
  pub held : k.view.held ≡ Some component
  pub merged : component * k.layout.cells ≤ k.view.reached
  pub until : s ≤ (component + 2) * k.layout.cells
  pub clock : IsClockFrom k.view.clock s
  pub own : (u : ℕ) → k.view.drawn ≡ Some u → s ≤ u
  -- the front is raised to no time inside a batch
  pub raise : MayRaise k.view s

-- the last looks at states found this one undecided: the first, and at least so many more
abbrev pub HasLooked : Option Waiting → ℕ → ℕ → Type 0
HasLooked None cell again = ⊥
HasLooked (Some w) cell again = (w.cell ≡ cell) × (again ≤ w.again)

-- so the seat waited for the time
abbrev pub HasWaited : Known → ℕ → ℕ → Type 0
HasWaited k t again = HasLooked k.view.waited (cell_of k.layout t) again
