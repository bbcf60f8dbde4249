-- Where a seat that knows its own past alone may make a step, beside where the step is open by that
-- past: it raises the front to no time inside a batch.
use Rattle.std.specs.Prelude.{◌≡◌, ℕ, ◌⊎◌, Some}
use Rattle.clsm_law.specs.declared.step.Step.{Step}
use Rattle.clsm_law.specs.declared.step.Step.TheVariants.{RaiseFront}
use Rattle.clsm_law.specs.declared.view.View.{View}
use Rattle.clsm_law.specs.Batches.{snapshot_time}

-- the time is the clock that the seat looked at under its pin, its snapshot's, or its drawn time
abbrev pub MayRaise : View → ℕ → Type 0
MayRaise v t = (v.pin_clock ≡ Some t) ⊎ ((snapshot_time v.snapshot ≡ Some t) ⊎ (v.drawn ≡ Some t))

-- and nothing more is asked of other steps
abbrev pub IsRaise : View → Step → Type 0
IsRaise v (RaiseFront t) = MayRaise v t
IsRaise v step = Unit {0}
