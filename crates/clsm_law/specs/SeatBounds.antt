-- What a step of a seat has to be so that the numbers that it makes fit 64 bits.
use Rattle.std.specs.Prelude.{ℕ, length, ◌+◌, ◌*◌, ◌^◌, ◌<◌}
use Rattle.clsm_law.specs.declared.layout.Layout.{Layout}
use Rattle.clsm_law.specs.declared.word.Word.{Word}
use Rattle.clsm_law.specs.declared.word.Word.TheVariants.{Merged, Head, Cell, State}
use Rattle.clsm_law.specs.declared.step.Step.{Step}
use Rattle.clsm_law.specs.declared.step.Step.TheVariants.{EnterShared, Draw, Decide, Commit, Look, Note}
use Rattle.clsm_law.specs.declared.view.View.{View}
use Rattle.clsm_law.specs.Views.{line_of, or_zero}

-- of a look: the place of a head among the fresh heads, the first time of the component found, and
-- the place of a cell in the ordered list
abbrev pub IsSmallLook : Layout → Word → ℕ → Type 0
IsSmallLook z (Head region chain) x = line_of region chain < 2 ^ 64
IsSmallLook z Merged x = x * z.cells < 2 ^ 64
IsSmallLook z (Cell cell part) x = cell + 1 < 2 ^ 64
IsSmallLook z (State cell) x = cell + 1 < 2 ^ 64
IsSmallLook z word x = Unit {0}

-- and one holder more, and the time behind one that is drawn, decided or noted
abbrev pub IsSmall : Layout → Step → ℕ → Type 0
IsSmall z (EnterShared l) x = l + 1 < 2 ^ 64
IsSmall z (Draw t) x = t + 1 < 2 ^ 64
IsSmall z (Decide t deed) x = t + 1 < 2 ^ 64
IsSmall z (Note b) x = b + 1 < 2 ^ 64
IsSmall z (Look word) x = IsSmallLook z word x
IsSmall z step x = Unit {0}

-- and the time behind the members of a batch, by the view of the seat that commits it
abbrev pub IsSmallFor : View → Step → Type 0
IsSmallFor v (Commit members) = or_zero v.hold_clock + length members < 2 ^ 64
IsSmallFor v step = Unit {0}
