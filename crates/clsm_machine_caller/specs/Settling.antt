-- What a seat's step makes of the times, told before the step is noted.
use Rattle.std.specs.List.{list_all}
use Rattle.std.specs.Prelude.{ℕ, ◌-◌, ◌||◌, Bool, nat_le, List, [], ◌∷◌, ◌++◌, slice_set, Option, Some, None}
use Rattle.clsm_model.specs.declared.batch.Batch.{Batch}
use Rattle.clsm_model.specs.declared.slot.Slot.{Slot}
use Rattle.clsm_machine_caller.specs.declared.settling.Settling.{Settling}
use Rattle.clsm_machine_caller.specs.declared.settling.Settling.TheVariants.{Stays, Drawn, Decided, Undecided}

-- the slots after it: as before, with one more that is undecided, or with this time decided or
-- undecided
abbrev pub settled_by : List (Option Slot) → Settling → List (Option Slot)
settled_by slots Stays = slots
settled_by slots Drawn = slots ++ None ∷ []
settled_by slots (Decided time slot) = slice_set slots time (Some slot)
settled_by slots (Undecided time) = slice_set slots time None

-- the batches after it: one more, if it commits one
abbrev pub listed_by : List Batch → Option Batch → List Batch
listed_by batches None = batches
listed_by batches (Some b) = batches ++ b ∷ []

-- the one that is there, as a list
abbrev pub listed : {A : Type 0} → Option A → List A
listed None = []
listed (Some a) = a ∷ []

-- the test that a time is not strictly inside a batch, and inside none of a list
abbrev pub is_outside : ℕ → Batch → Bool
is_outside s b = nat_le s b.first || nat_le b.size (s - b.first)

abbrev pub are_outside : List Batch → ℕ → Bool
are_outside batches s = list_all (is_outside s) batches
