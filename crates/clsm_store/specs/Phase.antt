-- What the merger's commands make of its token, and what they answer.
use Rattle.std.specs.Prelude.{◌≡◌, ℕ, ◌+◌, ⊤, List, Result, Ok, Err}
use Rattle.clsm_model.specs.declared.slot.Slot.{Slot}
use Rattle.clsm_store_calls.specs.Agreeing.{AgreesWith}
use Rattle.clsm_store_calls.specs.Seats.{MergerState, SeatState}
use Rattle.clsm_store.specs.declared.phase.Phase.{Phase}
use Rattle.clsm_store.specs.declared.phase.Phase.TheVariants.{Clean, Frozen, Retired}
use Rattle.clsm_store.specs.declared.phase.FreezeError.{FreezeError}
use Rattle.clsm_store.specs.declared.phase.FreezeError.TheVariants.{NotClean, Worn}
use Rattle.clsm_store.specs.declared.phase.MergeError.{MergeError}
use Rattle.clsm_store.specs.declared.phase.MergeError.TheVariants.{NotFrozen as MergeNotFrozen, RunFull}
use Rattle.clsm_store.specs.declared.phase.NotFrozen.{NotFrozen}
use Rattle.clsm_store.specs.declared.phase.ReclaimError.{ReclaimError}
use Rattle.clsm_store.specs.declared.phase.ReclaimError.TheVariants.{NotRetired, Pinned}
use Rattle.clsm_store.specs.Promises.{CountsEntries, FreezesEpoch, MergesEpoch, ReclaimsRetired}

-- the merger, in whichever phase it is
abbrev pub merger_in : Phase → MergerState
merger_in (Clean clean) = clean.merger
merger_in (Frozen frozen) = frozen.merger
merger_in (Retired retired) = retired.merger

-- where the merger is clean, the epoch is frozen, and its number is answered, or the freeze is
-- refused; else nothing is done
abbrev pub Freezes : Phase → Phase → Result ℕ FreezeError → Type 0
Freezes (Clean old) (Frozen new) (Ok epoch) = FreezesEpoch old (Ok new) × (epoch ≡ old.merger.merges)
Freezes (Clean old) (Clean new) (Err (Worn worn)) = FreezesEpoch old (Err (new, worn))
Freezes (Clean _) _ _ = ⊥
Freezes old new answer = (new ≡ old) × (answer ≡ Err NotClean)

-- where an epoch is frozen, it agrees with what the seat knows; else the call is refused
abbrev pub AgreesIfFrozen : Phase → List Slot → Result ⊤ NotFrozen → Type 0
AgreesIfFrozen (Frozen frozen) known (Ok _) = AgreesWith known frozen
AgreesIfFrozen (Frozen frozen) known (Err _) = ⊥
AgreesIfFrozen phase known (Ok _) = ⊥
AgreesIfFrozen phase known (Err _) = Unit {0}

-- meet, in any phase; it takes the seat from `before` to `after`
pub record MeetsMerger (old new : Phase) (before after : SeatState) (result : Result ⊤ NotFrozen) : Type 0 where
  -- the token stays as it was
  pub phase : new ≡ old
  -- and so does the seat
  pub seat : after ≡ before
  -- a frozen epoch agrees with what the seat knows; where none is, the call is refused
  pub meets : AgreesIfFrozen old before.past result

-- entries, in any phase: refused where no epoch is frozen
abbrev pub CountsIfFrozen : Phase → Phase → ℕ → Result ℕ NotFrozen → Type 0
CountsIfFrozen (Frozen old) (Frozen new) turn (Ok entries) = CountsEntries old new turn entries
CountsIfFrozen (Frozen old) _ turn _ = ⊥
CountsIfFrozen old new turn (Ok entries) = ⊥
CountsIfFrozen old new turn (Err _) = new ≡ old

-- where an epoch is frozen, it is merged, and the number of merges is answered, or the merge is
-- refused; else nothing is done
abbrev pub Merges : Phase → Phase → Result ℕ MergeError → Type 0
Merges (Frozen old) (Retired new) (Ok merges) = MergesEpoch old (Ok new) × (merges ≡ old.merger.merges + 1)
Merges (Frozen old) (Frozen new) (Err (RunFull full)) = MergesEpoch old (Err (new, full))
Merges (Frozen _) _ _ = ⊥
Merges old new answer = (new ≡ old) × (answer ≡ Err MergeNotFrozen)

-- where a component is retired, it is given up, or that is refused; else nothing is done
abbrev pub Reclaims : Phase → Phase → Result ⊤ ReclaimError → Type 0
Reclaims (Retired old) (Clean new) (Ok _) = ReclaimsRetired old (Ok new)
Reclaims (Retired old) (Retired new) (Err (Pinned pinned)) = ReclaimsRetired old (Err (new, pinned))
Reclaims (Retired _) _ _ = ⊥
Reclaims old new answer = (new ≡ old) × (answer ≡ Err NotRetired)
