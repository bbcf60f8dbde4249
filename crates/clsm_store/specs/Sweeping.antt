-- A sweep: a freeze, a merge and a reclaim, as far as these go. What it comes to is said by what
-- these come to: where one is done the next goes on from it, and where one is refused the sweep
-- stops there, for the same reason.
use Rattle.std.specs.Prelude.{◌≡◌, ℕ, ◌+◌, ⊤, Result, Ok, Err}
use Rattle.clsm_store_calls.specs.Seats.{CleanState, FrozenState, RetiredState}
use Rattle.clsm_store.specs.declared.phase.Phase.{Phase}
use Rattle.clsm_store.specs.declared.phase.Phase.TheVariants.{Clean, Frozen, Retired}
use Rattle.clsm_store.specs.declared.phase.FreezeError.TheVariants.{Worn as FreezeWorn}
use Rattle.clsm_store.specs.declared.phase.MergeError.TheVariants.{RunFull as MergeFull}
use Rattle.clsm_store.specs.declared.phase.ReclaimError.TheVariants.{Pinned as ReclaimPinned}
use Rattle.clsm_store.specs.declared.sweeping.Stopped.{Stopped}
use Rattle.clsm_store.specs.declared.sweeping.Stopped.TheVariants.{Worn, RunFull, Pinned}
use Rattle.clsm_store.specs.declared.sweeping.Swept.{Swept}
use Rattle.clsm_store.specs.declared.sweeping.Swept.TheVariants.{Done, Waited}
use Rattle.clsm_store.specs.declared.sweeping.TrySwept.{TrySwept}
use Rattle.clsm_store.specs.declared.sweeping.TrySwept.TheVariants.{Busy, Done as TryDone, Waited as TryWaited}
use Rattle.clsm_store.specs.Freezing.{IsBusy, Waits, WhereUsed}
use Rattle.clsm_store.specs.Phase.{Freezes, Merges, Reclaims, merger_in}

-- from a retired component on: a reclaim
abbrev pub SweepsRetired : RetiredState → Phase → Result ⊤ Stopped → Type 0
SweepsRetired old new (Ok _) = Reclaims (Retired old) new (Ok tt)
SweepsRetired old new (Err (Pinned pinned)) = Reclaims (Retired old) new (Err (ReclaimPinned pinned))
SweepsRetired old new (Err _) = ⊥

-- from a frozen epoch on: a merge that is refused, or one merge and a sweep of what it retired
abbrev pub SweepsFrozen : FrozenState → Phase → Result ⊤ Stopped → Type 0
SweepsFrozen old new (Err (RunFull full)) = Merges (Frozen old) new (Err (MergeFull full))
SweepsFrozen old new answer =
    (retired : RetiredState)
    × Merges (Frozen old) (Retired retired) (Ok (old.merger.merges + 1))
    × SweepsRetired retired new answer

-- from where nothing is frozen: a freeze that is refused, or one freeze and a sweep of the epoch
abbrev pub SweepsClean : CleanState → Phase → Result ⊤ Stopped → Type 0
SweepsClean old new (Err (Worn worn)) = Freezes (Clean old) new (Err (FreezeWorn worn))
SweepsClean old new answer =
    (frozen : FrozenState)
    × Freezes (Clean old) (Frozen frozen) (Ok old.merger.merges)
    × SweepsFrozen frozen new answer

-- what a sweep comes to, from the phase in which the merger is
abbrev pub Sweeps : Phase → Phase → Result ⊤ Stopped → Type 0
Sweeps (Clean old) new answer = SweepsClean old new answer
Sweeps (Frozen old) new answer = SweepsFrozen old new answer
Sweeps (Retired old) new answer = SweepsRetired old new answer

-- the same behind the freeze: where nothing is frozen it is at its end
abbrev pub Finishes : Phase → Phase → Result ⊤ Stopped → Type 0
Finishes (Clean old) new answer = (new ≡ Clean old) × (answer ≡ Ok tt)
Finishes old new answer = Sweeps old new answer

-- ---- a sweep that freezes an epoch only once enough of it is used

-- enough were drawn at the look at the clock, and it swept
abbrev pub SweepsUsed : ℕ → CleanState → Phase → Result ⊤ Stopped → Type 0
SweepsUsed used old new answer = WhereUsed used old (λ looked. SweepsClean looked new answer)

-- from where nothing is frozen: it waits, or it sweeps
abbrev pub SweepsCleanIf : ℕ → CleanState → Phase → Result Swept Stopped → Type 0
SweepsCleanIf used old new (Ok Waited) = Waits used old new
SweepsCleanIf used old new (Ok Done) = SweepsUsed used old new (Ok tt)
SweepsCleanIf used old new (Err stopped) = SweepsUsed used old new (Err stopped)

-- what such a sweep comes to: in the other phases it never waits
abbrev pub SweepsIf : ℕ → Phase → Phase → Result Swept Stopped → Type 0
SweepsIf used (Clean old) new answer = SweepsCleanIf used old new answer
SweepsIf used old new (Ok Waited) = ⊥
SweepsIf used old new (Ok Done) = Sweeps old new (Ok tt)
SweepsIf used old new (Err stopped) = Sweeps old new (Err stopped)

-- ---- the same sweep, which tries the lock once

-- a sweep whose freeze never found the lock held
abbrev pub SweepsAtOnce : CleanState → Phase → Result ⊤ Stopped → Type 0
SweepsAtOnce old new answer = SweepsClean old new answer × ((merger_in new).busy ≡ old.merger.busy)

-- enough were drawn at the look at the clock, and it swept, with one try for the lock
abbrev pub TrySweepsUsed : ℕ → CleanState → Phase → Result ⊤ Stopped → Type 0
TrySweepsUsed used old new answer = WhereUsed used old (λ looked. SweepsAtOnce looked new answer)

-- from where nothing is frozen: it waits, or finds the lock held, or sweeps
abbrev pub TrySweepsClean : ℕ → CleanState → Phase → Result TrySwept Stopped → Type 0
TrySweepsClean used old new (Ok TryWaited) = Waits used old new
TrySweepsClean used old new (Ok Busy) = IsBusy used old new
TrySweepsClean used old new (Ok TryDone) = TrySweepsUsed used old new (Ok tt)
TrySweepsClean used old new (Err stopped) = TrySweepsUsed used old new (Err stopped)

-- what such a sweep comes to: in the other phases it takes no lock
abbrev pub TrySweeps : ℕ → Phase → Phase → Result TrySwept Stopped → Type 0
TrySweeps used (Clean old) new answer = TrySweepsClean used old new answer
TrySweeps used old new (Ok TryDone) = Sweeps old new (Ok tt)
TrySweeps used old new (Ok _) = ⊥
TrySweeps used old new (Err stopped) = Sweeps old new (Err stopped)
