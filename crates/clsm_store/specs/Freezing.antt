-- A freeze alone, which freezes an epoch only once enough of it is used, and tries the lock once.
use Rattle.std.specs.Prelude.{◌≡◌, Bool, ℕ, ◌<◌, ◌≤◌, min, Result, Ok, Err, false, true}
use Rattle.clsm_store_calls.specs.Looking.{IsKeptOut, PollsClock, drawn_of}
use Rattle.clsm_store_calls.specs.Seats.{CleanState}
use Rattle.clsm_store_calls.specs.declared.refusal.Worn.{Worn}
use Rattle.clsm_store.specs.declared.freezing.TryFroze.{TryFroze}
use Rattle.clsm_store.specs.declared.freezing.TryFroze.TheVariants.{Busy, Done, Waited}
use Rattle.clsm_store.specs.declared.phase.FreezeError.TheVariants.{Worn as FreezeWorn}
use Rattle.clsm_store.specs.declared.phase.Phase.{Phase}
use Rattle.clsm_store.specs.declared.phase.Phase.TheVariants.{Clean, Frozen}
use Rattle.clsm_store.specs.Phase.{Freezes}
use Rattle.clsm_store.specs.Promises.{TriesToFreezeEpoch}

-- ---- one look at the clock

-- so many times of the epoch are enough: as many as are asked for, or all that it has
abbrev pub enough : ℕ → CleanState → ℕ
enough used s = min used s.merger.store.layout.cells

-- fewer were drawn at the look at the clock, and but for that look the merger is as it was
abbrev pub Waits : ℕ → CleanState → Phase → Type 0
Waits used old (Clean new) = PollsClock old new × (drawn_of new.merger < enough used new)
Waits used old _ = ⊥

-- whether the merger goes on: enough were drawn at the look at the clock, or nothing is to be frozen
abbrev pub IsUsed : ℕ → Phase → Phase → Bool → Type 0
IsUsed used (Clean old) new false = Waits used old new
IsUsed used (Clean old) (Clean new) true = PollsClock old new × (enough used new ≤ drawn_of new.merger)
IsUsed used (Clean old) _ true = ⊥
IsUsed used old new answer = (new ≡ old) × (answer ≡ true)

-- enough were drawn at the look at the clock, and from there on this was done. What the look found
-- stays in the merger's state, so the state at the end names it
abbrev pub WhereUsed : ℕ → CleanState → (CleanState → Type 0) → Type 0
WhereUsed used old Does = (looked : CleanState) × PollsClock old looked × (enough used looked ≤ drawn_of looked.merger) × Does looked

-- ---- one try for the lock

-- a caller held the lock: the try is counted, and nothing else was done
abbrev pub StaysOut : CleanState → Phase → Type 0
StaysOut old (Clean new) = IsKeptOut old new
StaysOut old _ = ⊥

-- enough were drawn at the look at the clock, and then a caller held the lock
abbrev pub IsBusy : ℕ → CleanState → Phase → Type 0
IsBusy used old new = WhereUsed used old (λ looked. StaysOut looked new)

-- the lock was free, and the epoch is frozen
abbrev pub IsLetIn : CleanState → Phase → Type 0
IsLetIn old (Frozen new) = TriesToFreezeEpoch old (Ok new)
IsLetIn old _ = ⊥

-- from where nothing is frozen: it waits, or finds the lock held, or freezes, or the next limit
-- would pass 2^62
abbrev pub TryFreezesClean : ℕ → CleanState → Phase → Result TryFroze Worn → Type 0
TryFreezesClean used old new (Ok Waited) = Waits used old new
TryFreezesClean used old new (Ok Busy) = IsBusy used old new
TryFreezesClean used old new (Ok Done) = WhereUsed used old (λ looked. IsLetIn looked new)
TryFreezesClean used old new (Err worn) = WhereUsed used old (λ looked. Freezes (Clean looked) new (Err (FreezeWorn worn)))

-- what such a freeze comes to: in the other phases it is done already
abbrev pub TryFreezes : ℕ → Phase → Phase → Result TryFroze Worn → Type 0
TryFreezes used (Clean old) new answer = TryFreezesClean used old new answer
TryFreezes used old new (Ok Done) = new ≡ old
TryFreezes used old new _ = ⊥
