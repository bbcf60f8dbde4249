-- A sweep goes on from a part of it that was done.
use Rattle.std.proofs.Common.{◌≡◌, ◌∙◌, ap, refl, sym, subst, ℕ, Ok, Err, Result, true}
use Rattle.std.specs.Prelude.{⊤}
use Rattle.clsm_law.specs.Views.{next_word}
use Rattle.clsm_store_calls.specs.Seats.{CleanState, FrozenState, MergerState, RetiredState}
use Rattle.clsm_store_calls.specs.declared.refusal.Worn.{Worn as WornToo}
use Rattle.clsm_store.specs.declared.freezing.TryFroze.{TryFroze}
use Rattle.clsm_store.specs.declared.freezing.TryFroze.TheVariants.{Busy as FreezeBusy, Done as FreezeDone}
use Rattle.clsm_store.specs.declared.phase.MergeError.TheVariants.{NotFrozen}
use Rattle.clsm_store.specs.declared.phase.Phase.{Phase}
use Rattle.clsm_store.specs.declared.phase.Phase.TheVariants.{Clean, Frozen, Retired}
use Rattle.clsm_store.specs.declared.phase.ReclaimError.{ReclaimError}
use Rattle.clsm_store.specs.declared.phase.ReclaimError.TheVariants.{Pinned as ReclaimPinned}
use Rattle.clsm_store.specs.declared.phase.TryFreezeError.{TryFreezeError}
use Rattle.clsm_store.specs.declared.phase.TryFreezeError.TheVariants.{Busy as Taken, Worn as TryWorn}
use Rattle.clsm_store.specs.declared.sweeping.Stopped.{Stopped}
use Rattle.clsm_store.specs.declared.sweeping.Stopped.TheVariants.{Worn, RunFull, Pinned}
use Rattle.clsm_store.specs.declared.sweeping.Swept.{Swept}
use Rattle.clsm_store.specs.declared.sweeping.Swept.TheVariants.{Done}
use Rattle.clsm_store.specs.declared.sweeping.TrySwept.{TrySwept}
use Rattle.clsm_store.specs.declared.sweeping.TrySwept.TheVariants.{Done as TryDone}
use Rattle.clsm_store.specs.Freezing.{IsUsed, TryFreezes}
use Rattle.clsm_store.specs.Phase.{Freezes, Merges, Reclaims, merger_in}
use Rattle.clsm_store.specs.Promises.{FreezesEpoch, MergesEpoch, RefusesFreeze, TriesToFreezeEpoch}
use Rattle.clsm_store.specs.Sweeping.{Finishes, Sweeps, SweepsClean, SweepsAtOnce, SweepsFrozen, SweepsIf, SweepsRetired, TrySweeps}

-- ---- behind the freeze

-- what a reclaim comes to, as the end of a sweep
abbrev pub stopped_by : Result ⊤ ReclaimError → Result ⊤ Stopped
stopped_by (Err (ReclaimPinned pinned)) = Err (Pinned pinned)
stopped_by reclaimed = Ok tt

reclaimed_on : (retired : RetiredState) (new : Phase) (reclaimed : Result ⊤ ReclaimError)
    → Reclaims (Retired retired) new reclaimed → SweepsRetired retired new (stopped_by reclaimed)
reclaimed_on retired (Clean new) (Ok done) reclaims = reclaims
reclaimed_on retired (Retired new) (Err (ReclaimPinned pinned)) reclaims = reclaims
reclaimed_on retired new reclaimed none = absurd none

merged_on : (old : FrozenState) (retired : RetiredState) (new : Phase) (answer : Result ⊤ Stopped)
    → MergesEpoch old (Ok retired) → SweepsRetired retired new answer → SweepsFrozen old new answer
merged_on old retired new (Ok done) merges swept = (retired, (merges, refl), swept)
merged_on old retired new (Err (Pinned pinned)) merges swept = (retired, (merges, refl), swept)
merged_on old retired new answer merges none = absurd none

-- a merge, and a reclaim behind it
pub merged_behind : (old mid new : Phase) (count : ℕ) (reclaimed : Result ⊤ ReclaimError) → Merges old mid (Ok count) → Reclaims mid new reclaimed
    → Finishes old new (stopped_by reclaimed)
merged_behind (Frozen old) (Retired mid) new count reclaimed merges reclaims =
    merged_on old mid new (stopped_by reclaimed) merges.0 (reclaimed_on mid new reclaimed reclaims)
merged_behind (Frozen old) mid new count reclaimed none reclaims = absurd none
merged_behind old mid new count reclaimed (stays, is) reclaims = absurd (cc is)

-- nothing to merge, and a reclaim behind it
pub unmerged_behind : (old mid new : Phase) (reclaimed : Result ⊤ ReclaimError) → Merges old mid (Err NotFrozen) → Reclaims mid new reclaimed
    → Finishes old new (stopped_by reclaimed)
unmerged_behind (Clean old) mid new reclaimed (stays, _) reclaims =
    let none = subst (λ (p : Phase). Reclaims p new reclaimed) stays reclaims in
    (none.0, ap stopped_by none.1)
unmerged_behind (Frozen old) (Clean mid) new reclaimed none reclaims = absurd none
unmerged_behind (Frozen old) mid new reclaimed none reclaims = absurd none
unmerged_behind (Retired old) mid new reclaimed (stays, _) reclaims =
    reclaimed_on old new reclaimed (subst (λ (p : Phase). Reclaims p new reclaimed) stays reclaims)

-- ---- behind a freeze

-- an epoch is frozen
frozen_on : (old : CleanState) (frozen : FrozenState) (new : Phase) (answer : Result ⊤ Stopped)
    → FreezesEpoch old (Ok frozen) → SweepsFrozen frozen new answer → SweepsClean old new answer
frozen_on old frozen new (Err (Worn worn)) freezes swept = absurd swept.2
frozen_on old frozen new answer freezes swept = (frozen, (freezes, refl), swept)

-- a freeze, and what comes behind it
pub froze_behind : (old mid new : Phase) (epoch : ℕ) (answer : Result ⊤ Stopped) → Freezes old mid (Ok epoch) → Finishes mid new answer
    → Sweeps old new answer
froze_behind (Clean old) (Frozen mid) new epoch answer freezes finishes = frozen_on old mid new answer freezes.0 finishes
froze_behind (Clean old) mid new epoch answer none finishes = absurd none
froze_behind old mid new epoch answer (stays, is) finishes = absurd (cc is)

-- ---- a sweep that freezes an epoch only once enough of it is used

-- the answer where it did not wait
abbrev pub done_of : Result ⊤ Stopped → Result Swept Stopped
done_of (Ok _) = Ok Done
done_of (Err stopped) = Err stopped

-- enough was used
pub swept_if : (used : ℕ) (old mid new : Phase) (answer : Result ⊤ Stopped) → IsUsed used old mid true → Sweeps mid new answer
    → SweepsIf used old new (done_of answer)
swept_if used (Clean old) (Clean mid) new (Ok done) (looks, many) swept = (mid, looks, many, swept)
swept_if used (Clean old) (Clean mid) new (Err stopped) (looks, many) swept = (mid, looks, many, swept)
swept_if used (Clean old) mid new answer none swept = absurd none
swept_if used old mid new (Ok done) (stays, _) swept = subst (λ (p : Phase). Sweeps p new (Ok tt)) stays swept
swept_if used old mid new (Err stopped) (stays, _) swept = subst (λ (p : Phase). Sweeps p new (Err stopped)) stays swept

-- ---- the same sweep, which tries the lock once

-- the lock was free, and the epoch is frozen
pub froze_if : (used : ℕ) (old : Phase) (looked : CleanState) (frozen : FrozenState) → IsUsed used old (Clean looked) true
    → TriesToFreezeEpoch looked (Ok frozen) → TryFreezes used old (Frozen frozen) (Ok FreezeDone)
froze_if used (Clean old) looked frozen (looks, many) tried = (looked, looks, many, tried)
froze_if used old looked frozen (stays, _) tried = absurd (cc stays)

-- the answer where none was frozen
abbrev pub refused_by : TryFreezeError → Result TryFroze WornToo
refused_by Taken = Ok FreezeBusy
refused_by (TryWorn worn) = Err worn

-- it was not, or no epoch can be frozen any more
pub refused_if : (used : ℕ) (old : Phase) (looked new : CleanState) (error : TryFreezeError) → IsUsed used old (Clean looked) true
    → RefusesFreeze looked new error → TryFreezes used old (Clean new) (refused_by error)
refused_if used (Clean old) looked new Taken (looks, many) refused = (looked, looks, many, refused)
refused_if used (Clean old) looked new (TryWorn worn) (looks, many) refused =
    (looked, looks, many, record { frozen = tt; floor = tt; noted = tt; worn = refused })
refused_if used old looked new error (stays, _) refused = absurd (cc stays)

-- nothing was to be frozen
pub kept_if : (used : ℕ) (old new : Phase) → IsUsed used old new true → ((clean : CleanState) → new ≡ Clean clean → ⊥)
    → TryFreezes used old new (Ok FreezeDone)
kept_if used (Clean old) (Clean new) _ other = absurd (other new refl)
kept_if used (Clean old) new none other = absurd none
kept_if used old new (stays, _) other = stays

-- the answer where it did not wait and the lock was free
abbrev pub tried_of : Result ⊤ Stopped → Result TrySwept Stopped
tried_of (Ok _) = Ok TryDone
tried_of (Err stopped) = Err stopped

-- a freeze at the first try is one as by a freeze that waits
freezes_of : (old : CleanState) (frozen : FrozenState) → TriesToFreezeEpoch old (Ok frozen) → FreezesEpoch old (Ok frozen)
freezes_of old frozen tried = record {
  frozen = tried.frozen
      ∙ ap (λ (busy : ℕ). record old.merger { holds = next_word old.merger.holds; busy = busy }) (sym (ap (λ (m : MergerState). m.busy) tried.frozen));
  floor = tried.floor;
  noted = tried.noted;
  worn = tt;
}

-- behind a freeze no lock is tried
reclaimed_same : (old : RetiredState) (new : Phase) (answer : Result ⊤ Stopped) → SweepsRetired old new answer → (merger_in new).busy ≡ old.merger.busy
reclaimed_same old (Clean new) (Ok done) reclaims = ap (λ (s : CleanState). s.merger.busy) reclaims.clean
reclaimed_same old (Frozen new) (Ok done) none = absurd none
reclaimed_same old (Retired new) (Ok done) none = absurd none
reclaimed_same old (Retired new) (Err (Pinned pinned)) reclaims = ap (λ (s : RetiredState). s.merger.busy) reclaims.retired
reclaimed_same old (Clean new) (Err (Pinned pinned)) none = absurd none
reclaimed_same old (Frozen new) (Err (Pinned pinned)) none = absurd none
reclaimed_same old new (Err (RunFull full)) none = absurd none
reclaimed_same old new (Err (Worn worn)) none = absurd none

frozen_same : (old : FrozenState) (new : Phase) (answer : Result ⊤ Stopped) → SweepsFrozen old new answer → (merger_in new).busy ≡ old.merger.busy
frozen_same old (Frozen new) (Err (RunFull full)) merges = ap (λ (s : FrozenState). s.merger.busy) merges.frozen
frozen_same old (Clean new) (Err (RunFull full)) none = absurd none
frozen_same old (Retired new) (Err (RunFull full)) none = absurd none
frozen_same old new (Ok done) (retired, merges, swept) =
    reclaimed_same retired new (Ok done) swept ∙ ap (λ (m : MergerState). m.busy) merges.0.retired
frozen_same old new (Err (Pinned pinned)) (retired, merges, swept) =
    reclaimed_same retired new (Err (Pinned pinned)) swept ∙ ap (λ (m : MergerState). m.busy) merges.0.retired
frozen_same old new (Err (Worn worn)) (retired, merges, none) = absurd none

-- so the whole sweep tried it once
at_once : (old : CleanState) (frozen : FrozenState) (new : Phase) (answer : Result ⊤ Stopped) → TriesToFreezeEpoch old (Ok frozen)
    → SweepsFrozen frozen new answer → SweepsAtOnce old new answer
at_once old frozen new answer tried swept = (
  frozen_on old frozen new answer (freezes_of old frozen tried) swept,
  frozen_same frozen new answer swept ∙ ap (λ (m : MergerState). m.busy) tried.frozen,
)

-- no epoch can be frozen any more
pub worn_by_try : (used : ℕ) (old new : Phase) (worn : WornToo) → TryFreezes used old new (Err worn) → TrySweeps used old new (Err (Worn worn))
worn_by_try used (Clean old) (Clean new) worn (looked, looks, many, freezes) =
    (looked, looks, many, (freezes, ap (λ (s : CleanState). s.merger.busy) freezes.worn.0))
worn_by_try used (Clean old) new worn (looked, looks, many, none) = absurd none
worn_by_try used old new worn none = absurd none

-- the lock was free
pub swept_by_try : (used : ℕ) (old mid new : Phase) (answer : Result ⊤ Stopped) → TryFreezes used old mid (Ok FreezeDone) → Finishes mid new answer
    → TrySweeps used old new (tried_of answer)
swept_by_try used (Clean old) (Frozen mid) new (Ok done) (looked, looks, many, freezes) finishes =
    (looked, looks, many, at_once looked mid new (Ok done) freezes finishes)
swept_by_try used (Clean old) (Frozen mid) new (Err stopped) (looked, looks, many, freezes) finishes =
    (looked, looks, many, at_once looked mid new (Err stopped) freezes finishes)
swept_by_try used (Clean old) mid new answer (looked, looks, many, none) finishes = absurd none
swept_by_try used old mid new (Ok done) stays finishes = subst (λ (p : Phase). Finishes p new (Ok tt)) stays finishes
swept_by_try used old mid new (Err stopped) stays finishes = subst (λ (p : Phase). Finishes p new (Err stopped)) stays finishes
