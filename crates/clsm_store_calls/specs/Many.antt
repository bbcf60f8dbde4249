-- Reads of many keys, all at one time.
use Rattle.std.specs.Prelude.{ℕ, List, Option, MatchOption, IsSomeAnd, slice_get}
use Rattle.std.specs.List.{AllZip}
use Rattle.clsm_model.specs.declared.record.Deed.TheVariants.{Get, GetAt}
use Rattle.clsm_model.specs.History.{History, plain, value}
use Rattle.clsm_words.specs.declared.known.Known.{Known}
use Rattle.clsm_store_calls.specs.Meeting.{MeetsAt}
use Rattle.clsm_store_calls.specs.Reading.{ReadsAt}
use Rattle.clsm_store_calls.specs.Snapshots.{ReadsUnder}

-- there are as many places as keys, and each tells the value of its key below the time, or that
-- there is none
abbrev pub HoldValues : {V : Type 0} → (V → Option (List ℕ) → Type 0) → History → ℕ → List ℕ → List V → Type 0
HoldValues Tells h t keys places = AllZip (λ key place. Tells place (value h key t)) keys places

-- the read of the keys is recorded as a get of the first one; where there is none, it is no more
-- than a meeting
abbrev pub ReadsFirst : Known → Known → ℕ → List ℕ → Type 0
ReadsFirst old new t keys =
    MatchOption (slice_get keys 0) (MeetsAt old new t) (λ key. ReadsAt old new t (Get key (value (plain new.past) key t)))

-- there is a first key, and the read is recorded as a read of it under the open snapshot
abbrev pub ReadsFirstUnder : Known → Known → ℕ → List ℕ → Type 0
ReadsFirstUnder old new t keys = IsSomeAnd (slice_get keys 0) (λ key. ReadsUnder old new t (GetAt key (value (plain new.past) key t)))
