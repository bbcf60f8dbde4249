-- The last one of the writes of records that are looked for.
use Rattle.std.specs.Prelude.{◌≡◌, ℕ, ◌<◌, ◌≤◌, List, Option, None, Some, IfSome, IsSomeAnd, slice_get}
use Rattle.clsm_model.specs.declared.slot.Slot.{Slot}
use Rattle.clsm_model.specs.declared.slot.Slot.TheVariants.{Nothing, Wrote}
use Rattle.clsm_model.specs.declared.record.CallRecord.{CallRecord}
use Rattle.clsm_audit.specs.declared.wanted.FoundWrite.{FoundWrite}
use Rattle.clsm_audit.specs.declared.wanted.Wanted.{Wanted}
use Rattle.clsm_audit.specs.declared.wanted.Wanted.TheVariants.{OfKey, Leaves}
use Rattle.clsm_audit.specs.Written.{write_of}

-- the slot is a write that is looked for
abbrev pub Fits : Wanted → Slot → Type 0
Fits (OfKey key) Nothing = ⊥
Fits (OfKey key) (Wrote seat k written) = k ≡ key
Fits (Leaves key value) Nothing = ⊥
Fits (Leaves key value) (Wrote seat k written) = (k ≡ key) × (written ≡ value)

-- the record makes such a write at the time
abbrev pub MakesAt : Wanted → ℕ → CallRecord → Type 0
MakesAt wanted t r = IsSomeAnd (write_of r t) (Fits wanted)

-- it makes this one, or none
abbrev pub IsMadeAt : Wanted → ℕ → CallRecord → Option Slot → Type 0
IsMadeAt wanted t r None = ¬ MakesAt wanted t r
IsMadeAt wanted t r (Some slot) = (write_of r t ≡ Some slot) × Fits wanted slot

-- the record makes the write that was found, and it is one that is looked for
pub record IsMade (wanted : Wanted) (found : FoundWrite) (r : CallRecord) : Type 0 where
  pub is : write_of r found.time ≡ Some found.slot
  pub fits : Fits wanted found.slot

-- ---- in one record

-- the record makes none at times from the first on and below the second
abbrev pub HasNoneIn : Wanted → CallRecord → ℕ → ℕ → Type 0
HasNoneIn wanted r from below = (t : ℕ) → from ≤ t → t < below → ¬ MakesAt wanted t r

-- the last one that it makes there
pub record IsLastIn (wanted : Wanted) (index : ℕ) (r : CallRecord) (from below : ℕ) (found : FoundWrite) : Type 0 where
  pub index_is : found.index ≡ index
  pub not_before : from ≤ found.time
  pub before : found.time < below
  pub made : IsMade wanted found r
  pub last : (t : ℕ) → found.time < t → t < below → ¬ MakesAt wanted t r

-- ---- in all records

-- a record makes the write, below the time, and none makes one after it
pub record IsLast (records : List CallRecord) (wanted : Wanted) (below : ℕ) (found : FoundWrite) : Type 0 where
  pub before : found.time < below
  pub made : IsSomeAnd (slice_get records found.index) (IsMade wanted found)
  pub last : (i t : ℕ) → found.time < t → t < below → IfSome (slice_get records i) (λ r. ¬ MakesAt wanted t r)

-- the last one below the time, or that there is none
abbrev pub IsLastWrite : List CallRecord → Wanted → ℕ → Option FoundWrite → Type 0
IsLastWrite records wanted below None =
    (i t : ℕ) → t < below → IfSome (slice_get records i) (λ r. ¬ MakesAt wanted t r)
IsLastWrite records wanted below (Some found) = IsLast records wanted below found
