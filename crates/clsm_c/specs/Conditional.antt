-- What comes of C's batches with conditions: the codes, and the layouts of what C passes.
use Rattle.std.specs.Prelude.{◌≡◌, ℕ, ◌⊎◌, ⊤, [], ◌∷◌, List, Option, Result, Ok, Err}
use Rattle.clsm_model.specs.Right.{Member}
use Rattle.clsm_store.specs.Promises.{TriesToWriteBatchIf}
use Rattle.clsm_store_calls.specs.Seats.{SeatState}
use Rattle.clsm_store_calls.specs.declared.conditions.Condition.{Condition}
use Rattle.clsm_store_calls.specs.declared.conditions.Condition.TheVariants.{Counts, Has}
use Rattle.clsm_store_calls.specs.declared.refusal.BatchIfError.TheVariants.{Full, Unmet}
use Rattle.clsm_store_calls.specs.declared.refusal.TryBatchIfError.{TryBatchIfError}
use Rattle.clsm_store_calls.specs.declared.refusal.TryBatchIfError.TheVariants.{Busy, Refused}
use Rattle.clsm_c.specs.declared.calls.NoMembers.{NoMembers}
use Rattle.clsm_c.specs.declared.calls.NoMembers.TheVariants.{Memory, TooLong}
use Rattle.clsm_c.specs.declared.codes.TheConstants.{BAD_BATCH, BAD_VALUE, BUSY, FULL, KEPT, MEMORY, OK}
use Rattle.clsm_c.specs.declared.types.CoreRangeCount.{CoreRangeCount}
use Rattle.clsm_c.specs.declared.types.CoreRow.{CoreRow}
use Rattle.clsm_c.specs.declared.types.CoreUnmet.{CoreUnmet}
use Rattle.clsm_c.specs.Calls.{AreMembers, HasLong, Told}
use Rattle.clsm_c.specs.Values.{IsValue}

-- the condition is that the row's key has its value, or, with no value, none
abbrev pub IsExpected : CoreRow → Condition → Type 0
IsExpected row (Has key expected) = (row.key ≡ key) × IsValue row.value expected
IsExpected row (Counts lo hi keys) = ⊥

-- the condition is that so many keys of the range have a value
abbrev pub IsCounted : CoreRangeCount → Condition → Type 0
IsCounted count (Has key expected) = ⊥
IsCounted count (Counts lo hi keys) = (count.first ≡ lo) × (count.last ≡ hi) × (count.keys ≡ keys)

-- each row is the condition at its place, and behind these each count is
abbrev pub AreConditions : List CoreRow → List CoreRangeCount → List Condition → Type 0
AreConditions (row ∷ rows) counts (condition ∷ conditions) = IsExpected row condition × AreConditions rows counts conditions
AreConditions [] (count ∷ counts) (condition ∷ conditions) = IsCounted count condition × AreConditions [] counts conditions
AreConditions [] [] [] = ⊤
AreConditions _ _ _ = ⊥

-- the code of rows that are no batch
abbrev pub no_members_code : NoMembers → ℕ
no_members_code TooLong = BAD_VALUE
no_members_code Memory = MEMORY

-- a try of a batch with conditions, with its time; or the clock's, where a condition is unmet, with
-- the place of the first of these, or where too few timestamps were left
abbrev pub TellsBatchIf : CoreUnmet → ℕ → Result ℕ TryBatchIfError → Type 0
TellsBatchIf answer code (Ok time) = (code ≡ OK) × (answer.time ≡ time)
TellsBatchIf answer code (Err Busy) = code ≡ BUSY
TellsBatchIf answer code (Err (Refused (Unmet index time))) = (code ≡ KEPT) × (answer.time ≡ time) × (answer.index ≡ index)
TellsBatchIf answer code (Err (Refused (Full time))) = (code ≡ FULL) × (answer.time ≡ time)
TellsBatchIf answer code (Err (Refused _)) = code ≡ BAD_BATCH

-- try_batch_if of the rows, under the conditions that C expects; or one of the values is too long,
-- or memory ran out, and nothing was done
abbrev pub BatchesRowsIf : List CoreRow → List CoreRangeCount → List CoreRow → CoreUnmet → ℕ → SeatState → SeatState → Type 0
BatchesRowsIf expected counts rows answer code old new =
    ((conditions : List Condition) × (members : List Member) × AreConditions expected counts conditions × AreMembers rows members
    × Told (TriesToWriteBatchIf old new conditions members) (TellsBatchIf answer code))
    ⊎ ((new ≡ old) × (((code ≡ BAD_VALUE) × (HasLong expected ⊎ HasLong rows)) ⊎ (code ≡ MEMORY)))
