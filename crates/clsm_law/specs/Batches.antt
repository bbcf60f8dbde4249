-- The clauses of the law on batches: what a seat stages, where the batches stand, and what no read
-- is inside of.
use Rattle.std.specs.Prelude.{◌≡◌, ◌≢◌, ℕ, ◌+◌, ◌<◌, ◌≤◌, Bool, false, List, [], length, Option, Some, None}
use Rattle.std.specs.List.{AllByRecursion}
use Rattle.clsm_model.specs.declared.batch.Batch.{Batch}
use Rattle.clsm_model.specs.declared.slot.Slot.{Slot}
use Rattle.clsm_model.specs.declared.slot.Slot.TheVariants.{Nothing}
use Rattle.clsm_model.specs.declared.record.CallRecord.{CallRecord}
use Rattle.clsm_model.specs.History.{IsUncut}
use Rattle.clsm_model.specs.Right.{Member, member_write}
use Rattle.clsm_model.specs.Seats.{FitsRecord, IsListedRecord, IsUncutRecord}
use Rattle.clsm_law.specs.declared.view.Mode.{Mode}
use Rattle.clsm_law.specs.declared.view.Mode.TheVariants.{Exclusive}
use Rattle.clsm_law.specs.declared.view.SnapshotState.{SnapshotState}
use Rattle.clsm_law.specs.declared.view.SnapshotState.TheVariants.{Timed, Open}

-- what the seat i takes for its batch: only in an exclusive hold of the lock, in which the clock is
-- as it looked at it until it commits; the times from the clock on are those of the members that it
-- decided, and the next is that of the one that it writes
pub record IsStaging (clock i : ℕ) (slot : ℕ → Option Slot) (mode : Mode) (drawn : Option ℕ) (staged : List Member) (committed : Bool)
    (noted : Option ℕ) : Type 0 where
  pub shut : mode ≢ Exclusive → staged ≡ []
  pub own : mode ≡ Exclusive → (t : ℕ) → drawn ≡ Some t → (t ≡ clock + length staged) × (slot t ≡ None)
  pub same : mode ≡ Exclusive → committed ≡ false → (c : ℕ) → noted ≡ Some c → c ≡ clock
  pub members : (n : ℕ) → n < length staged → (member_write i staged n ≢ None) × (slot (clock + n) ≡ member_write i staged n)

-- and that is so of each seat
abbrev pub AreStaging : ℕ → (ℕ → Option Slot) → (ℕ → Mode) → (ℕ → Option ℕ) → (ℕ → List Member) → (ℕ → Bool) → (ℕ → Option ℕ) → Type 0
AreStaging clock slot mode drawn staged committed noted = (i : ℕ) → IsStaging clock i slot (mode i) (drawn i) (staged i) (committed i) (noted i)

-- each time of the batch is that of a write
abbrev pub IsWritten : (ℕ → Option Slot) → Batch → Type 0
IsWritten slot b = (t : ℕ) → b.first ≤ t → t < b.first + b.size → (slot t ≢ None) × (slot t ≢ Some Nothing)

-- the times that may be read: those that seats noted under their pins, of their snapshots, and the
-- ends of their pasts are inside no batch
abbrev pub AreUncutNotes : List Batch → (ℕ → Option ℕ) → Type 0
AreUncutNotes batches noted = (i s : ℕ) → noted i ≡ Some s → IsUncut batches s

abbrev pub AreUncutPasts : List Batch → (ℕ → ℕ) → Type 0
AreUncutPasts batches past = (i : ℕ) → IsUncut batches (past i)

-- the time of a snapshot, once it has one
abbrev pub snapshot_time : SnapshotState → Option ℕ
snapshot_time (Timed b s) = Some s
snapshot_time (Open b s) = Some s
snapshot_time _ = None

abbrev pub AreUncutSnapshots : List Batch → (ℕ → SnapshotState) → Type 0
AreUncutSnapshots batches snapshot = (i s : ℕ) → snapshot_time (snapshot i) ≡ Some s → IsUncut batches s

-- no record of a seat read inside a batch, and each batch that it records is listed
abbrev pub AreUncut : List Batch → (ℕ → List CallRecord) → Type 0
AreUncut batches calls = (i : ℕ) → AllByRecursion (IsUncutRecord batches) (calls i)

abbrev pub AreListed : List Batch → (ℕ → List CallRecord) → Type 0
AreListed batches calls = (i : ℕ) → AllByRecursion (IsListedRecord batches) (calls i)

-- each batch that a seat records fits an epoch of so many cells
abbrev pub AreFitting : ℕ → (ℕ → List CallRecord) → Type 0
AreFitting cells calls = (i : ℕ) → AllByRecursion (FitsRecord cells) (calls i)
