-- A seat's records by themselves: what each says of a history, and how their times rise.
use Rattle.std.specs.Prelude.{◌≡◌, ◌≢◌, ℕ, ◌+◌, ◌<◌, ◌≤◌, ◌⊎◌, cond, filter, List, [], ◌∷◌, length, slice_index_or, Option, Some, None, is_some}
use Rattle.std.specs.List.{AllByRecursion}
use Rattle.clsm_model.specs.declared.batch.Batch.{Batch}
use Rattle.clsm_model.specs.declared.slot.Slot.{Slot}
use Rattle.clsm_model.specs.declared.slot.Slot.TheVariants.{Nothing, Wrote}
use Rattle.clsm_model.specs.declared.slot.Change.{Change}
use Rattle.clsm_model.specs.declared.slot.Change.TheVariants.{Keep}
use Rattle.clsm_model.specs.declared.record.Deed.{Deed}
use Rattle.clsm_model.specs.declared.record.Deed.TheVariants.{Put, Remove, Rmw, Get, Snapshot, Close, GetAt, Scan, Page, Batch as Group}
use Rattle.clsm_model.specs.declared.record.CallRecord.{CallRecord}
use Rattle.clsm_model.specs.History.{History, end_of, IsListed, IsUncut}
use Rattle.clsm_model.specs.Right.{AreWrites, IsRight, write_at}

-- what the deed read at the time s, if it read, is right in the history
abbrev pub IsRightDeed : History → ℕ → Deed → Type 0
IsRightDeed h s (Put key written) = Unit {0}
IsRightDeed h s (Remove key) = Unit {0}
IsRightDeed h s (Group members) = Unit {0}
IsRightDeed h s deed = IsRight h s deed

-- what the record says that it read is right at its time
abbrev pub IsRightRecord : History → CallRecord → Type 0
IsRightRecord h r = IsRightDeed h r.time r.deed

-- the write, if there is one, is what the time came to
abbrev pub StandsAs : Option Slot → Option Slot → Type 0
StandsAs None slot = Unit {0}
StandsAs (Some write) slot = slot ≡ Some write

-- a record of the seat i whose writes stand at their times
abbrev pub IsStandingRecord : (ℕ → Option Slot) → ℕ → CallRecord → Type 0
IsStandingRecord slot i r = (r.seat ≡ i) × ((t : ℕ) → StandsAs (write_at i r.time r.deed t) (slot t))

-- the record is the seat's, and its writes stand at their times, as far as the slots go
abbrev pub IsRecordIn : List Slot → ℕ → CallRecord → Type 0
IsRecordIn slots number r = (r.seat ≡ number) × ((t : ℕ) → t < length slots
    → StandsAs (write_at number r.time r.deed t) (Some (slice_index_or slots t Nothing)))

-- the times of the batch that the deed is, if it is one, are listed as a batch
abbrev pub IsListedDeed : List Batch → ℕ → Deed → Type 0
IsListedDeed batches s (Group members) = IsListed batches (record { first = s; size = length members })
IsListedDeed batches s deed = Unit {0}

-- and so of a record
abbrev pub IsListedRecord : List Batch → CallRecord → Type 0
IsListedRecord batches r = IsListedDeed batches r.time r.deed

-- a batch has a member, no more of them than an epoch has cells, and each member is a write
abbrev pub FitsDeed : ℕ → Deed → Type 0
FitsDeed cells (Group members) = (members ≢ []) × (length members ≤ cells) × AreWrites members
FitsDeed cells deed = Unit {0}

-- and so of a record
abbrev pub FitsRecord : ℕ → CallRecord → Type 0
FitsRecord cells r = FitsDeed cells r.deed

-- a time at which the deed read is inside no batch of the list
abbrev pub IsUncutDeed : List Batch → ℕ → Deed → Type 0
IsUncutDeed batches s (Put key written) = Unit {0}
IsUncutDeed batches s (Remove key) = Unit {0}
IsUncutDeed batches s (Group members) = Unit {0}
IsUncutDeed batches s deed = IsUncut batches s

-- and so of a record
abbrev pub IsUncutRecord : List Batch → CallRecord → Type 0
IsUncutRecord batches r = IsUncutDeed batches r.time r.deed

-- the seat i has a record of this write at the time t
abbrev pub HasWrite : ℕ → ℕ → Slot → List CallRecord → Type 0
HasWrite i t write [] = ⊥
HasWrite i t write (r ∷ rs) = (write_at i r.time r.deed t ≡ Some write) ⊎ HasWrite i t write rs

-- ---- dues: no later call of the seat has a time below its due, but reads under an open snapshot
-- and its close

-- the snapshot that is open after a call
abbrev pub open_after : Option ℕ → ℕ → Deed → Option ℕ
open_after snapshot t Snapshot = Some t
open_after snapshot t Close = None
open_after snapshot t _ = snapshot

-- the due after a read-modify-write: a write moves it past its time
abbrev pub due_by : ℕ → Change → ℕ
due_by t Keep = t
due_by t _ = t + 1

-- the due after a call at the time t: past a write, at a read, and as it was after a close or a
-- read under an open snapshot
abbrev pub due_after : ℕ → Option ℕ → ℕ → Deed → ℕ
due_after due snapshot t (Put key written) = t + 1
due_after due snapshot t (Remove key) = t + 1
due_after due snapshot t (Rmw key old change) = due_by t change
due_after due snapshot t (Group members) = t + length members
due_after due snapshot t (Get key reply) = t
due_after due snapshot t Snapshot = t
due_after due snapshot t Close = due
due_after due snapshot t (GetAt key reply) = due
due_after due snapshot t (Scan lo hi rows) = cond (is_some snapshot) due t
due_after due snapshot t (Page range rows more) = cond (is_some snapshot) due t

-- a scan or page at the time t may come next: at the open snapshot, or else at or above the due
abbrev pub IsNextRead : ℕ → Option ℕ → ℕ → Type 0
IsNextRead due None t = due ≤ t
IsNextRead due (Some s) t = t ≡ s

-- a call with this deed may come next: a close and the reads under an open snapshot at its time,
-- all others at or above the due, and a snapshot only where none is open
abbrev pub IsNext : ℕ → Option ℕ → ℕ → Deed → Type 0
IsNext due snapshot t Snapshot = (snapshot ≡ None) × (due ≤ t)
IsNext due snapshot t Close = snapshot ≡ Some t
IsNext due snapshot t (GetAt key reply) = snapshot ≡ Some t
IsNext due snapshot t (Scan lo hi rows) = IsNextRead due snapshot t
IsNext due snapshot t (Page range rows more) = IsNextRead due snapshot t
IsNext due snapshot t _ = due ≤ t

-- each of the calls may come next after those before it
abbrev pub Rises : ℕ → Option ℕ → List CallRecord → Type 0
Rises due snapshot [] = Unit {0}
Rises due snapshot (r ∷ rs) = IsNext due snapshot r.time r.deed × Rises (due_after due snapshot r.time r.deed) (open_after snapshot r.time r.deed) rs

-- the due and the open snapshot that the calls leave
abbrev pub last_due : ℕ → Option ℕ → List CallRecord → ℕ
last_due due snapshot [] = due
last_due due snapshot (r ∷ rs) = last_due (due_after due snapshot r.time r.deed) (open_after snapshot r.time r.deed) rs

-- of these the open snapshot alone
abbrev pub last_open : Option ℕ → List CallRecord → Option ℕ
last_open snapshot [] = snapshot
last_open snapshot (r ∷ rs) = last_open (open_after snapshot r.time r.deed) rs

-- the calls of a seat with this due, which meetings raise too, and this open snapshot
pub record IsRising (calls : List CallRecord) (due : ℕ) (snapshot : Option ℕ) : Type 0 where
  pub rises : Rises 0 None calls
  pub due_is : last_due 0 None calls ≤ due
  pub open_is : last_open None calls ≡ snapshot

-- ---- a seat's calls as a part of a history

-- the records that write at the time t
abbrev pub writes_at : ℕ → ℕ → List CallRecord → List CallRecord
writes_at i t calls = filter (λ r. is_some (write_at i r.time r.deed t)) calls

-- each write of the history with the seat's number is the write of exactly one of its records, at
-- that time
abbrev pub HasEachWrite : List Slot → ℕ → List CallRecord → Type 0
HasEachWrite h i calls = (t key : ℕ) (written : Option (List ℕ)) → t < length h → slice_index_or h t Nothing ≡ Wrote i key written
    → (r : CallRecord) × (writes_at i t calls ≡ r ∷ []) × (write_at i r.time r.deed t ≡ Some (Wrote i key written))

-- The calls are the seat's part of the history h: h reaches the seat's due; each of the writes
-- stands in h, and each write in h with the seat's number is one of these, once; each batch is
-- listed in h; what was read is right, and at no time inside a batch; and the times rise to the due
pub record AreCallsIn (h : History) (i : ℕ) (calls : List CallRecord) (due : ℕ) (snapshot : Option ℕ) : Type 0 where
  pub reached : due ≤ end_of h
  pub stand : AllByRecursion (IsRecordIn h.slots i) calls
  pub each : HasEachWrite h.slots i calls
  pub listed : AllByRecursion (IsListedRecord h.batches) calls
  pub right : AllByRecursion (IsRightRecord h) calls
  pub rising : IsRising calls due snapshot
