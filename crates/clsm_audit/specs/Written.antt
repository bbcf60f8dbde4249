-- The history that records write: each write at its time, nothing elsewhere, and the batches.
use Rattle.std.specs.Prelude.{ℕ, ◌+◌, ◌<◌, ◌≤◌, ◌⊎◌, Bool, true, false, List, [], ◌∷◌, length, map, max, Option, Some, None, IsSome, IsSomeAnd, slice_get}
use Rattle.std.specs.Prelude.{unwrap_or}
use Rattle.std.specs.List.{filter_map, range_with_len}
use Rattle.clsm_model.specs.declared.batch.Batch.{Batch}
use Rattle.clsm_model.specs.declared.slot.Slot.{Slot}
use Rattle.clsm_model.specs.declared.slot.Slot.TheVariants.{Nothing}
use Rattle.clsm_model.specs.declared.slot.Change.TheVariants.{Keep}
use Rattle.clsm_model.specs.declared.record.Deed.{Deed}
use Rattle.clsm_model.specs.declared.record.Deed.TheVariants.{Put, Remove, Rmw, Batch as Group}
use Rattle.clsm_model.specs.declared.record.CallRecord.{CallRecord}
use Rattle.clsm_model.specs.History.{History}
use Rattle.clsm_model.specs.Right.{write_at}

-- ---- the times of a record

-- the deed is a write
abbrev pub is_write : Deed → Bool
is_write (Put key written) = true
is_write (Remove key) = true
is_write (Rmw key old Keep) = false
is_write (Rmw key old change) = true
is_write (Group members) = true
is_write deed = false

-- how many times the deed takes: a batch one for each member, any other deed one
abbrev pub span_of : Deed → ℕ
span_of (Group members) = length members
span_of deed = 1

-- the first time past those of the record
abbrev pub time_past : CallRecord → ℕ
time_past r = r.time + span_of r.deed

-- the write that the record makes at the time t, if it makes one
abbrev pub write_of : CallRecord → ℕ → Option Slot
write_of r t = write_at r.seat r.time r.deed t

-- the record writes at the time t
abbrev pub WritesAt : ℕ → CallRecord → Type 0
WritesAt t r = IsSome (write_of r t)

-- a record before the index i writes at the time t
abbrev pub IsWrittenBefore : List CallRecord → ℕ → ℕ → Type 0
IsWrittenBefore records i t = (j : ℕ) × (j < i) × IsSomeAnd (slice_get records j) (WritesAt t)

-- ---- the history

-- what the records write at the time t: nothing, or the first write with that time
abbrev pub slot_by : List CallRecord → ℕ → Slot
slot_by [] t = Nothing
slot_by (r ∷ rs) t = unwrap_or (write_of r t) (slot_by rs t)

-- a time past all of the records'
abbrev pub end_by : List CallRecord → ℕ
end_by [] = 0
end_by (r ∷ rs) = max (time_past r) (end_by rs)

-- the batch that the deed is, done at the time t, if it is one
abbrev pub batch_by : ℕ → Deed → Option Batch
batch_by t (Group members) = Some (record { first = t; size = length members })
batch_by t deed = None

-- the batches of the records
abbrev pub batches_of : List CallRecord → List Batch
batches_of records = filter_map (λ r. batch_by r.time r.deed) records

-- one of the batches ends before the other one begins
abbrev pub AreApart : Batch → Batch → Type 0
AreApart a b = (a.first + a.size ≤ b.first) ⊎ (b.first + b.size ≤ a.first)

-- the history of all writes, with all batches
abbrev pub history_of : List CallRecord → History
history_of records = record {
  slots = map (slot_by records) (range_with_len 0 (end_by records));
  batches = batches_of records;
}
