-- The history of a store, and what it answers: one list of writes indexed by timestamp.
use Rattle.std.specs.Prelude.{◌≡◌, ℕ, ◌+◌, ◌<◌, ◌≤◌, ◌==◌, ◌⊎◌, zero, suc, cond, nat_lt, List, [], ◌∷◌, length, take, filter, Option, Some, None}
use Rattle.std.specs.Prelude.{slice_index_or}
use Rattle.std.specs.List.{AllByRecursion}
use mathlib.Core.List.{IsPrefix}
use Rattle.clsm_model.specs.declared.batch.Batch.{Batch}
use Rattle.clsm_model.specs.declared.slot.Slot.{Slot}
use Rattle.clsm_model.specs.declared.slot.Slot.TheVariants.{Nothing, Wrote}

-- what each timestamp came to, and the batches
pub record History : Type 0 where
  pub slots : List Slot
  pub batches : List Batch

-- the slots alone, with no batch
abbrev pub plain : List Slot → History
plain slots = record { slots = slots; batches = [] }

-- the first time that has no slot
abbrev pub end_of : History → ℕ
end_of h = length h.slots

-- what the time t came to: `Nothing` from the end on
abbrev pub slot_at : History → ℕ → Slot
slot_at h t = slice_index_or h.slots t Nothing

-- a write of a key: its time, and the words written, or none for a removal
pub record Write : Type 0 where
  pub time : ℕ
  pub value : Option (List ℕ)

-- the write of the key that the slot at time t is, if it is one
abbrev pub write_of : ℕ → ℕ → Slot → Option Write
write_of k t Nothing = None
write_of k t (Wrote seat key value) = cond (key == k) (Some (record { time = t; value = value })) None

-- the first of two, if there is one, else the second
abbrev pub or_else : {A : Type 0} → Option A → Option A → Option A
or_else (Some x) o = Some x
or_else None o = o

-- the write of the key with the greatest time below s
abbrev pub newest : History → ℕ → ℕ → Option Write
newest h k zero = None
newest h k (suc t) = or_else (write_of k t (slot_at h t)) (newest h k t)

-- what a write leaves at its key
abbrev pub left_by : Option Write → Option (List ℕ)
left_by None = None
left_by (Some w) = w.value

-- the value of the key below the time s: there is none where no write is, or the newest is a
-- removal
abbrev pub value : History → ℕ → ℕ → Option (List ℕ)
value h k s = left_by (newest h k s)

-- the time lies strictly inside the batch
abbrev pub IsInside : ℕ → Batch → Type 0
IsInside s b = (b.first < s) × (s < b.first + b.size)

-- the time lies strictly inside no batch of the list
abbrev pub IsUncut : List Batch → ℕ → Type 0
IsUncut batches s = AllByRecursion (λ b. ¬ IsInside s b) batches

-- the batch is one of the list
abbrev pub IsListed : List Batch → Batch → Type 0
IsListed [] b = ⊥
IsListed (a ∷ rest) b = (a ≡ b) ⊎ IsListed rest b

-- each batch of the list has a member; none begins before the time, nor before an earlier one ends,
-- nor ends after the bound: so they don't overlap
abbrev pub AreInTurn : ℕ → List Batch → ℕ → Type 0
AreInTurn from [] bound = from ≤ bound
AreInTurn from (b ∷ bs) bound = (from ≤ b.first) × (0 < b.size) × AreInTurn (b.first + b.size) bs bound

-- the batches that begin below the time
abbrev pub batches_below : ℕ → List Batch → List Batch
batches_below s batches = filter (λ b. nat_lt b.first s) batches

-- the history below a time: a beginning of it, where the time cuts no batch
abbrev pub below : ℕ → History → History
below s h = record { slots = take s h.slots; batches = batches_below s h.batches }

-- the history is a beginning of the other: its slots are the first of the other's, and the same
-- batches begin below its end
pub record IsBeginning (g h : History) : Type 0 where
  pub slots : IsPrefix g.slots h.slots
  pub batches : batches_below (end_of g) g.batches ≡ batches_below (end_of g) h.batches

-- a read may stand at this time: the history reaches it, and no batch is cut by it
pub record IsReadable (h : History) (s : ℕ) : Type 0 where
  pub reached : s ≤ end_of h
  pub uncut : IsUncut h.batches s
