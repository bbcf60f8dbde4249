-- The writes of a history as entries, and the search of entries for a key.
use Rattle.std.specs.Prelude.{◌≡◌, ℕ, ◌<◌, ◌==◌, nat_lt, nat_le, ◌&&◌, zero, suc, Bool, cond, List, [], ◌∷◌, ◌++◌, filter, map, unwrap_or, slice_index_or}
use Rattle.std.specs.Prelude.{Option, Some, None, is_none}
use Rattle.std.specs.List.{AllByRecursion}
use Rattle.clsm_model.specs.declared.slot.Slot.{Slot}
use Rattle.clsm_model.specs.declared.slot.Slot.TheVariants.{Nothing, Wrote}
use Rattle.clsm_model.specs.History.{History, slot_at}
use Rattle.clsm_levels.specs.declared.entry.Entry.{Entry}

-- what the slot of the time t is as an entry, if it is a write
abbrev pub entry_of : ℕ → Slot → List Entry
entry_of t Nothing = []
entry_of t (Wrote seat k written) = (record { key = k; time = t; value = written }) ∷ []

-- the writes with a <= time < b, the newest first
abbrev pub entries_of : List Slot → ℕ → ℕ → List Entry
entries_of slots a zero = []
entries_of slots a (suc b) = cond (nat_le a b) (entry_of b (slice_index_or slots b Nothing) ++ entries_of slots a b) []

-- the slots, of which those that are not decided yet are read as nothing
abbrev pub decided_slots : List (Option Slot) → List Slot
decided_slots slots = map (λ slot. unwrap_or slot Nothing) slots

-- some seat wrote the entry at its time
abbrev pub IsWriteOf : History → Entry → Type 0
IsWriteOf h e = (seat : ℕ) × (slot_at h e.time ≡ Wrote seat e.key e.value)

-- an entry without a value is a removal
abbrev pub is_removal : Entry → Bool
is_removal e = is_none e.value

-- the entries of one key, in their order
abbrev pub of_key : ℕ → List Entry → List Entry
of_key k es = filter (λ e. e.key == k) es

-- the first entry of the key k with a time below s
abbrev pub first_below : List Entry → ℕ → ℕ → Option Entry
first_below [] k s = None
first_below (e ∷ es) k s = cond (e.key == k && nat_lt e.time s) (Some e) (first_below es k s)

-- what an entry says of its key: there is no value where there is no entry, or a removal
abbrev pub value_of : Option Entry → Option (List ℕ)
value_of None = None
value_of (Some e) = e.value

-- each time is below t
abbrev pub AreBelow : ℕ → List Entry → Type 0
AreBelow t es = AllByRecursion (λ e. e.time < t) es

-- from the newest to the oldest
abbrev pub TimesFall : List Entry → Type 0
TimesFall [] = Unit {0}
TimesFall (e ∷ es) = AreBelow e.time es × TimesFall es

-- the entries of each key stand from the newest to the oldest
abbrev pub TimesFallByKey : List Entry → Type 0
TimesFallByKey es = (k : ℕ) → TimesFall (of_key k es)
