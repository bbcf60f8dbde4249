-- A replay of calls in the order of time: its map, and where the writes that were played end.
use Rattle.std.specs.Prelude.{◌≡◌, ◌↔◌, ℕ, ◌+◌, ◌<◌, ◌≤◌, if◌then◌else◌, Bool, true, false, length, List, max, Some}
use Rattle.clsm_model.specs.declared.record.Deed.{Deed}
use Rattle.clsm_model.specs.declared.record.Deed.TheVariants.{Put, Remove, Batch as Group}
use Rattle.clsm_model.specs.declared.record.CallRecord.{CallRecord}
use Rattle.clsm_model.specs.History.{History, IsUncut, end_of, slot_at}
use Rattle.clsm_model.specs.Map.{IsMap, Pair}
use Rattle.clsm_model.specs.Right.{Member, member_write}
use Rattle.clsm_audit.specs.Written.{is_write, span_of, time_past, write_of}

-- the deed read something, or took or gave back a snapshot: its time may cut no batch
abbrev pub is_read : Deed → Bool
is_read (Put key written) = false
is_read (Remove key) = false
is_read (Group members) = false
is_read deed = true

-- each of the members is the write that its time came to, from the time s on
abbrev pub StandFrom : History → ℕ → ℕ → List Member → Type 0
StandFrom h seat s members =
    (n : ℕ) → n < length members → member_write seat members n ≡ Some (slot_at h (s + n))

-- the record writes at each of its times, and each came to that write
abbrev pub StandsIn : History → CallRecord → Type 0
StandsIn h r =
    (n : ℕ) → n < span_of r.deed → write_of r (r.time + n) ≡ Some (slot_at h (r.time + n))

-- the first time past the writes that were played, after one more call
abbrev pub until_by : ℕ → CallRecord → ℕ
until_by until r = if is_write r.deed then max until (time_past r) else until

-- the replay has come to the time s of the history: a batch is cut there exactly where a write that
-- was played ends later, and elsewhere the map is that of the history
pub record HasComeTo (h : History) (s until : ℕ) (pairs : List Pair) : Type 0 where
  pub reached : s ≤ end_of h
  pub uncut : IsUncut h.batches s ↔ (until ≤ s)
  pub map : until ≤ s → IsMap h s pairs
