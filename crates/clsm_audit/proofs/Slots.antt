-- The history of all writes: what its slots are, and its map where no write is.
use Rattle.std.proofs.Common.{◌≡◌, ℕ, ◌+◌, ◌-◌, ◌<◌, ◌≤◌, zero, suc, List, [], ◌∷◌, length, get_or, map, Option, Some, None, IsSome, is_some, unwrap_or}
use Rattle.std.proofs.Common.{refl, sym, ap, ◌∙◌, subst, arith, ⊎_elim}
use Rattle.std.proofs.lemmas.Bool.{cases_lt}
use Rattle.std.proofs.lemmas.List.{get_or_past}
use Rattle.std.proofs.lemmas.List.FromFn.{get_or-map-range_with_len, length-map-range_with_len}
use Rattle.std.specs.List.{range_with_len, slice_get}
use Rattle.std.specs.Option.{IsSomeAnd}
use Rattle.clsm_model.specs.declared.record.CallRecord.{CallRecord}
use Rattle.clsm_model.specs.declared.slot.Slot.{Slot}
use Rattle.clsm_model.specs.declared.slot.Slot.TheVariants.{Nothing}
use Rattle.clsm_model.specs.History.{History, end_of, slot_at}
use Rattle.clsm_model.specs.Map.{IsMap, Pair}
use Rattle.clsm_model.proofs.Maps.{IsMap-next}
use Rattle.clsm_audit.specs.Faults.{HasNone, IsSecondAt}
use Rattle.clsm_audit.specs.Written.{WritesAt, end_by, history_of, slot_by, time_past, write_of}
use Rattle.clsm_audit.proofs.Indices.{itself, nobody}
use Rattle.clsm_audit.proofs.Seconds.{at_index, second_here}
use Rattle.clsm_audit.proofs.Times.{writes_within}

-- ---- the slots of the records

-- a record that does not write at the time leaves it to the others
slot_by-other : (r : CallRecord) (t : ℕ) (rest : Slot) → (WritesAt t r → ⊥) → unwrap_or (write_of r t) rest ≡ rest
slot_by-other r t rest reads = by (write_of r t) reads where
  by : (o : Option Slot) → (IsSome o → ⊥) → unwrap_or o rest ≡ rest
  by (Some w) none = absurd (none refl)
  by None none = refl

slot_by-none : (records : List CallRecord) (t : ℕ) → ((j : ℕ) → IsSomeAnd (slice_get records j) (WritesAt t) → ⊥) → slot_by records t ≡ Nothing
slot_by-none [] t none = refl
slot_by-none (r ∷ rs) t none = slot_by-other r t (slot_by rs t) (none zero) ∙ slot_by-none rs t (λ j. none (suc j))

-- the first record that writes at the time gives the slot
slot_by-first : (records : List CallRecord) (i t : ℕ) (w : Slot) → IsSomeAnd (slice_get records i) (λ r. write_of r t ≡ Some w)
    → ((j : ℕ) → j < i → IsSomeAnd (slice_get records j) (WritesAt t) → ⊥) → slot_by records t ≡ w
slot_by-first [] i t w here before = absurd here
slot_by-first (r ∷ rs) zero t w here before = ap (λ (o : Option Slot). unwrap_or o (slot_by rs t)) here
slot_by-first (r ∷ rs) (suc i) t w here before =
    slot_by-other r t (slot_by rs t) (before zero (omega arith)) ∙ slot_by-first rs i t w here (λ j lt. before (suc j) (omega arith))

-- ---- the history

within_end : (records : List CallRecord) (t j : ℕ) → IsSomeAnd (slice_get records j) (WritesAt t) → t < end_by records
within_end [] t j writes = absurd writes
within_end (r ∷ rs) t zero writes = let lt = (writes_within r t writes).2 in omega arith
within_end (r ∷ rs) t (suc j) writes = let lt = within_end rs t j writes in omega arith

-- the end is not before the time of a record
record_within : (records : List CallRecord) (i : ℕ) → i < length records → (get_or records i nobody).time ≤ end_by records
record_within [] i lt = absurd (omega arith)
record_within (r ∷ rs) zero lt = let le : r.time ≤ time_past r = omega arith in omega arith
record_within (r ∷ rs) (suc i) lt = let rest = record_within rs i (omega arith) in omega arith

pub length-history_of : (records : List CallRecord) → end_of (history_of records) ≡ end_by records
length-history_of records = length-map-range_with_len (slot_by records) 0 (end_by records)

pub time_within : (records : List CallRecord) (i : ℕ) → i < length records → (get_or records i nobody).time ≤ end_of (history_of records)
time_within records i lt = let a = record_within records i lt in let l = length-history_of records in omega arith

pub slot_at-history_of : (records : List CallRecord) (t : ℕ) → slot_at (history_of records) t ≡ slot_by records t
slot_at-history_of records t =
    ⊎_elim
    (λ (lt : t < end_by records). get_or-map-range_with_len (slot_by records) 0 (end_by records) t t Nothing lt (omega arith))
    (λ (past : end_by records ≤ t).
    get_or_past (map (slot_by records) (range_with_len 0 (end_by records))) t Nothing
    (let l : length (map (slot_by records) (range_with_len 0 (end_by records))) ≡ end_by records = length-map-range_with_len (slot_by records) 0
    (end_by records) in omega arith)
    ∙ sym (slot_by-none records t (λ j writes. let lt = within_end records t j writes in omega arith)))
    (cases_lt t (end_by records))

pub slot_at-none : (records : List CallRecord) (t : ℕ) → ((j : ℕ) → IsSomeAnd (slice_get records j) (WritesAt t) → ⊥) → slot_at (history_of records) t ≡ Nothing
slot_at-none records t none = slot_at-history_of records t ∙ slot_by-none records t none

-- a record's write is what its time came to, where it is the only one with that time
pub slot_written : (records : List CallRecord) → HasNone (IsSecondAt records) → (i t : ℕ) (w : Slot) → i < length records
    → write_of (get_or records i nobody) t ≡ Some w → slot_at (history_of records) t ≡ w
slot_written records alone i t w within writes =
    let r = get_or records i nobody in
    slot_at-history_of records t
    ∙ slot_by-first records i t w ((at_index (λ q. write_of q t ≡ Some w) records i r within (itself records i within)).0 writes)
    (λ j lt earlier. alone i (second_here records i t r within (itself records i within) (ap is_some writes) (j, lt, earlier)))

-- ---- its map

-- the map stays over times with no write
map_kept : (h : History) (s n : ℕ) (pairs : List Pair) → ((t : ℕ) → s ≤ t → t < s + n → slot_at h t ≡ Nothing) → IsMap h s pairs → IsMap h (s + n) pairs
map_kept h s zero pairs none is = subst (λ (u : ℕ). IsMap h u pairs) (omega arith) is
map_kept h s (suc n) pairs none is =
    let before = map_kept h s n pairs (λ t from until. none t from (omega arith)) is in
    subst (λ (u : ℕ). IsMap h u pairs) (let e : (s + n) + 1 ≡ s + suc n = omega arith in e)
    (IsMap-next h (s + n) Nothing pairs pairs (none (s + n) (omega arith) (omega arith)) before.rise (λ k. refl) before)

pub IsMap-later : (h : History) (s u : ℕ) (pairs : List Pair) → s ≤ u → ((t : ℕ) → s ≤ t → t < u → slot_at h t ≡ Nothing) → IsMap h s pairs → IsMap h u pairs
IsMap-later h s u pairs le none is =
    let e : s + (u - s) ≡ u = omega arith in
    subst (λ (v : ℕ). IsMap h v pairs) e (map_kept h s (u - s) pairs (λ t from until. none t from (omega arith)) is)
