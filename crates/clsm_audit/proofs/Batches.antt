-- The batches of the records: each is listed, no two overlap, and a time is inside none where it is
-- inside none of theirs.
use Rattle.std.proofs.Common.{◌≡◌, ℕ, ◌+◌, ◌<◌, zero, suc, true, List, [], ◌∷◌, length, get_or, Option, Some, None, IfSome, refl, inl, inr, subst, arith}
use Rattle.std.proofs.Common.{◌≤◌, ◌⊎◌}
use Rattle.std.proofs.lemmas.Bool.{cases_lt}
use Rattle.std.proofs.lemmas.List.Elements.{All-cons, All-nil}
use Rattle.std.proofs.lemmas.List.Kept.{AllPairs-cons}
use Rattle.std.specs.List.{All, AllPairs, cons_option}
use Rattle.clsm_model.specs.declared.batch.Batch.{Batch}
use Rattle.clsm_model.specs.declared.record.CallRecord.{CallRecord}
use Rattle.clsm_model.specs.declared.record.Deed.{Deed}
use Rattle.clsm_model.specs.declared.record.Deed.TheVariants.{Batch as Group}
use Rattle.clsm_model.specs.History.{IsInside, IsListed, IsUncut}
use Rattle.clsm_model.specs.Seats.{IsListedDeed, IsListedRecord}
use Rattle.clsm_audit.specs.Lawful.{HasWrites}
use Rattle.clsm_audit.specs.Written.{AreApart, WritesAt, batch_by, batches_of, is_write, span_of, time_past}
use Rattle.clsm_audit.proofs.Indices.{nobody}
use Rattle.clsm_audit.proofs.Times.{past_time, writes_each}

-- the time is not inside the batch that the record is, if it is one
abbrev pub IsOutside : ℕ → CallRecord → Type 0
IsOutside s r = IfSome (batch_by r.time r.deed) (λ b. ¬ IsInside s b)

-- ---- times inside no batch

uncut_cons : (s : ℕ) (o : Option Batch) (rest : List Batch) → IfSome o (λ b. ¬ IsInside s b) → IsUncut rest s → IsUncut (cons_option o rest) s
uncut_cons s None rest outside uncut = uncut
uncut_cons s (Some b) rest outside uncut = (outside, uncut)

cons_uncut : (s : ℕ) (o : Option Batch) (rest : List Batch) → IsUncut (cons_option o rest) s → IfSome o (λ b. ¬ IsInside s b) × IsUncut rest s
cons_uncut s None rest uncut = (tt, uncut)
cons_uncut s (Some b) rest uncut = (uncut.0, uncut.1)

pub uncut_from : (records : List CallRecord) (s : ℕ) → ((i : ℕ) → i < length records → IsOutside s (get_or records i nobody)) → IsUncut (batches_of records) s
uncut_from [] s each = tt
uncut_from (r ∷ rs) s each = uncut_cons s (batch_by r.time r.deed) (batches_of rs) (each zero (omega arith))
    (uncut_from rs s (λ i lt. each (suc i) (omega arith)))

pub uncut_at : (records : List CallRecord) (s i : ℕ) → IsUncut (batches_of records) s → i < length records → IsOutside s (get_or records i nobody)
uncut_at [] s i uncut lt = absurd (omega arith)
uncut_at (r ∷ rs) s zero uncut lt = (cons_uncut s (batch_by r.time r.deed) (batches_of rs) uncut).0
uncut_at (r ∷ rs) s (suc i) uncut lt = uncut_at rs s i (cons_uncut s (batch_by r.time r.deed) (batches_of rs) uncut).1 (omega arith)

-- ---- listed batches

-- a time inside no batch of a list is not inside one that is listed
outside_listed : (batches : List Batch) (s : ℕ) (b : Batch) → IsUncut batches s → IsListed batches b → ¬ IsInside s b
outside_listed [] s b uncut listed = absurd listed
outside_listed (a ∷ rest) s b uncut (inl same) = subst (λ (c : Batch). ¬ IsInside s c) same uncut.0
outside_listed (a ∷ rest) s b uncut (inr later) = outside_listed rest s b uncut.1 later

outside_deed : (batches : List Batch) (s t : ℕ) (deed : Deed) → IsUncut batches s → IsListedDeed batches t deed → IfSome (batch_by t deed) (λ b. ¬ IsInside s b)
outside_deed batches s t (Group members) uncut listed = outside_listed batches s (record { first = t; size = length members }) uncut listed
outside_deed batches s t deed uncut listed = tt

-- nor inside the batch of a record that is listed
pub outside_record : (batches : List Batch) (s : ℕ) (r : CallRecord) → IsUncut batches s → IsListedRecord batches r → IsOutside s r
outside_record batches s r uncut listed = outside_deed batches s r.time r.deed uncut listed

-- each record's batch is one of the records' batches
listed_first : (rest : List Batch) (t : ℕ) (deed : Deed) → IsListedDeed (cons_option (batch_by t deed) rest) t deed
listed_first rest t (Group members) = inl refl
listed_first rest t deed = tt

listed_behind : (o : Option Batch) (rest : List Batch) (b : Batch) → IsListed rest b → IsListed (cons_option o rest) b
listed_behind None rest b listed = listed
listed_behind (Some a) rest b listed = inr listed

listed_later : (o : Option Batch) (rest : List Batch) (t : ℕ) (deed : Deed) → IsListedDeed rest t deed → IsListedDeed (cons_option o rest) t deed
listed_later o rest t (Group members) listed = listed_behind o rest (record { first = t; size = length members }) listed
listed_later o rest t deed listed = tt

pub listed_at : (records : List CallRecord) (i : ℕ) → i < length records → IsListedRecord (batches_of records) (get_or records i nobody)
listed_at [] i lt = absurd (omega arith)
listed_at (r ∷ rs) zero lt = listed_first (batches_of rs) r.time r.deed
listed_at (r ∷ rs) (suc i) lt = listed_later (batch_by r.time r.deed) (batches_of rs) (get_or rs i nobody).time (get_or rs i nobody).deed
    (listed_at rs i (omega arith))

-- ---- inside a record's times

-- a time behind the first of a record and before its end is inside the batch that it is
inside_deed : (s t : ℕ) (deed : Deed) → IfSome (batch_by t deed) (λ b. ¬ IsInside s b) → t < s → s < t + span_of deed → ⊥
inside_deed s t (Group members) outside low high = outside (low, high)
inside_deed s t deed outside low high = omega arith

pub inside_record : (s : ℕ) (r : CallRecord) → IsOutside s r → r.time < s → s < time_past r → ⊥
inside_record s r outside low high = inside_deed s r.time r.deed outside low high

-- and a time that is not there is outside
outside_from : (s t : ℕ) (deed : Deed) → (is_write deed ≡ true → t < s → s < t + span_of deed → ⊥) → IfSome (batch_by t deed) (λ b. ¬ IsInside s b)
outside_from s t (Group members) not_in = λ inside. not_in refl inside.0 inside.1
outside_from s t deed not_in = tt

pub record_outside : (s : ℕ) (r : CallRecord) → (is_write r.deed ≡ true → r.time < s → s < time_past r → ⊥) → IsOutside s r
record_outside s r not_in = outside_from s r.time r.deed not_in

-- ---- batches that do not overlap

-- two writes with no time in common are apart
spans_apart : (q r : CallRecord) → HasWrites q.deed → HasWrites r.deed → is_write q.deed ≡ true → is_write r.deed ≡ true
    → ((t : ℕ) → WritesAt t q → WritesAt t r → ⊥)
    → (time_past q ≤ r.time) ⊎ (time_past r ≤ q.time)
spans_apart q r has has' is is' alone =
    let past = past_time q has in
    let past' = past_time r has' in
    elim (cases_lt r.time (time_past q)) [
      | inl low ↦ elim (cases_lt q.time (time_past r)) [
        | inl low' ↦ elim (cases_lt q.time r.time) [
          | inl lt ↦ absurd (alone r.time (writes_each q r.time has is (omega arith) low) (writes_each r r.time has' is' (omega arith) past'))
          | inr le ↦ absurd (alone q.time (writes_each q q.time has is (omega arith) past) (writes_each r q.time has' is' le low'))
        ]
        | inr le ↦ inr le
      ]
      | inr le ↦ inl le
    ]

-- what holds of a record that is a batch holds of its batch
batch_all : (P : Batch → Type 0) (t : ℕ) (deed : Deed) → (is_write deed ≡ true → P (record { first = t; size = span_of deed })) → (rest : List Batch)
    → All P rest → All P (cons_option (batch_by t deed) rest)
batch_all P t (Group members) holds rest all = All-cons P (record { first = t; size = length members }) rest (holds refl) all
batch_all P t deed holds rest all = all

all_apart : (q : CallRecord) (records : List CallRecord) → HasWrites q.deed → is_write q.deed ≡ true
    → ((i : ℕ) → i < length records → HasWrites (get_or records i nobody).deed)
    → ((i t : ℕ) → i < length records → WritesAt t q → WritesAt t (get_or records i nobody) → ⊥)
    → All (AreApart (record { first = q.time; size = span_of q.deed })) (batches_of records)
all_apart q [] has is have alone = All-nil (AreApart (record { first = q.time; size = span_of q.deed }))
all_apart q (r ∷ rs) has is have alone =
    batch_all (AreApart (record { first = q.time; size = span_of q.deed })) r.time r.deed
    (λ is'. spans_apart q r has (have zero (omega arith)) is is' (λ t. alone zero t (omega arith))) (batches_of rs)
    (all_apart q rs has is (λ i lt. have (suc i) (omega arith)) (λ i t lt. alone (suc i) t (omega arith)))

batch_pairs : (t : ℕ) (deed : Deed) (rest : List Batch) → (is_write deed ≡ true → All (AreApart (record { first = t; size = span_of deed })) rest)
    → AllPairs AreApart rest → AllPairs AreApart (cons_option (batch_by t deed) rest)
batch_pairs t (Group members) rest apart pairs = AllPairs-cons AreApart (record { first = t; size = length members }) rest (apart refl) pairs
batch_pairs t deed rest apart pairs = pairs

-- where no two records write at one time their batches do not overlap
pub batches_apart : (records : List CallRecord) → ((i : ℕ) → i < length records → HasWrites (get_or records i nobody).deed)
    → ((i j t : ℕ) → i < j → j < length records → WritesAt t (get_or records i nobody) → WritesAt t (get_or records j nobody) → ⊥)
    → AllPairs AreApart (batches_of records)
batches_apart [] have alone = λ i j d lt within. absurd (omega arith)
batches_apart (r ∷ rs) have alone =
    batch_pairs r.time r.deed (batches_of rs) (λ is. all_apart r rs (have zero (omega arith)) is (λ i lt. have (suc i) (omega arith))
    (λ i t lt. alone zero (suc i) t (omega arith) (omega arith)))
    (batches_apart rs (λ i lt. have (suc i) (omega arith)) (λ i j t lt within. alone (suc i) (suc j) t (omega arith) (omega arith)))
