-- Records with no fault are, seat by seat, the calls of the one history that they write.
use Rattle.std.proofs.Common.{◌≡◌, ◌≢◌, ℕ, ◌+◌, ◌<◌, ◌≤◌, ◌==◌, zero, suc, Bool, true, false, cond, max, List, [], ◌∷◌, ◌++◌, length, filter, get_or, take}
use Rattle.std.proofs.Common.{Option, Some, None, IfSome, is_some, unwrap_or, refl, sym, ap, ◌∙◌, subst, arith, ⊎_elim, add-one}
use Rattle.std.proofs.lemmas.Bool.{cases_eq, cases_lt, eq-eqb, eqb-true}
use Rattle.std.proofs.lemmas.List.{take_all}
use Rattle.std.specs.List.{AllByRecursion, AllPairs, slice_get}
use Rattle.std.specs.Option.{IsSomeAnd}
use Rattle.clsm_model.specs.declared.config.Config.{Config}
use Rattle.clsm_model.specs.declared.record.CallRecord.{CallRecord}
use Rattle.clsm_model.specs.declared.record.Deed.{Deed}
use Rattle.clsm_model.specs.declared.record.Deed.TheVariants.{Put, Remove, Rmw, Get, Snapshot, Close, GetAt, Scan, Page, Batch as Group}
use Rattle.clsm_model.specs.declared.slot.Change.TheVariants.{Keep, Set, Remove as Erase}
use Rattle.clsm_model.specs.declared.slot.Slot.{Slot}
use Rattle.clsm_model.specs.declared.slot.Slot.TheVariants.{Wrote}
use Rattle.clsm_model.specs.History.{end_of, slot_at}
use Rattle.clsm_model.specs.Right.{write_at}
use Rattle.clsm_model.specs.Seats.{AreCallsIn, HasEachWrite, IsListedRecord, IsNext, IsRecordIn, IsRightRecord, Rises, StandsAs, due_after, last_due}
use Rattle.clsm_model.specs.Seats.{open_after}
use Rattle.clsm_model.proofs.Rising.{rises_append}
use Rattle.clsm_audit.specs.Faults.{HasNone, IsSecondAt, Passes}
use Rattle.clsm_audit.specs.Lawful.{IsAtSnapshot, IsFromDue, IsInRange, IsKnown, calls_of, due_of, open_of}
use Rattle.clsm_audit.specs.Whole.{HasHistory}
use Rattle.clsm_audit.specs.Written.{AreApart, WritesAt, batches_of, end_by, history_of, slot_by, span_of, time_past, write_of}
use Rattle.clsm_audit.proofs.Batches.{batches_apart as apart_from, listed_at}
use Rattle.clsm_audit.proofs.Calls.{calls_of-other, calls_of-own}
use Rattle.clsm_audit.proofs.Indices.{here_if, if_here, itself, nobody, past_end, taken_more}
use Rattle.clsm_audit.proofs.Seconds.{at_index, some_within, two_writes}
use Rattle.clsm_audit.proofs.Slots.{length-history_of, slot_at-history_of, slot_written}
use Rattle.clsm_audit.proofs.Times.{is_by_seat}

-- ---- a seat's calls, one by one

-- what holds of each record of the seat holds of each of its calls
each_call : (P : CallRecord → Type 0) (records : List CallRecord) (seat : ℕ) → ((i : ℕ) → IfSome (slice_get records i) (λ r. r.seat ≡ seat → P r))
    → AllByRecursion P (calls_of records seat)
each_call P [] seat each = tt
each_call P (r ∷ rs) seat each =
    let rest = each_call P rs seat (λ i. each (suc i)) in
    elim (r.seat == seat) as (λ (b : Bool). (r.seat == seat) ≡ b → AllByRecursion P (cond b (r ∷ calls_of rs seat) (calls_of rs seat))) [
      | true ↦
          λ e. (each zero (eqb-true r.seat seat e), rest)
      | false ↦ λ e. rest
    ] refl

-- what holds of the record at each index below the end
each_record : (P : CallRecord → Type 0) (records : List CallRecord) → ((i : ℕ) → i < length records → P (get_or records i nobody)) → (i : ℕ)
    → IfSome (slice_get records i) P
each_record P records each i =
    ⊎_elim
    (λ (lt : i < length records). if_here P records i (get_or records i nobody) lt (itself records i lt) (each i lt))
    (λ (past : length records ≤ i). past_end P records i past)
    (cases_lt i (length records))

-- ---- the dues lie within the history

due_after-le : (due : ℕ) (snapshot : Option ℕ) (t : ℕ) (deed : Deed) → due_after due snapshot t deed ≤ max due (t + span_of deed)
due_after-le due snapshot t (Put key written) = omega arith
due_after-le due snapshot t (Remove key) = omega arith
due_after-le due snapshot t (Rmw key old Keep) = omega arith
due_after-le due snapshot t (Rmw key old (Set written)) = omega arith
due_after-le due snapshot t (Rmw key old Erase) = omega arith
due_after-le due snapshot t (Group members) = omega arith
due_after-le due snapshot t (Get key reply) = omega arith
due_after-le due snapshot t Snapshot = omega arith
due_after-le due snapshot t Close = omega arith
due_after-le due snapshot t (GetAt key reply) = omega arith
due_after-le due None t (Scan lo hi rows) = omega arith
due_after-le due (Some s) t (Scan lo hi rows) = omega arith
due_after-le due None t (Page range rows more) = omega arith
due_after-le due (Some s) t (Page range rows more) = omega arith

last_due-le : (due : ℕ) (snapshot : Option ℕ) (calls : List CallRecord) → last_due due snapshot calls ≤ max due (end_by calls)
last_due-le due snapshot [] = omega arith
last_due-le due snapshot (r ∷ rs) =
    let next : due_after due snapshot r.time r.deed ≤ max due (time_past r) = due_after-le due snapshot r.time r.deed in
    let rest = last_due-le (due_after due snapshot r.time r.deed) (open_after snapshot r.time r.deed) rs in
    omega arith

end_by-calls : (records : List CallRecord) (seat : ℕ) → end_by (calls_of records seat) ≤ end_by records
end_by-calls [] seat = omega arith
end_by-calls (r ∷ rs) seat =
    let rest = end_by-calls rs seat in
    elim (r.seat == seat) as (λ (b : Bool). end_by (cond b (r ∷ calls_of rs seat) (calls_of rs seat)) ≤ max (time_past r) (end_by rs)) [
      | true ↦ omega arith
      | false ↦ omega arith
    ]

due_within : (records : List CallRecord) (seat : ℕ) → due_of records seat ≤ end_of (history_of records)
due_within records seat =
    let a = last_due-le 0 None (calls_of records seat) in
    let b = end_by-calls records seat in
    let l = length-history_of records in
    omega arith

-- ---- each write stands in the history, and each of the history is one of them

stands : (records : List CallRecord) → HasNone (IsSecondAt records) → (seat i : ℕ) → i < length records → (get_or records i nobody).seat ≡ seat
    → IsRecordIn (history_of records).slots seat (get_or records i nobody)
stands records alone seat i within own = (own, λ t inside. by t (write_at seat (get_or records i nobody).time (get_or records i nobody).deed t) refl) where
  by : (t : ℕ) (o : Option Slot) → write_at seat (get_or records i nobody).time (get_or records i nobody).deed t ≡ o
      → StandsAs o (Some (slot_at (history_of records) t))
  by t None reads = tt
  by t (Some w) writes = ap Some (slot_written records alone i t w within
      (ap (λ (n : ℕ). write_at n (get_or records i nobody).time (get_or records i nobody).deed t) own ∙ writes))

-- a write bears the number of its seat
own_seat : (r : CallRecord) (t seat key : ℕ) (written : Option (List ℕ)) → write_of r t ≡ Some (Wrote seat key written) → r.seat ≡ seat
own_seat r t seat key written writes = let by = is_by_seat r t (Wrote seat key written) writes in let same = by.2 in cc same

-- what a time came to, where it is a write, is the write of a record
written_by : (records : List CallRecord) (t : ℕ) (seat key : ℕ) (written : Option (List ℕ)) → slot_by records t ≡ Wrote seat key written → (j : ℕ)
    × IsSomeAnd (slice_get records j) (λ r. write_of r t ≡ Some (Wrote seat key written))
written_by [] t seat key written e = cc e
written_by (r ∷ rs) t seat key written e =
    elim (write_of r t) as (λ (o : Option Slot). write_of r t ≡ o → unwrap_or o (slot_by rs t) ≡ Wrote seat key written → (j : ℕ)
    × IsSomeAnd (slice_get (r ∷ rs) j) (λ q. write_of q t ≡ Some (Wrote seat key written))) [
      | Some w ↦ λ writes is. (zero, writes ∙ ap Some is)
      | None ↦ λ reads is. let rest = written_by rs t seat key written is in (suc rest.0, rest.1)
    ] refl e

-- ---- filters that one record passes

skip-one : (q : CallRecord → Bool) (x : CallRecord) (ys : List CallRecord) → (q x ≡ true → ⊥) → filter q (x ∷ ys) ≡ filter q ys
skip-one q x ys fails = elim (q x) as (λ (b : Bool). q x ≡ b → cond b (x ∷ filter q ys) (filter q ys) ≡ filter q ys) [
  | true ↦ λ e. absurd (fails e)
  | false ↦ λ e. refl
] refl

skip : (p q : CallRecord → Bool) (x : CallRecord) (xs : List CallRecord) → (p x ≡ true → q x ≡ true → ⊥) → filter q (filter p (x ∷ xs)) ≡ filter q (filter p xs)
skip p q x xs fails = elim (p x) as (λ (b : Bool). p x ≡ b → filter q (cond b (x ∷ filter p xs) (filter p xs)) ≡ filter q (filter p xs)) [
  | true ↦
      λ e. skip-one q x (filter p xs) (fails e)
  | false ↦ λ e. refl
] refl

pub keep : (p q : CallRecord → Bool) (x : CallRecord) (xs : List CallRecord) → p x ≡ true → q x ≡ true → filter q (filter p (x ∷ xs))
    ≡ x ∷ filter q (filter p xs)
keep p q x xs e f = ap (λ (b : Bool). filter q (cond b (x ∷ filter p xs) (filter p xs))) e
    ∙ ap (λ (b : Bool). cond b (x ∷ filter q (filter p xs)) (filter q (filter p xs))) f

none_pass : (p q : CallRecord → Bool) (xs : List CallRecord) → ((k : ℕ) → k < length xs → p (get_or xs k nobody) ≡ true → q (get_or xs k nobody) ≡ true → ⊥)
    → filter q (filter p xs) ≡ []
none_pass p q [] none = refl
none_pass p q (x ∷ xs) none = skip p q x xs (none zero (omega arith)) ∙ none_pass p q xs (λ k lt. none (suc k) (omega arith))

one_passes : (p q : CallRecord → Bool) (xs : List CallRecord) (j : ℕ) → j < length xs → p (get_or xs j nobody) ≡ true → q (get_or xs j nobody) ≡ true
    → ((k : ℕ) → k < length xs → k ≢ j → p (get_or xs k nobody) ≡ true → q (get_or xs k nobody) ≡ true → ⊥) → filter q (filter p xs) ≡ get_or xs j nobody ∷ []
one_passes p q [] j within e f others = absurd (omega arith)
one_passes p q (x ∷ xs) zero within e f others = keep p q x xs e f ∙ ap (λ (rest : List CallRecord). x ∷ rest)
    (none_pass p q xs (λ k lt. others (suc k) (omega arith) (λ h. omega arith)))
one_passes p q (x ∷ xs) (suc j) within e f others = skip p q x xs (others zero (omega arith) (λ h. omega arith))
    ∙ one_passes p q xs j (omega arith) e f (λ k lt ne. others (suc k) (omega arith) (λ h. ne (omega arith)))

module _ (records : List CallRecord) (alone : HasNone (IsSecondAt records)) where
  -- two records that write at one time are the same one
  writes_once : (j k t : ℕ) → j < length records → k < length records → k ≢ j → WritesAt t (get_or records j nobody) → WritesAt t (get_or records k nobody) → ⊥
  writes_once j k t within within' ne writes writes' =
      ⊎_elim
      (λ (lt : j < k). two_writes records alone j k t (get_or records j nobody) (get_or records k nobody) lt within within' (itself records j within)
      (itself records k within') writes writes')
      (λ (le : k ≤ j). two_writes records alone k j t (get_or records k nobody) (get_or records j nobody) (omega arith) within' within
      (itself records k within') (itself records j within) writes' writes)
      (cases_lt j k)

  has_each : (seat : ℕ) → HasEachWrite (history_of records).slots seat (calls_of records seat)
  has_each seat t key written inside is =
      let found = written_by records t seat key written (sym (slot_at-history_of records t) ∙ is) in
      let j = found.0 in
      let r = get_or records j nobody in
      let within : j < length records = some_within (λ q. write_of q t ≡ Some (Wrote seat key written)) records j found.1 in
      let here : write_of r t ≡ Some (Wrote seat key written) = (at_index (λ q. write_of q t ≡ Some (Wrote seat key written)) records j r within
      (itself records j within)).1 found.1 in
      let own : r.seat ≡ seat = own_seat r t seat key written here in
      let write : write_at seat r.time r.deed t ≡ Some (Wrote seat key written) = ap (λ (n : ℕ). write_at n r.time r.deed t) (sym own) ∙ here in (
        r,
        one_passes (λ q. q.seat == seat) (λ q. is_some (write_at seat q.time q.deed t)) records j within (eq-eqb r.seat seat own) (ap is_some write)
            (λ k lt ne mine writes.
            let q = get_or records k nobody in
            writes_once j k t within lt ne (ap is_some here) (ap (λ (n : ℕ). is_some (write_at n q.time q.deed t)) (eqb-true q.seat seat mine) ∙ writes)),
        write,
      )

-- ---- each seat's times rise

is_next : (due : ℕ) (snapshot : Option ℕ) (t : ℕ) (deed : Deed) → IsAtSnapshot snapshot t deed → IsFromDue due snapshot t deed → IsNext due snapshot t deed
is_next due snapshot t (Put key written) at from = from
is_next due snapshot t (Remove key) at from = from
is_next due snapshot t (Rmw key old change) at from = from
is_next due snapshot t (Group members) at from = from
is_next due snapshot t (Get key reply) at from = from
is_next due snapshot t Snapshot at from = (at, from)
is_next due snapshot t Close at from = at
is_next due snapshot t (GetAt key reply) at from = at
is_next due None t (Scan lo hi rows) at from = from
is_next due (Some s) t (Scan lo hi rows) at from = at
is_next due None t (Page range rows more) at from = from
is_next due (Some s) t (Page range rows more) at from = at

-- with one record more, which may come next after the calls of its own seat
rises_more : (before : List CallRecord) (r : CallRecord) (seat : ℕ) → IsNext (due_of before r.seat) (open_of before r.seat) r.time r.deed
    → Rises 0 None (calls_of before seat) → Rises 0 None (calls_of (before ++ r ∷ []) seat)
rises_more before r seat next rises =
    ⊎_elim
    (λ (own : r.seat ≡ seat). subst (λ (calls : List CallRecord). Rises 0 None calls) (sym (calls_of-own before r) ∙ ap (calls_of (before ++ r ∷ [])) own)
    (rises_append 0 None (calls_of before r.seat) r (subst (λ (n : ℕ). Rises 0 None (calls_of before n)) (sym own) rises) next))
    (λ (other : r.seat ≢ seat). subst (λ (calls : List CallRecord). Rises 0 None calls) (sym (calls_of-other before r seat other)) rises)
    (cases_eq r.seat seat)

rises_to : (records : List CallRecord) (seat n : ℕ) → ((i : ℕ) → i < length records → let r = get_or records i nobody in
    IsNext (due_of (take i records) r.seat) (open_of (take i records) r.seat) r.time r.deed) → n ≤ length records
    → Rises 0 None (calls_of (take n records) seat)
rises_to records seat zero next le = tt
rises_to records seat (suc n) next le =
    let r = get_or records n nobody in
    let lt : n < length records = omega arith in
    subst (λ (before : List CallRecord). Rises 0 None (calls_of before seat))
    (taken_more records n r lt (itself records n lt) ∙ ap (λ (m : ℕ). take m records) (add-one n))
    (rises_more (take n records) r seat (next n lt) (rises_to records seat n next (omega arith)))

-- ---- all of it

module _ (config : Config) (records : List CallRecord) (passes : Passes config records) where
  known_here : (i : ℕ) → i < length records → IsKnown config (open_of (take i records) (get_or records i nobody).seat) (get_or records i nobody)
  known_here i within = here_if (λ q. IsKnown config (open_of (take i records) q.seat) q) records i (get_or records i nobody) within
      (itself records i within) (passes.known i)

  next_here : (i : ℕ) → i < length records → let r = get_or records i nobody in
      IsNext (due_of (take i records) r.seat) (open_of (take i records) r.seat) r.time r.deed
  next_here i within =
      let r = get_or records i nobody in
      is_next (due_of (take i records) r.seat) (open_of (take i records) r.seat) r.time r.deed (known_here i within).snapshot_use
      (here_if (λ q. IsFromDue (due_of (take i records) q.seat) (open_of (take i records) q.seat) q.time q.deed) records i r within
      (itself records i within) (passes.from_due i))

  -- what holds of each record of the seat holds of each of its calls
  each_of : (P : CallRecord → Type 0) (seat : ℕ) → ((i : ℕ) → i < length records → (get_or records i nobody).seat ≡ seat → P (get_or records i nobody))
      → AllByRecursion P (calls_of records seat)
  each_of P seat holds = each_call P records seat (each_record (λ r. r.seat ≡ seat → P r) records holds)

  pub calls_in : (seat : ℕ) → AreCallsIn (history_of records) seat (calls_of records seat) (due_of records seat) (open_of records seat)
  calls_in seat = record {
    reached = due_within records seat;
    stand = each_of (IsRecordIn (history_of records).slots seat) seat (λ i within own. stands records passes.alone seat i within own);
    each = has_each records passes.alone seat;
    listed = each_of (IsListedRecord (history_of records).batches) seat (λ i within own. listed_at records i within);
    right = each_of (IsRightRecord (history_of records)) seat (λ i within own.
        here_if (IsRightRecord (history_of records)) records i (get_or records i nobody) within (itself records i within) (passes.right i));
    rising = record {
      rises = subst (λ (rs : List CallRecord). Rises 0 None (calls_of rs seat)) (take_all (length records) records (omega arith))
          (rises_to records seat (length records) next_here (omega arith));
      due_is = omega arith;
      open_is = refl;
    };
  }

  -- the batches do not overlap
  pub batches_apart : AllPairs AreApart (batches_of records)
  batches_apart = apart_from records (λ i within. (known_here i within).in_range.times.writes) (λ i j t lt within writes writes'.
      two_writes records passes.alone i j t (get_or records i nobody) (get_or records j nobody) lt (omega arith) within (itself records i (omega arith))
      (itself records j within) writes writes')

  -- so they have a history
  pub has_history : HasHistory config records
  has_history = record {
    in_range = each_record (IsInRange config) records (λ i within. (known_here i within).in_range);
    history = history_of records;
    parts = λ seat. record { due = due_of records seat; snapshot = open_of records seat; calls_in = calls_in seat };
  }
