-- Records that have a history have no fault.
use Rattle.std.proofs.Common.{◌≡◌, ℕ, ◌^◌, ◌<◌, ◌≤◌, ◌==◌, Bool, List, [], length, get_or, take, Option, Some, IfSome, is_some, MatchBool, refl, sym, ap}
use Rattle.std.proofs.Common.{◌∙◌, subst, arith, ⊎_elim}
use Rattle.std.proofs.lemmas.Bool.{cases_lt, eq-eqb, eqb-true}
use Rattle.std.proofs.lemmas.List.{get_or_past}
use Rattle.std.specs.List.{slice_get}
use Rattle.std.specs.Option.{IsSomeAnd}
use Rattle.clsm_model.specs.declared.config.Config.{Config}
use Rattle.clsm_model.specs.declared.record.CallRecord.{CallRecord}
use Rattle.clsm_model.specs.declared.record.Deed.{Deed}
use Rattle.clsm_model.specs.declared.record.Deed.TheVariants.{Put, Remove, Batch as Group}
use Rattle.clsm_model.specs.declared.slot.Slot.{Slot}
use Rattle.clsm_model.specs.declared.slot.Slot.TheVariants.{Nothing, Wrote}
use Rattle.clsm_model.specs.History.{History, IsUncut, end_of, slot_at}
use Rattle.clsm_model.specs.Right.{write_at}
use Rattle.clsm_model.specs.Seats.{AreCallsIn, IsListedRecord, IsNext, IsRecordIn, IsRightDeed, IsRightRecord, StandsAs, writes_at}
use Rattle.clsm_model.proofs.Histories.{Reads-same}
use Rattle.clsm_audit.specs.Faults.{HasNone, IsLawful, IsSecondAt}
use Rattle.clsm_audit.specs.Lawful.{FitsRegion, HasWrites, IsAtSnapshot, IsFromDue, IsFromDueAt, IsInRange, IsKnown, IsKnownAt, IsRightAt, calls_of, due_of}
use Rattle.clsm_audit.specs.Lawful.{open_of}
use Rattle.clsm_audit.specs.Whole.{HasHistory, IsPartOf}
use Rattle.clsm_audit.specs.Written.{IsWrittenBefore, WritesAt, history_of, time_past, write_of}
use Rattle.clsm_audit.proofs.Batches.{outside_record, uncut_from}
use Rattle.clsm_audit.proofs.Indices.{here_if, if_here, itself, nobody, past_end}
use Rattle.clsm_audit.proofs.Parts.{IsTimeBelow, comes_next, is_below, next_suits, of_each_call}
use Rattle.clsm_audit.proofs.Passing.{found_in, two_in}
use Rattle.clsm_audit.proofs.Seconds.{at_index, here_second, some_within}
use Rattle.clsm_audit.proofs.Slots.{slot_at-none, slot_written, time_within}
use Rattle.clsm_audit.proofs.Times.{is_by_seat, some_is, writes_within}

module _ (config : Config) (records : List CallRecord) (has : HasHistory config records) where
  -- the record at the index
  abbrev at : ℕ → CallRecord
  at i = get_or records i nobody

  part : (seat : ℕ) → AreCallsIn has.history seat (calls_of records seat) (has.parts seat).due (has.parts seat).snapshot
  part seat = (has.parts seat).calls_in

  each_at : (P : CallRecord → Type 0) (i : ℕ) → (i < length records → P (at i)) → IfSome (slice_get records i) P
  each_at P i holds = ⊎_elim (λ (lt : i < length records). if_here P records i (at i) lt (itself records i lt) (holds lt))
      (λ (past : length records ≤ i). past_end P records i past) (cases_lt i (length records))

  -- ---- ranges and dues

  in_range : (i : ℕ) → i < length records → IsInRange config (at i)
  in_range i within = here_if (IsInRange config) records i (at i) within (itself records i within) (has.in_range i)

  next : (i : ℕ) → i < length records → IsNext (due_of (take i records) (at i).seat) (open_of (take i records) (at i).seat) (at i).time (at i).deed
  next i within = comes_next records i (at i).seat within refl (part (at i).seat).rising.rises

  suits : (i : ℕ) → i < length records → IsAtSnapshot (open_of (take i records) (at i).seat) (at i).time (at i).deed
      × IsFromDue (due_of (take i records) (at i).seat) (open_of (take i records) (at i).seat) (at i).time (at i).deed
  suits i within = next_suits (due_of (take i records) (at i).seat) (open_of (take i records) (at i).seat) (at i).time (at i).deed (next i within)

  pub known : (i : ℕ) → IsKnownAt config records i
  known i = each_at (λ q. IsKnown config (open_of (take i records) q.seat) q) i (λ within. record {
    in_range = in_range i within;
    snapshot_use = (suits i within).0;
  })

  pub in_order : (i : ℕ) → IsFromDueAt records i
  in_order i = each_at (λ q. IsFromDue (due_of (take i records) q.seat) (open_of (take i records) q.seat) q.time q.deed) i (λ within.
      (suits i within).1)

  -- ---- writes

  within_history : (i : ℕ) → i < length records → IsTimeBelow (end_of has.history) (at i)
  within_history i within =
      let p = part (at i).seat in
      is_below (end_of has.history) records i (at i).seat within refl p.rising.rises (let due = p.rising.due_is in let reached = p.reached in omega arith)

  -- a time at which a record writes is one of the history
  inside_history : (i t : ℕ) → i < length records → WritesAt t (at i) → t < end_of has.history
  inside_history i t within writes =
      let is = writes_within (at i) t writes in
      let past : time_past (at i) ≤ end_of has.history =
      subst (λ (b : Bool). MatchBool b (time_past (at i) ≤ end_of has.history) ((at i).time ≤ end_of has.history)) is.0 (within_history i within) in
      omega (arith, is.2)

  -- each write stands at its time
  stands : (i t : ℕ) (w : Slot) → i < length records → write_of (at i) t ≡ Some w → slot_at has.history t ≡ w
  stands i t w within writes =
      let seat = (at i).seat in
      let inside = inside_history i t within (ap is_some writes) in
      let stood = (of_each_call (IsRecordIn has.history.slots seat) records i seat within refl (part seat).stand).1 t inside in
      let is = subst (λ (o : Option Slot). StandsAs o (Some (slot_at has.history t))) writes stood in
      let same : slot_at has.history t ≡ w = cc is in same

  -- the record at the index writes at the time
  writes_here : (j t : ℕ) → IsSomeAnd (slice_get records j) (WritesAt t) → (j < length records) × WritesAt t (at j)
  writes_here j t writes =
      let within = some_within (WritesAt t) records j writes in
      (within, (at_index (WritesAt t) records j (at j) within (itself records j within)).1 writes)

  -- no two write at one time
  alone_at : (j i t : ℕ) → j < i → i < length records → (v w : Slot) → write_of (at j) t ≡ Some v → write_of (at i) t ≡ Some w → ⊥
  alone_at j i t lt within v w writes writes' =
      let n = (at i).seat in
      let first : slot_at has.history t ≡ v = stands j t v (omega arith) writes in
      let second : slot_at has.history t ≡ w = stands i t w within writes' in
      let by = is_by_seat (at j) t v writes in
      let by' = is_by_seat (at i) t w writes' in
      let own : (at j).seat ≡ n = let e : Wrote (at j).seat by.0 by.1 ≡ Wrote n by'.0 by'.1 = sym by.2 ∙ sym first ∙ second ∙ by'.2 in cc e in
      let one = (part n).each t by'.0 by'.1 (inside_history i t within (ap is_some writes')) (second ∙ by'.2) in
      let writes_there : write_at n (at j).time (at j).deed t ≡ Some v = ap (λ (m : ℕ). write_at m (at j).time (at j).deed t) (sym own) ∙ writes in
      let two = two_in (λ q. q.seat == n) (λ q. is_some (write_at n q.time q.deed t)) records j i lt within (eq-eqb (at j).seat n own)
      (ap is_some writes_there) (eq-eqb n n refl) (ap is_some writes') in
      let count : length (writes_at n t (calls_of records n)) ≡ 1 = ap length one.1 in
      omega arith

  pub alone : HasNone (IsSecondAt records)
  alone i second =
      let within = some_within (λ q. (t : ℕ) × WritesAt t q × IsWrittenBefore records i t) records i second in
      let here = here_second records i (at i) within (itself records i within) second in
      let t = here.0 in
      let earlier = here.2 in
      let there = writes_here earlier.0 t earlier.2 in
      let v = some_is (write_of (at earlier.0) t) there.1 in
      let w = some_is (write_of (at i) t) here.1 in
      alone_at earlier.0 i t earlier.1 within v.0 w.0 v.1 w.1

  -- ---- readings

  same_slot : (t : ℕ) → slot_at (history_of records) t ≡ slot_at has.history t
  same_slot t = by (slot_at has.history t) refl where
    by : (slot : Slot) → slot_at has.history t ≡ slot → slot_at (history_of records) t ≡ slot
    by Nothing e = slot_at-none records t (λ j writes.
        let there = writes_here j t writes in
        let w = some_is (write_of (at j) t) there.1 in
        let stood = stands j t w.0 there.0 w.1 in
        let wrote = is_by_seat (at j) t w.0 w.1 in
        let clash : Nothing ≡ Wrote (at j).seat wrote.0 wrote.1 = sym e ∙ stood ∙ wrote.2 in
        absurd (cc clash))
    by (Wrote n key written) e =
        ⊎_elim
        (λ (inside : t < end_of has.history).
        let one = (part n).each t key written inside e in
        let found = found_in (λ q. q.seat == n) (λ q. is_some (write_at n q.time q.deed t)) records one.0 [] one.1 in
        let own : one.0.seat ≡ n = eqb-true one.0.seat n found.first in
        let writes : write_of (at found.index) t ≡ Some (Wrote n key written) = ap (λ (r : CallRecord). write_of r t) found.is
        ∙ ap (λ (m : ℕ). write_at m one.0.time one.0.deed t) own ∙ one.2 in
        slot_written records alone found.index t (Wrote n key written) found.within writes)
        (λ (past : end_of has.history ≤ t).
        let clash : Nothing ≡ Wrote n key written = sym (get_or_past has.history.slots t Nothing past) ∙ e in
        absurd (cc clash))
        (cases_lt t (end_of has.history))

  -- a time inside no batch of the history is inside no batch of the records
  uncut : (s : ℕ) → IsUncut has.history.batches s → IsUncut (history_of records).batches s
  uncut s is = uncut_from records s (λ i within.
      outside_record has.history.batches s (at i) is (of_each_call (IsListedRecord has.history.batches) records i (at i).seat within refl
      (part (at i).seat).listed))

  same_deed : (s : ℕ) (deed : Deed) → s ≤ end_of (history_of records) → IsRightDeed has.history s deed → IsRightDeed (history_of records) s deed
  same_deed s (Put key written) reached right = tt
  same_deed s (Remove key) reached right = tt
  same_deed s (Group members) reached right = tt
  same_deed s deed reached right = record {
    readable = record { reached = reached; uncut = uncut s right.readable.uncut };
    reads = Reads-same has.history (history_of records) s deed (λ t lt. same_slot t) right.reads;
  }

  pub right : (i : ℕ) → IsRightAt records i
  right i = each_at (IsRightRecord (history_of records)) i (λ within.
      same_deed (at i).time (at i).deed (time_within records i within)
      (of_each_call (IsRightRecord has.history) records i (at i).seat within refl (part (at i).seat).right))

  -- ---- all of it

  pub is_lawful : IsLawful config records
  is_lawful = record {
    known = λ i fault. fault (known i);
    alone = alone;
    rises = λ i fault. fault (in_order i);
    right = λ i fault. fault (right i);
  }

-- the seat is in its range, and so is the batch, if the record is one
pub record IsSeated (config : Config) (r : CallRecord) : Type 0 where
  pub seat : r.seat < config.seats
  pub size : FitsRegion config r.deed
  pub writes : HasWrites r.deed

-- parts whose dues do not pass 2^62 have times in their ranges
pub with_dues : (config : Config) (records : List CallRecord) (h : History) → ((i : ℕ) → IfSome (slice_get records i) (IsSeated config))
    → ((seat : ℕ) → (part : IsPartOf h seat (calls_of records seat)) × (part.due ≤ 2 ^ 62)) → HasHistory config records
with_dues config records h seated parts = record {
  in_range = λ i. ⊎_elim
      (λ (within : i < length records).
      let r = get_or records i nobody in
      let part = parts r.seat in
      let here = here_if (IsSeated config) records i r within (itself records i within) (seated i) in
      if_here (IsInRange config) records i r within (itself records i within) (record {
        seat = here.seat;
        size = here.size;
        times = record {
          time = is_below (2 ^ 62) records i r.seat within refl part.0.calls_in.rising.rises
              (let due = part.0.calls_in.rising.due_is in let end = part.1 in omega arith);
          writes = here.writes;
        };
      }))
      (λ (past : length records ≤ i). past_end (IsInRange config) records i past)
      (cases_lt i (length records));
  history = h;
  parts = λ seat. (parts seat).0;
}
