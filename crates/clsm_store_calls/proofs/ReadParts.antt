-- A read from its pin to its unpin.
use Rattle.std.proofs.Common.{◌≡◌, ℕ, ◌+◌, ◌*◌, ◌≤◌, true, false, refl, ◌++◌, ◌∷◌, [], List, length, ap, subst, sym, ◌∙◌, arith, append-nil, cond}
use Rattle.std.proofs.Common.{Option, Some, None, is_some, Result, Ok, Err, IfErr, true≢false}
use Rattle.clsm_model.specs.History.{History, IsBeginning, or_else, plain}
use Rattle.clsm_model.specs.declared.record.Deed.{Deed}
use Rattle.clsm_model.specs.declared.record.Deed.TheVariants.{Get}
use Rattle.clsm_model.specs.Map.{Pair}
use Rattle.clsm_model.specs.Right.{IsRight, Reads}
use Rattle.clsm_model.specs.declared.record.CallRecord.{CallRecord}
use Rattle.clsm_model.specs.declared.slot.Slot.{Slot}
use Rattle.clsm_law.specs.declared.step.End.{End}
use Rattle.clsm_law.specs.declared.step.End.TheVariants.{Meeting, Neither, Recorded}
use Rattle.clsm_law.specs.declared.layout.Layout.{Layout}
use Rattle.clsm_law.specs.declared.view.View.{View}
use Rattle.clsm_law.specs.Views.{or_zero}
use Rattle.clsm_law.specs.declared.step.Step.TheVariants.{Unpin}
use Rattle.clsm_law.specs.declared.view.SnapshotState.{SnapshotState}
use Rattle.clsm_law.specs.declared.view.SnapshotState.TheVariants.{Absent, Noted, Open, Timed}
use Rattle.clsm_law.specs.OpenSteps.{IsEndingWith, IsRightAt, open_time, time_of_read}
use Rattle.clsm_law.specs.Relation.{call_of, ended_calls, ended_due, ended_snapshot}
use Rattle.clsm_words.specs.declared.known.Known.{Known}
use Rattle.clsm_words.specs.Knowing.{known_of, told_of}
use Rattle.clsm_words.specs.declared.words.WordTable.{WordTable}
use Rattle.clsm_words.specs.Keeping.{Looks, OnlyReads}
use Rattle.clsm_words.specs.Plays.{IsSeatOf, MayPlay}
use Rattle.clsm_words.specs.Seats.{RawState}
use Rattle.clsm_model.proofs.Batches.{begins_trans}
use Rattle.clsm_pins.specs.Pinning.{Pins, Unpins}
use Rattle.clsm_store_calls.specs.Meeting.{MeetsAt}
use Rattle.clsm_store_calls.specs.Reading.{BeginsRead, MayReadBelow, ReadsAt}
use Rattle.clsm_store_calls.specs.Resting.{GoesOn, IsAtRest, IsSettled}
use Rattle.clsm_store_calls.specs.Scanning.{GivesUpRead, rows_deed}
use Rattle.clsm_store_calls.specs.Snapshots.{ReadsUnder}
use Rattle.clsm_store_calls.specs.Tally.{Tally, TakesNoLock, counted, tally_of}
use Rattle.clsm_store_calls.proofs.Rest.{same_past, stays_open}

-- what holds whatever the refusal is
pub if_err : {A E G : Type 0} (r : Result A E) → G → IfErr r (λ (e : E). G)
if_err (Ok x) h = tt
if_err (Err e) h = h

-- the record of collected rows, at a time that was noted
rows_calls : (i t : ℕ) (v : View) (most : Option ℕ) (lo hi : ℕ) (rows : List Pair) (more : Option ℕ) → or_else (open_time v.snapshot) v.pin_clock ≡ Some t
    → ended_calls i v (Recorded (rows_deed most lo hi rows more)) ≡ call_of i t (rows_deed most lo hi rows more) ∷ []
rows_calls i t v None lo hi rows more noted = ap (λ (o : Option ℕ). call_of i (or_zero o) (rows_deed None lo hi rows more) ∷ []) noted
rows_calls i t v (Some most) lo hi rows more noted = ap (λ (o : Option ℕ). call_of i (or_zero o) (rows_deed (Some most) lo hi rows more) ∷ []) noted

-- and the due behind it
rows_due : (v : View) (most : Option ℕ) (lo hi : ℕ) (rows : List Pair) (more : Option ℕ)
    → ended_due v (Recorded (rows_deed most lo hi rows more))
    ≡ cond (is_some (open_time v.snapshot)) v.due (or_zero (or_else (open_time v.snapshot) v.pin_clock))
rows_due v None lo hi rows more = refl
rows_due v (Some most) lo hi rows more = refl

-- and it may be made, where it is right
rows_right : (h : History) (v : View) (t : ℕ) (most : Option ℕ) (lo hi : ℕ) (rows : List Pair) (more : Option ℕ)
    → or_else (open_time v.snapshot) v.pin_clock ≡ Some t
    → (is_some (open_time v.snapshot) ≡ false → v.due ≤ t) → IsRight h t (rows_deed most lo hi rows more)
    → IsRightAt h v (rows_deed most lo hi rows more) (time_of_read v (rows_deed most lo hi rows more))
rows_right h v t None lo hi rows more noted due right = subst (IsRightAt h v (rows_deed None lo hi rows more)) (sym noted) (due, right)
rows_right h v t (Some most) lo hi rows more noted due right = subst (IsRightAt h v (rows_deed (Some most) lo hi rows more)) (sym noted) (due, right)

rows_end : (h : History) (v : View) (most : Option ℕ) (lo hi : ℕ) (rows : List Pair) (more : Option ℕ) (s : SnapshotState) → IsSettled s
    → IsRightAt h v (rows_deed most lo hi rows more) (time_of_read v (rows_deed most lo hi rows more))
    → IsEndingWith h v s (Recorded (rows_deed most lo hi rows more))
rows_end h v None lo hi rows more Absent settled right = right
rows_end h v None lo hi rows more (Open noted time) settled right = right
rows_end h v (Some most) lo hi rows more Absent settled right = right
rows_end h v (Some most) lo hi rows more (Open noted time) settled right = right
rows_end h v most lo hi rows more (Noted noted) settled right = absurd settled
rows_end h v most lo hi rows more (Timed noted time) settled right = absurd settled

pub rows_may_end : (words : WordTable) (seat : RawState) (t : ℕ) (most : Option ℕ) (lo hi : ℕ) (rows : List Pair) (more : Option ℕ) → IsSeatOf words seat
    → seat.knows.view.pinned ≡ true → IsSettled seat.knows.view.snapshot
    → or_else (open_time seat.knows.view.snapshot) seat.knows.view.pin_clock ≡ Some t
    → (is_some (open_time seat.knows.view.snapshot) ≡ false → seat.knows.view.due ≤ t) → t ≤ length seat.knows.past
    → Reads (plain seat.knows.past) t (rows_deed most lo hi rows more) → MayPlay words seat (Unpin (Recorded (rows_deed most lo hi rows more)))
rows_may_end words seat t most lo hi rows more of pinned settled noted due reached reads =
    let v = seat.knows.view in
    let h = plain seat.knows.past in (
      of,
      (
        pinned,
        rows_end h v most lo hi rows more v.snapshot settled
            (rows_right h v t most lo hi rows more noted due (record { readable = record { reached = reached; uncut = tt }; reads = reads })),
      ),
    )

-- a read that began, and settled what is below its time
pub begun : (a b c : Known) (component t : ℕ) → BeginsRead a b component t → OnlyReads b c → BeginsRead a c component t
begun a b c component t begins reads =
    let layout = reads.seat.layout in
    record {
      goes_on = record {
        number = reads.seat.number ∙ begins.goes_on.number;
        layout = layout ∙ begins.goes_on.layout;
        past = begins_trans (known_of a) (known_of b) (known_of c) begins.goes_on.past reads.seat.past;
        snapshot = ap (λ (v : View). v.snapshot) reads.view ∙ begins.goes_on.snapshot;
      };
      free = ap (λ (v : View). v.mode) reads.view ∙ begins.free;
      unlooked = ap (λ (v : View). v.fresh_lock) reads.view ∙ begins.unlooked;
      undrawn = ap (λ (v : View). v.drawn) reads.view ∙ begins.undrawn;
      pinned = ap (λ (v : View). v.pinned) reads.view ∙ begins.pinned;
      pin = ap (λ (v : View). v.pin) reads.view ∙ begins.pin;
      calls = ap (λ (v : View). v.calls) reads.view ∙ begins.calls;
      due = ap (λ (v : View). v.due) reads.view ∙ begins.due;
      held = ap (λ (v : View). v.held) reads.view ∙ begins.held;
      clock = ap (λ (v : View). v.clock) reads.view ∙ begins.clock;
      pin_clock = ap (λ (v : View). v.pin_clock) reads.view ∙ begins.pin_clock;
      reached = let least = subst (λ (z : Layout). component * z.cells ≤ b.view.reached) (sym layout) begins.reached in
          let more = reads.reached in omega arith;
      above = begins.above;
      told = reads.seat.told ∙ begins.told;
      told_batches = reads.seat.told_batches ∙ begins.told_batches;
      told_below = begins.told_below;
      heard_below = begins.heard_below;
      from = subst (λ (z : Layout). component * z.cells ≤ t) (sym layout) begins.from;
      within = subst (λ (z : Layout). t ≤ (component + 2) * z.cells) (sym layout) begins.within;
      unlocked = ap (λ (v : View). record (counted v) { cancelled = c.view.cancelled }) reads.view
          ∙ ap (λ (y : Tally). record y { cancelled = c.view.cancelled }) begins.unlocked;
    }

-- so a read ends that began at the time, where no snapshot is open
pub may_end_at : (words : WordTable) (a c : Known) (d : RawState) (component t : ℕ) → IsAtRest a → BeginsRead a c component t → t ≤ length c.past
    → Looks c d.knows → IsSeatOf words d → open_time a.view.snapshot ≡ None → (most : Option ℕ) (lo hi : ℕ) (rows : List Pair) (more : Option ℕ)
    → Reads (plain c.past) t (rows_deed most lo hi rows more) → MayPlay words d (Unpin (Recorded (rows_deed most lo hi rows more)))
may_end_at words a c d component t rests begins settled looks of none most lo hi rows more reads =
    let kept : d.knows.view.snapshot ≡ a.view.snapshot = ap (λ (v : View). v.snapshot) looks.reads.view ∙ begins.goes_on.snapshot in
    let due : d.knows.view.due ≡ a.view.due = ap (λ (v : View). v.due) looks.reads.view ∙ begins.due in
    let long = ap (λ (l : List Slot). length l) looks.past in
    rows_may_end words d t most lo hi rows more of (ap (λ (v : View). v.pinned) looks.reads.view ∙ begins.pinned) (subst IsSettled (sym kept) rests.settled)
    (ap (λ (o : Option ℕ). or_else o d.knows.view.pin_clock) (ap open_time kept ∙ none) ∙ ap (λ (v : View). v.pin_clock) looks.reads.view ∙ begins.pin_clock)
    (λ closed. let above = begins.above in omega arith) (omega arith)
    (subst (λ (l : List Slot). Reads (plain l) t (rows_deed most lo hi rows more)) (sym looks.past) reads)

-- and so does one under the open snapshot
pub may_end_under : (words : WordTable) (a c : Known) (d : RawState) (component until t : ℕ) → IsAtRest a → Pins a c component → MayReadBelow c component until
    → until ≡ t → Looks c d.knows → IsSeatOf words d → open_time a.view.snapshot ≡ Some t
    → (most : Option ℕ) (lo hi : ℕ) (rows : List Pair) (more : Option ℕ) → Reads (plain c.past) until (rows_deed most lo hi rows more)
    → MayPlay words d (Unpin (Recorded (rows_deed most lo hi rows more)))
may_end_under words a c d component until t rests pins may at looks of opened most lo hi rows more reads =
    let kept : d.knows.view.snapshot ≡ a.view.snapshot = ap (λ (v : View). v.snapshot) looks.reads.view ∙ ap (λ (v : View). v.snapshot) pins.view in
    let now : open_time d.knows.view.snapshot ≡ Some t = ap open_time kept ∙ opened in
    let long = ap (λ (l : List Slot). length l) looks.past in
    let settled = may.settled in
    rows_may_end words d t most lo hi rows more of (ap (λ (v : View). v.pinned) looks.reads.view ∙ ap (λ (v : View). v.pinned) pins.view)
    (subst IsSettled (sym kept) rests.settled) (ap (λ (o : Option ℕ). or_else o d.knows.view.pin_clock) now)
    (λ closed. absurd (true≢false (sym (ap (λ (o : Option ℕ). is_some o) now) ∙ closed))) (omega arith)
    (subst (λ (s : ℕ). Reads (plain d.knows.past) s (rows_deed most lo hi rows more)) at
    (subst (λ (l : List Slot). Reads (plain l) until (rows_deed most lo hi rows more)) (sym looks.past) reads))

-- a read of rows under the open snapshot is recorded at its time
module _ {a c d e : Known} {component t : ℕ} (most : Option ℕ) (lo hi : ℕ) (rows : List Pair) (more : Option ℕ) (rests : IsAtRest a)
    (pins : Pins a c component) (reached : t ≤ length c.past) (looks : Looks c d) (unpins : Unpins d e (Recorded (rows_deed most lo hi rows more)))
    (opened : open_time a.view.snapshot ≡ Some t) where
  under_number : d.number ≡ a.number
  under_number = looks.reads.seat.number ∙ pins.keeps.self.number

  under_snapshot : d.view.snapshot ≡ a.view.snapshot
  under_snapshot = ap (λ (v : View). v.snapshot) looks.reads.view ∙ ap (λ (v : View). v.snapshot) pins.view

  under_calls : d.view.calls ≡ a.view.calls
  under_calls = ap (λ (v : View). v.calls) looks.reads.view ∙ ap (λ (v : View). v.calls) pins.view

  under_now : open_time d.view.snapshot ≡ Some t
  under_now = ap open_time under_snapshot ∙ opened

  pub under : ReadsUnder a e t (rows_deed most lo hi rows more)
  under = record {
    goes_on = record {
      number = unpins.keeps.self.number ∙ under_number;
      layout = unpins.keeps.self.layout ∙ looks.reads.seat.layout ∙ pins.keeps.self.layout;
      past = same_past a e (unpins.keeps.past ∙ looks.past ∙ pins.keeps.past) (unpins.keeps.batches ∙ looks.batches ∙ pins.keeps.batches);
      snapshot = ap (λ (v : View). v.snapshot) unpins.view ∙ ap ended_snapshot under_snapshot ∙ stays_open a.view.snapshot rests.settled;
    };
    calls = ap (λ (v : View). v.calls) unpins.view
        ∙ ap (λ (l : List CallRecord). d.view.calls ++ l)
        (rows_calls d.number t d.view most lo hi rows more (ap (λ (o : Option ℕ). or_else o d.view.pin_clock) under_now))
        ∙ (λ i. under_calls i ++ call_of (under_number i) t (rows_deed most lo hi rows more) ∷ []);
    due = ap (λ (v : View). v.due) unpins.view ∙ rows_due d.view most lo hi rows more
        ∙ ap (λ (o : Option ℕ). cond (is_some o) d.view.due (or_zero (or_else o d.view.pin_clock))) under_now
        ∙ ap (λ (v : View). v.due) looks.reads.view ∙ ap (λ (v : View). v.due) pins.view;
    reached = let same = ap (λ (l : List Slot). length l) (unpins.keeps.past ∙ looks.past) in omega arith;
    tally = ap (λ (v : View). counted v) unpins.view ∙ ap (λ (v : View). counted v) looks.reads.view
        ∙ ap (λ (n : ℕ). record (counted c.view) { cancelled = n }) looks.cancelled ∙ ap (λ (v : View). counted v) pins.view;
  }

-- a read that began at the time t, up to which it settled all, looked, and ended
module _ {a c d e : Known} {component t : ℕ} {end : End} (rests : IsAtRest a) (begins : BeginsRead a c component t) (settled : t ≤ length c.past)
    (looks : Looks c d) (unpins : Unpins d e end) where
  number : d.number ≡ a.number
  number = looks.reads.seat.number ∙ begins.goes_on.number

  goes_on : GoesOn a e
  goes_on = record {
    number = unpins.keeps.number ∙ number;
    layout = unpins.keeps.layout ∙ looks.reads.seat.layout ∙ begins.goes_on.layout;
    past = begins_trans (known_of a) (known_of c) (known_of e) begins.goes_on.past
        (same_past c e (unpins.keeps.past ∙ looks.past) (unpins.keeps.batches ∙ looks.batches));
    snapshot = ap (λ (v : View). v.snapshot) unpins.view
        ∙ ap ended_snapshot (ap (λ (v : View). v.snapshot) looks.reads.view ∙ begins.goes_on.snapshot) ∙ stays_open a.view.snapshot rests.settled;
  }

  calls_before : d.view.calls ≡ a.view.calls
  calls_before = ap (λ (v : View). v.calls) looks.reads.view ∙ begins.calls

  reached : t ≤ length e.past
  reached = let same = ap (λ (l : List Slot). length l) (unpins.keeps.past ∙ looks.past) in omega arith

  pub due_before : d.view.due ≡ a.view.due
  due_before = ap (λ (v : View). v.due) looks.reads.view ∙ begins.due

  clock_noted : d.view.pin_clock ≡ Some t
  clock_noted = ap (λ (v : View). v.pin_clock) looks.reads.view ∙ begins.pin_clock

  clock_seen : e.view.clock ≡ Some t
  clock_seen = ap (λ (v : View). v.clock) unpins.view ∙ ap (λ (v : View). v.clock) looks.reads.view ∙ begins.clock

  snapshot_before : d.view.snapshot ≡ a.view.snapshot
  snapshot_before = ap (λ (v : View). v.snapshot) looks.reads.view ∙ begins.goes_on.snapshot

  abbrev with_cancelled : Tally → Tally
  with_cancelled y = record y { cancelled = e.view.cancelled }

  unlocked : TakesNoLock (tally_of a) (tally_of e)
  unlocked = ap (λ (v : View). with_cancelled (counted v)) unpins.view ∙ ap (λ (v : View). with_cancelled (counted v)) looks.reads.view
      ∙ ap with_cancelled begins.unlocked

  -- what it was told is a beginning of what it knows
  told_known : IsBeginning (told_of a) (known_of e)
  told_known = subst (λ (h : History). IsBeginning h (known_of e))
      (λ i. record {
        slots = (looks.reads.seat.told ∙ begins.told) i;
        batches = (looks.reads.seat.told_batches ∙ begins.told_batches) i;
      })
      (unpins.has_told (let same = ap (λ (l : List _). length l) (looks.reads.seat.told ∙ begins.told) in let below = begins.told_below in
      let within = reached in omega arith))

  -- with no record
  pub given_up : end ≡ Neither → GivesUpRead a e
  given_up is = record {
    goes_on = goes_on;
    calls = ap (λ (v : View). v.calls) unpins.view ∙ ap (λ (f : End). d.view.calls ++ ended_calls d.number d.view f) is ∙ append-nil d.view.calls
        ∙ calls_before;
    due = ap (λ (v : View). v.due) unpins.view ∙ ap (ended_due d.view) is ∙ due_before;
    unlocked = unlocked;
  }

  -- with a record of the deed at the time
  recorded : (deed : Deed) → ended_calls d.number d.view end ≡ call_of d.number t deed ∷ [] → ended_due d.view end ≡ t → ReadsAt a e t deed
  recorded deed made due = record {
    goes_on = goes_on;
    calls = ap (λ (v : View). v.calls) unpins.view ∙ ap (λ (l : List CallRecord). d.view.calls ++ l) made
        ∙ ap (λ (l : List CallRecord). l ++ call_of d.number t deed ∷ []) calls_before ∙ ap (λ (n : ℕ). a.view.calls ++ call_of n t deed ∷ []) number;
    due = ap (λ (v : View). v.due) unpins.view ∙ due;
    above = begins.above;
    reached = reached;
    clock = clock_seen;
    unlocked = unlocked;
  }

  -- as a read of one key
  pub single : (key : ℕ) (reply : Option (List ℕ)) → end ≡ Recorded (Get key reply) → ReadsAt a e t (Get key reply)
  single key reply is = recorded (Get key reply)
      (ap (ended_calls d.number d.view) is ∙ ap (λ (o : Option ℕ). call_of d.number (or_zero o) (Get key reply) ∷ []) clock_noted)
      (ap (ended_due d.view) is ∙ ap or_zero clock_noted)

  -- as a scan, a page or a count, where no snapshot is open
  pub many : (most : Option ℕ) (lo hi : ℕ) (rows : List Pair) (more : Option ℕ) → end ≡ Recorded (rows_deed most lo hi rows more)
      → open_time a.view.snapshot ≡ None → ReadsAt a e t (rows_deed most lo hi rows more)
  many most lo hi rows more is none =
      let closed = ap open_time snapshot_before ∙ none in
      let noted : or_else (open_time d.view.snapshot) d.view.pin_clock ≡ Some t = ap (λ (o : Option ℕ). or_else o d.view.pin_clock) closed ∙ clock_noted in
      recorded (rows_deed most lo hi rows more)
      (ap (ended_calls d.number d.view) is ∙ rows_calls d.number t d.view most lo hi rows more noted)
      (ap (ended_due d.view) is ∙ rows_due d.view most lo hi rows more
      ∙ ap (λ (o : Option ℕ). cond (is_some o) d.view.due (or_zero (or_else o d.view.pin_clock))) closed ∙ ap or_zero clock_noted)

  -- as a meeting
  pub met : end ≡ Meeting → MeetsAt a e t
  met is = record {
    goes_on = goes_on;
    calls = ap (λ (v : View). v.calls) unpins.view ∙ ap (λ (f : End). d.view.calls ++ ended_calls d.number d.view f) is ∙ append-nil d.view.calls
        ∙ calls_before;
    due = ap (λ (v : View). v.due) unpins.view ∙ ap (ended_due d.view) is ∙ ap or_zero clock_noted;
    read = clock_seen;
    above = begins.above;
    reaches = reached;
    has_told = told_known;
    heard = begins.heard_below;
    unlocked = unlocked;
  }
