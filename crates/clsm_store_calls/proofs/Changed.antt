-- A whole read-modify-write from its parts.
use Rattle.std.proofs.Common.{◌≡◌, ℕ, ◌+◌, ◌++◌, ◌∷◌, [], List, length, max, refl, sym, ap, subst, ◌∙◌, arith, append-nil, Option, None, Ok, Err, Result, IfOk}
use Rattle.std.proofs.Common.{IfErr}
use Rattle.clsm_model.specs.declared.slot.Slot.{Slot}
use Rattle.clsm_model.specs.declared.slot.Change.{Change}
use Rattle.clsm_model.specs.declared.slot.Change.TheVariants.{Keep, Set, Remove}
use Rattle.clsm_model.specs.History.{IsBeginning}
use Rattle.clsm_model.specs.Seats.{due_by}
use Rattle.clsm_model.specs.declared.record.Deed.TheVariants.{Rmw}
use Rattle.clsm_model.specs.declared.record.CallRecord.{CallRecord}
use Rattle.clsm_law.specs.declared.view.View.{View}
use Rattle.clsm_law.specs.declared.step.End.{End}
use Rattle.clsm_law.specs.declared.step.End.TheVariants.{Neither, Recorded}
use Rattle.clsm_law.specs.Views.{next_word, or_zero}
use Rattle.clsm_law.specs.Relation.{call_of, ended_snapshot}
use Rattle.clsm_words.specs.declared.known.Known.{Known}
use Rattle.clsm_words.specs.Knowing.{known_of}
use Rattle.clsm_model.proofs.Batches.{begins_trans}
use Rattle.clsm_words.specs.Keeping.{KeepsPast}
use Rattle.clsm_lock.specs.Keeping.{Enters, Leaves}
use Rattle.clsm_pins.specs.Pinning.{Pins, Unpins}
use Rattle.clsm_store_calls.specs.declared.got.Rmw.{Rmw as Answered}
use Rattle.clsm_store_calls.specs.declared.refusal.Full.{Full as Refusal}
use Rattle.clsm_store_calls.specs.declared.refusal.TryPutError.{TryPutError}
use Rattle.clsm_store_calls.specs.declared.refusal.TryPutError.TheVariants.{Full, Busy, Raced, Overtaken}
use Rattle.clsm_store_calls.specs.Resting.{FindsFull, IsAtRest, Keeps, Records, Still}
use Rattle.clsm_store_calls.specs.Changing.{ChangesAt, CountsChange, CountsChangeInHold, Does, EndsFull, EndsRefused, EndsUnmade, IsSameSeat, IsWrittenFrom}
use Rattle.clsm_store_calls.specs.Changing.{IsWrittenSince, pin_after, read_end}
use Rattle.clsm_store_calls.specs.Tally.{HasRead, Tally, counted, looked, tally_of}
use Rattle.clsm_store_calls.specs.Writing.{Fails}
use Rattle.clsm_store_calls.proofs.ChangeLosses.{counts_later, counts_whole}
use Rattle.clsm_store_calls.proofs.Rest.{same_past, stays_open}

-- what the seat counts once it has entered the lock
abbrev entered : Known → Tally
entered a = record (tally_of a) { entries = next_word a.view.entries }

-- it entered the lock, pinned the component, changed the key, ended its read and left the lock
module _ {a b c e f : Known} {component busy : ℕ} (rests : IsAtRest a) (enters : Enters a b busy) (pins : Pins b c component) (leaves : Leaves e f) where
  number : c.number ≡ a.number
  number = pins.keeps.number ∙ enters.place.seat.number

  layout : c.layout ≡ a.layout
  layout = pins.keeps.layout ∙ enters.place.seat.layout

  past : IsBeginning (known_of a) (known_of c)
  past = same_past a c (pins.keeps.past ∙ enters.place.past) (pins.keeps.batches ∙ enters.place.batches)

  calls : c.view.calls ≡ a.view.calls
  calls = ap (λ (v : View). v.calls) pins.view ∙ ap (λ (v : View). v.calls) enters.view

  due : c.view.due ≡ a.view.due
  due = ap (λ (v : View). v.due) pins.view ∙ ap (λ (v : View). v.due) enters.view

  entered_by : busy ≡ a.view.busy → tally_of c ≡ record (entered a) { limit = None; first = None; clock = None }
  entered_by uncounted =
      ap counted pins.view ∙ ap counted enters.view ∙ ap (λ (n : ℕ). record (entered a) { busy = n; limit = None; first = None; clock = None }) uncounted

  has_read : busy ≡ a.view.busy → HasRead (entered a) (tally_of c)
  has_read uncounted = let same = entered_by uncounted in
      same ∙ ap (λ (t : Tally). record (looked (entered a) t) { cancelled = t.cancelled }) (sym same)

  module _ {d : Known} (key : ℕ) where
    ended : Keeps c d → KeepsPast d e → IsBeginning (known_of a) (known_of f)
    ended keeps unpinned = begins_trans (known_of a) (known_of d) (known_of f) (begins_trans (known_of a) (known_of c) (known_of d) past keeps.past)
        (same_past d f (leaves.place.past ∙ unpinned.past) (leaves.place.batches ∙ unpinned.batches))

    snapshot : Keeps c d → ended_snapshot d.view.snapshot ≡ a.view.snapshot
    snapshot keeps =
        ap ended_snapshot (keeps.snapshot ∙ ap (λ (v : View). v.snapshot) pins.view ∙ ap (λ (v : View). v.snapshot) enters.view)
        ∙ stays_open a.view.snapshot rests.settled

    kept : Keeps c d → (end : End) → Unpins d e end → IsSameSeat a f
    kept keeps end unpins = record {
      number = leaves.place.seat.number ∙ unpins.keeps.number ∙ keeps.number ∙ number;
      layout = leaves.place.seat.layout ∙ unpins.keeps.layout ∙ keeps.layout ∙ layout;
      past = ended keeps unpins.keeps;
      snapshot = ap (λ (v : View). v.snapshot) leaves.view ∙ ap (λ (v : View). v.snapshot) unpins.view ∙ snapshot keeps;
    }

    -- a write at the time
    wrote : (change : Change) (t : ℕ) (o : Option (List ℕ)) → Records c d t (Rmw key o change) → Unpins d e Neither
        → (f.view.calls ≡ a.view.calls ++ call_of a.number t (Rmw key o change) ∷ []) × (f.view.due ≡ t + 1)
    wrote change t o records unpins = (
      ap (λ (v : View). v.calls) leaves.view ∙ ap (λ (v : View). v.calls) unpins.view ∙ append-nil d.view.calls ∙ records.calls
          ∙ ap (λ (l : List CallRecord). l ++ call_of c.number t (Rmw key o change) ∷ []) calls
          ∙ ap (λ (n : ℕ). a.view.calls ++ call_of n t (Rmw key o change) ∷ []) number,
      ap (λ (v : View). v.due) leaves.view ∙ ap (λ (v : View). v.due) unpins.view ∙ records.due,
    )

    written : (change : Change) (t : ℕ) (o : Option (List ℕ)) → Records c d t (Rmw key o change) → Unpins d e Neither → t + 1 ≡ due_by t change
        → ChangesAt a f t key o change
    written change t o records unpins same = let both = wrote change t o records unpins in record {
      same = kept records.keeps Neither unpins;
      calls = both.0;
      due = both.1 ∙ same;
      above = let x = due in let y = records.above in omega arith;
    }

    -- the change as a whole
    pub changed : (change : Change) (t : ℕ) (o : Option (List ℕ)) → Does change c d component key t o
        → Unpins d e (read_end {E = TryPutError} key (Ok (record { time = t; old = o; change = change }))) → ChangesAt a f t key o change
    changed Keep t o (still, reads) unpins = record {
      same = kept still.keeps (Recorded (Rmw key o Keep)) unpins;
      calls = ap (λ (v : View). v.calls) leaves.view ∙ ap (λ (v : View). v.calls) unpins.view
          ∙ ap (λ (clock : Option ℕ). d.view.calls ++ call_of d.number (or_zero clock) (Rmw key o Keep) ∷ []) reads.pin_clock
          ∙ ap (λ (l : List CallRecord). l ++ call_of d.number t (Rmw key o Keep) ∷ []) (still.calls ∙ calls)
          ∙ ap (λ (n : ℕ). a.view.calls ++ call_of n t (Rmw key o Keep) ∷ []) (still.keeps.number ∙ number);
      due = ap (λ (v : View). v.due) leaves.view ∙ ap (λ (v : View). v.due) unpins.view ∙ ap or_zero reads.pin_clock;
      above = let x = due in let y = still.due in let z = reads.above in omega arith;
    }
    changed (Set words) t o records unpins = written (Set words) t o records unpins refl
    changed Remove t o records unpins = written Remove t o records unpins refl

    -- its read ended as the answer says
    ended_by : {E : Type 0} → (answer : Result Answered E) → (end : End) → end ≡ read_end key answer → Unpins d e end → Unpins d e (read_end key answer)
    ended_by answer end is unpins = subst (λ (end : End). Unpins d e end) is unpins

    pub changed_if : {E : Type 0} → (answer : Result Answered E) → (end : End) → end ≡ read_end key answer → Unpins d e end
        → IfOk answer (λ rmw. Does rmw.change c d component key rmw.time rmw.old) → IfOk answer (λ rmw. ChangesAt a f rmw.time key rmw.old rmw.change)
    changed_if {E} (Ok rmw) end is unpins does = changed rmw.change rmw.time rmw.old does (ended_by {E = E} (Ok rmw) end is unpins)
    changed_if (Err refusal) end is unpins does = tt

    -- no call was made in the hold
    unmade : Still c d → Unpins d e Neither → EndsUnmade a f
    unmade still unpins = record {
      same = kept still.keeps Neither unpins;
      calls = ap (λ (v : View). v.calls) leaves.view ∙ ap (λ (v : View). v.calls) unpins.view ∙ append-nil d.view.calls ∙ still.calls ∙ calls;
      due = ap (λ (v : View). v.due) leaves.view ∙ ap (λ (v : View). v.due) unpins.view ∙ still.due ∙ due;
    }

    -- the clock was found at the limit in it
    full : (t : ℕ) → d.view.entries ≡ c.view.entries → FindsFull c d t → Unpins d e Neither → EndsFull a f t
    full t entries finds unpins = let made = unmade finds.still unpins in record {
      same = made.same;
      calls = made.calls;
      due = made.due;
      entered = ap (λ (v : View). v.entries) leaves.view ∙ ap (λ (v : View). v.entries) unpins.view ∙ entries ∙ ap (λ (v : View). v.entries) pins.view
          ∙ ap (λ (v : View). v.entries) enters.view;
      limit = ap (λ (v : View). v.hold_limit) leaves.view ∙ ap (λ (v : View). v.hold_limit) unpins.view ∙ finds.limit;
      clock = ap (λ (v : View). v.hold_clock) leaves.view ∙ ap (λ (v : View). v.hold_clock) unpins.view ∙ finds.clock;
    }

    pub full_if : (answer : Result Answered Refusal) → (end : End) → end ≡ read_end key answer → Unpins d e end → d.view.entries ≡ c.view.entries
        → IfErr answer (λ full. FindsFull c d full.time) → IfErr answer (λ full. EndsFull a f full.time)
    full_if (Ok rmw) end is unpins entries finds = tt
    full_if (Err refusal) end is unpins entries finds = full refusal.time entries finds (ended_by (Err refusal) end is unpins)

    refused : (error : TryPutError) → d.view.entries ≡ c.view.entries → Fails c d error → Unpins d e Neither → EndsRefused a f error
    refused (Full t) entries fails unpins = full t entries fails unpins
    refused Busy entries fails unpins = unmade fails unpins
    refused Raced entries fails unpins = unmade fails unpins
    refused Overtaken entries fails unpins = unmade fails unpins

    pub refused_if : (answer : Result Answered TryPutError) → (end : End) → end ≡ read_end key answer → Unpins d e end → d.view.entries ≡ c.view.entries
        → IfErr answer (Fails c d) → IfErr answer (EndsRefused a f)
    refused_if (Ok rmw) end is unpins entries fails = tt
    refused_if (Err error) end is unpins entries fails = refused error entries fails (ended_by (Err error) end is unpins)

    -- what its tries count
    pub counts_if : (tries : ℕ) (answer : Result Answered TryPutError) → (end : End) → Unpins d e end → busy ≡ a.view.busy
        → CountsChangeInHold tries (IsWrittenSince c d key) (tally_of c) (tally_of d) answer
        → CountsChange tries (IsWrittenSince a f key) (tally_of a) (tally_of f) answer
    counts_if tries answer end unpins uncounted counts =
        let same : tally_of f ≡ tally_of d = ap counted leaves.view ∙ ap counted unpins.view in
        let told : c.past ≡ a.past = pins.keeps.past ∙ enters.place.past in
        let behind : f.past ≡ d.past = leaves.place.past ∙ unpins.keeps.past in
        let more : IsWrittenSince c d key → IsWrittenSince a f key =
        subst (λ (y : List Slot × List Slot × ℕ). IsWrittenFrom y.0 key (max y.2 (length y.1))) (λ i. (sym behind i, told i, due i)) in
        counts_whole tries (IsWrittenSince a f key) (tally_of a) (tally_of f) answer
        (subst (λ (t : Tally). CountsChangeInHold tries (IsWrittenSince a f key) (entered a) t answer) (sym same)
        (counts_later tries (IsWrittenSince c d key) (IsWrittenSince a f key) (entered a) (tally_of c) (tally_of d) (has_read uncounted) more answer counts))

-- ---- the pin word

-- it moved twice, unless the lock was not entered
pub pin_twice : (tries : ℕ) (P : Type 0) (a f : Tally) (pin : ℕ) (answer : Result Answered TryPutError) → CountsChangeInHold tries P a f answer
    → next_word (next_word pin) ≡ pin_after pin answer
pin_twice tries P a f pin (Ok rmw) counts = refl
pin_twice tries P a f pin (Err (Full t)) counts = refl
pin_twice tries P a f pin (Err Busy) counts = absurd counts
pin_twice tries P a f pin (Err Raced) counts = refl
pin_twice tries P a f pin (Err Overtaken) counts = refl

-- what was done in its hold left it
pub pin_stays : (c d : Known) (component key : ℕ) (answer : Result Answered TryPutError)
    → IfOk answer (λ rmw. Does rmw.change c d component key rmw.time rmw.old) → IfErr answer (Fails c d) → d.view.pin ≡ c.view.pin
pin_stays c d component key (Ok rmw) does fails = done rmw.change does where
  done : (change : Change) → Does change c d component key rmw.time rmw.old → d.view.pin ≡ c.view.pin
  done Keep does = does.0.keeps.pin
  done (Set words) does = does.keeps.pin
  done Remove does = does.keeps.pin
pin_stays c d component key (Err (Full t)) does fails = fails.still.keeps.pin
pin_stays c d component key (Err Busy) does fails = fails.keeps.pin
pin_stays c d component key (Err Raced) does fails = fails.keeps.pin
pin_stays c d component key (Err Overtaken) does fails = fails.keeps.pin
