-- A whole batch with conditions: what its hold of the lock leaves is what contracts see.
use Rattle.std.proofs.Common.{◌≡◌, ℕ, ◌+◌, ◌<◌, ◌≤◌, List, length, ap, sym, ◌∙◌, arith, Result, Ok, Err}
use Rattle.std.proofs.Common.{IfErr, IfOk}
use Rattle.clsm_model.specs.History.{plain}
use Rattle.clsm_model.specs.declared.slot.Slot.{Slot}
use Rattle.clsm_model.specs.Right.{Member}
use Rattle.clsm_model.proofs.Batches.{begins_trans}
use Rattle.clsm_model.proofs.Histories.{AreSameBelow}
use Rattle.clsm_law.specs.declared.view.View.{View}
use Rattle.clsm_law.specs.OpenSteps.{open_time}
use Rattle.clsm_lock.specs.Keeping.{EntersExclusively, Leaves}
use Rattle.clsm_words.specs.declared.known.Known.{Known}
use Rattle.clsm_words.specs.declared.words.WordTable.{WordTable}
use Rattle.clsm_words.specs.Knowing.{known_of}
use Rattle.clsm_words.specs.Plays.{IsSeatOf}
use Rattle.clsm_words.specs.Seats.{RawState}
use Rattle.clsm_store_calls.specs.declared.conditions.Condition.{Condition}
use Rattle.clsm_store_calls.specs.declared.refusal.BatchIfError.{BatchIfError}
use Rattle.clsm_store_calls.specs.declared.refusal.BatchIfError.TheVariants.{Full, Keep, TooLong, Unmet}
use Rattle.clsm_store_calls.specs.Batching.{IsNoRoom}
use Rattle.clsm_store_calls.specs.Conditions.{AllHold, IsFirstUnmet}
use Rattle.clsm_store_calls.specs.Conditional.{ActsAlone, AreWritable, IsRefusedBatchIf}
use Rattle.clsm_store_calls.specs.Conditional.{MeetsAll, MeetsAlone, ReadsAlone, RefusesAlone, StandsAt, WritesAlone}
use Rattle.clsm_store_calls.specs.Resting.{seat_of}
use Rattle.clsm_store_calls.specs.Seats.{IsSameSeat, known_by}
use Rattle.clsm_store_calls.specs.Tally.{looked}
use Rattle.clsm_store_calls.proofs.Unmet.{all_same, first_same, same_below}

-- it entered the lock, did this in its hold, and left
module _ {busy : ℕ} (words : WordTable) (a : RawState) (b h : Known) (f : RawState) (of : IsSeatOf words a) (of' : IsSeatOf words f)
    (enters : EntersExclusively a.knows b busy) (acts : ActsAlone b h) (leaves : Leaves h f.knows) where
  same : IsSameSeat (seat_of a) (seat_of f)
  same = record {
    store = λ i. record {
      table = (of'.0 ∙ sym of.0) i;
      layout = (leaves.place.seat.layout ∙ acts.along.layout ∙ enters.place.seat.layout) i;
    };
    number = leaves.place.seat.number ∙ acts.along.number ∙ enters.place.seat.number;
    longer = begins_trans (known_of a.knows) (known_of h) (known_of f.knows)
        (begins_trans (known_of a.knows) (known_of b) (known_of h) enters.place.seat.past acts.along.past) leaves.place.seat.past;
  }

  snapshot_same : open_time f.knows.view.snapshot ≡ open_time a.knows.view.snapshot
  snapshot_same = ap (λ (v : View). open_time v.snapshot) leaves.view ∙ ap (λ (v : View). open_time v.snapshot) acts.view
      ∙ ap (λ (v : View). open_time v.snapshot) enters.view

  due_before : b.view.due ≡ a.knows.view.due
  due_before = ap (λ (v : View). v.due) enters.view

  due_behind : f.knows.view.due ≡ h.view.due
  due_behind = ap (λ (v : View). v.due) leaves.view

  calls_same : h.view.calls ≡ b.view.calls → f.knows.view.calls ≡ a.knows.view.calls
  calls_same is = ap (λ (v : View). v.calls) leaves.view ∙ is ∙ ap (λ (v : View). v.calls) enters.view

  module _ (t limit : ℕ) (stands : StandsAt b h t limit) where
    reached : t ≤ length f.knows.past
    reached = let reached = stands.reached in let same = ap (λ (l : List Slot). length l) leaves.place.past in omega arith

    above : a.knows.view.due ≤ t
    above = let above = stands.above in let same = due_before in omega arith

    reads_alone : ReadsAlone (seat_of a) (seat_of f) t
    reads_alone = record {
      same = same;
      snapshot = snapshot_same;
      clock = ap (λ (v : View). v.hold_clock) leaves.view ∙ stands.clock;
      read = ap (λ (v : View). v.clock) leaves.view ∙ stands.seen;
      above = above;
      reached = reached;
    }

    -- what a condition says is the same of what contracts see
    known_below : AreSameBelow (plain h.past) (known_of f.knows) t
    known_below = same_below h.past (known_of f.knows) t leaves.place.seat.past.slots stands.reached

    all_known : (conditions : List Condition) → AllHold (plain h.past) t conditions → AllHold (known_by (seat_of f)) t conditions
    all_known conditions all = all_same (plain h.past) (known_of f.knows) t known_below conditions all

    first_known : (conditions : List Condition) (i : ℕ) → IsFirstUnmet (plain h.past) t conditions i → IsFirstUnmet (known_by (seat_of f)) t conditions i
    first_known conditions i first = first_same (plain h.past) (known_of f.knows) t known_below conditions i first

    meets_alone : h.view.calls ≡ b.view.calls → h.view.due ≡ t → MeetsAlone (seat_of a) (seat_of f) t
    meets_alone calls due = record { reads = reads_alone; calls = calls_same calls; due = due_behind ∙ due }

    no_room : (members : ℕ) → limit < t + members → h.view.calls ≡ b.view.calls → h.view.due ≡ b.view.due → IsNoRoom (seat_of a) (seat_of f) t members
    no_room members short calls due = record {
      refused = record { same = same; calls = calls_same calls; due = due_behind ∙ due ∙ due_before; snapshot = snapshot_same };
      entered = ap (λ (v : View). v.entries) leaves.view ∙ ap (λ (v : View). v.entries) acts.view ∙ ap (λ (v : View). v.entries) enters.view;
      clock = ap (λ (v : View). v.hold_clock) leaves.view ∙ stands.clock;
      limit = limit;
      looked = ap (λ (v : View). v.hold_limit) leaves.view ∙ stands.limit_is;
      short = short;
    }

  -- ---- answered, or refused in its hold

  pub met_at : (conditions : List Condition) (members : List Member) (t : ℕ) → WritesAlone b h conditions members t
      → MeetsAll (seat_of a) (seat_of f) conditions t
  met_at conditions members t wrote =
      record { reads = reads_alone t wrote.limit wrote.stands; holds = all_known t wrote.limit wrote.stands conditions wrote.holds }

  pub met_if : (conditions : List Condition) (members : List Member) (r : Result ℕ BatchIfError) → IfOk r (WritesAlone b h conditions members)
      → IfOk r (MeetsAll (seat_of a) (seat_of f) conditions)
  met_if conditions members (Ok t) wrote = met_at conditions members t wrote
  met_if conditions members (Err error) wrote = tt

  module _ (conditions : List Condition) (members : List Member) (writable : AreWritable a.knows.layout.cells members) where
    pub refused_as : (error : BatchIfError) → RefusesAlone b h conditions members error → IsRefusedBatchIf (seat_of a) (seat_of f) conditions members error
    refused_as (Unmet index t) stops = (
      writable,
      record {
        meets = meets_alone t stops.limit stops.stands stops.calls stops.due;
        first = first_known t stops.limit stops.stands conditions index stops.first;
      },
    )
    refused_as (Full t) lacks = (
      writable,
      record {
        meets = record { reads = reads_alone t lacks.limit lacks.stands; holds = all_known t lacks.limit lacks.stands conditions lacks.holds };
        short = no_room t lacks.limit lacks.stands (length members) lacks.short lacks.calls lacks.due;
      },
    )
    refused_as TooLong none = absurd none
    refused_as Keep none = absurd none

    pub refused_if : (r : Result ℕ BatchIfError) → IfErr r (RefusesAlone b h conditions members)
        → IfErr r (IsRefusedBatchIf (seat_of a) (seat_of f) conditions members)
    refused_if (Ok t) refuses = tt
    refused_if (Err error) refuses = refused_as error refuses
