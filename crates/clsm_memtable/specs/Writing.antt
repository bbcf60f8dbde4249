-- What the calls that write leave of a seat as it was, and what they change.
use Rattle.std.specs.Prelude.{◌≡◌, ◌≢◌, ℕ, ◌+◌, ◌≤◌, ◌⊎◌, List, [], ◌∷◌, ◌++◌, length, true, Some, None}
use Rattle.clsm_model.specs.declared.record.Deed.{Deed}
use Rattle.clsm_model.specs.declared.record.Deed.TheVariants.{Batch as Group}
use Rattle.clsm_model.specs.Right.{Member}
use Rattle.clsm_law.specs.declared.view.SnapshotState.{SnapshotState}
use Rattle.clsm_law.specs.declared.view.SnapshotState.TheVariants.{Noted}
use Rattle.clsm_law.specs.declared.view.View.{View}
use Rattle.clsm_law.specs.Views.{next_word, or_zero, IsBelow}
use Rattle.clsm_law.specs.Relation.{first_of, reached_after, call_of, member_of, taken}
use Rattle.clsm_words.specs.declared.known.Known.{Known}
use Rattle.clsm_words.specs.Knowing.{IsNearHeld}
use Rattle.clsm_words.specs.Keeping.{KeepsPlace, KeepsSeat}
use Rattle.clsm_memtable.specs.declared.clock.DrawError.{DrawError}
use Rattle.clsm_memtable.specs.declared.clock.DrawError.TheVariants.{Full, Raced}
use Rattle.clsm_memtable.specs.declared.cell_state.Decided.{Decided}
use Rattle.clsm_memtable.specs.declared.cell_state.Decided.TheVariants.{Done, Overtaken}

-- no snapshot is being noted: a look at the clock gives none its time
abbrev pub IsUnnoted : SnapshotState → Type 0
IsUnnoted (Noted noted) = ⊥
IsUnnoted _ = Unit {0}

-- the view, but that what looks may change is as in another
abbrev pub aside : View → View → View
aside v w = record v {
  fresh_heads = w.fresh_heads;
  met = w.met;
  fresh_link = w.fresh_link;
  low = w.low;
  high = w.high;
  reached = w.reached;
  past = w.past;
  waited = w.waited;
}

-- ---- draws

-- the view v, but that what looks at the limit and at the clock in a hold of the lock change is as
-- in w
abbrev pub with_looks : View → View → View
with_looks v w = record v { hold_limit = w.hold_limit; hold_clock = w.hold_clock; hold_first = w.hold_first; clock = w.clock; pin_clock = w.pin_clock }

-- the view v after the looks that found this limit and this clock; as a read sees the clock, it is
-- as in w
abbrev pub looked_in_hold : View → View → ℕ → ℕ → View
looked_in_hold v w limit clock = record v {
  fresh_clock = Some clock;
  hold_limit = Some limit;
  hold_clock = Some clock;
  hold_first = first_of v.hold_first clock;
  clock = Some clock;
  pin_clock = w.pin_clock;
}

-- in this hold of the lock it looked at the limit, and then at words of the epoch
pub record LooksAhead (old new : Known) : Type 0 where
  pub seat : KeepsSeat old new
  pub past : new.past ≡ old.past
  pub view : new.view ≡ record (aside old.view new.view) { hold_limit = new.view.hold_limit }
  pub looked : new.view.hold_limit ≢ None

-- it drew the time: no part of its cell is filled, it is neither linked nor inserted, and no place
-- of the ordered list is known before or behind it
pub record Draws (old new : Known) (t : ℕ) : Type 0 where
  pub place : KeepsPlace old new
  pub view : new.view ≡ record (with_looks (taken old.view t) new.view) {
    hold_clock = Some t;
    hold_first = first_of old.view.hold_first t;
    clock = Some t;
  }
  pub looked : new.view.hold_limit ≢ None
  pub below : IsBelow t new.view.hold_limit
  pub due : old.view.due ≤ t
  pub near : IsNearHeld old.layout old.view.held t
  pub passed : old.view.past ≤ t

-- in this hold of the lock it looked at the clock and the limit: no time from the clock on is
-- taken, and each below the limit may be
pub record FindsRoom (old new : Known) (clock limit : ℕ) : Type 0 where
  pub place : KeepsPlace old new
  pub view : new.view ≡ looked_in_hold old.view new.view limit clock
  pub within : clock ≤ limit
  pub due : old.view.due ≤ clock
  pub passed : old.view.past ≤ clock

-- in this hold of the lock the clock stood at the limit
pub record FindsLimit (old new : Known) (t : ℕ) : Type 0 where
  pub place : KeepsPlace old new
  pub passed : old.view.past ≤ t
  pub view : new.view ≡ looked_in_hold old.view new.view t t

-- another seat drew the time that it looked at
pub record LosesDraw (old new : Known) : Type 0 where
  pub place : KeepsPlace old new
  pub first : new.view.hold_first ≡ first_of old.view.hold_first (or_zero new.view.clock)
  pub view : new.view ≡ record (with_looks old.view new.view) { fresh_clock = None; raced = next_word old.view.raced }
  pub looked : new.view.hold_limit ≢ None

-- why no time was drawn: the clock was at the limit, or another seat drew the time first
abbrev pub RefusesDraw : Known → Known → DrawError → Type 0
RefusesDraw old new (Full t) = FindsLimit old new t
RefusesDraw old new Raced = LosesDraw old new

-- ---- the end of a drawn time

-- the deed stands at the time, and is recorded so
pub record Records (old new : Known) (t : ℕ) (deed : Deed) : Type 0 where
  pub place : KeepsPlace old new
  pub view : new.view ≡ record old.view {
    drawn = None;
    reached = reached_after old.layout old.view t;
    due = t + 1;
    calls = old.view.calls ++ call_of old.number t deed ∷ [];
  }

-- and the seat, which looked aside meanwhile, left hints that lead to it
pub record RecordsHinted (old new : Known) (t : ℕ) (deed : Deed) : Type 0 where
  pub place : KeepsPlace old new
  pub view : new.view ≡ record (aside old.view new.view) {
    drawn = None;
    due = t + 1;
    calls = old.view.calls ++ call_of old.number t deed ∷ [];
  }
  pub reached : old.view.reached ≤ new.view.reached

-- somebody had cancelled the time: nothing is recorded
pub record LosesTime (old new : Known) (t : ℕ) : Type 0 where
  pub place : KeepsPlace old new
  pub view : new.view ≡ record old.view { drawn = None; reached = reached_after old.layout old.view t; overtaken = next_word old.view.overtaken }

-- what came of a decide: the deed stands at its time, or somebody had cancelled it
abbrev pub Decides : Known → Known → ℕ → Deed → Decided → Type 0
Decides old new t deed Done = Records old new t deed
Decides old new t deed Overtaken = LosesTime old new t

-- and what came of it where hints are left to the write
abbrev pub DecidesHinted : Known → Known → ℕ → Deed → Decided → Type 0
DecidesHinted old new t deed Done = RecordsHinted old new t deed
DecidesHinted old new t deed Overtaken = LosesTime old new t

-- ---- batches

-- the deed's write is one staged member more; nothing is recorded yet, and the due stays
pub record DecidesMember (old new : Known) (t : ℕ) (deed : Deed) : Type 0 where
  pub place : KeepsPlace old new
  pub view : new.view ≡ record old.view { drawn = None; reached = reached_after old.layout old.view t; staged = old.view.staged ++ member_of deed }

-- the members are recorded as one batch at this time, and the due is behind them
pub record Commits (old new : Known) (first : ℕ) (members : List Member) : Type 0 where
  pub place : KeepsPlace old new
  pub view : new.view ≡ record old.view {
    staged = [];
    committed = true;
    fresh_clock = None;
    due = first + length members;
    calls = old.view.calls ++ call_of old.number first (Group members) ∷ [];
  }

-- ---- times given up

-- nothing has the time, and nothing is recorded; it is counted whether the seat cancelled it or
-- somebody had done so first
pub record GivesUp (old new : Known) (t : ℕ) : Type 0 where
  pub place : KeepsPlace old new
  pub view : new.view ≡ record old.view {
    drawn = None;
    reached = reached_after old.layout old.view t;
    overtaken = new.view.overtaken;
    gave_up = new.view.gave_up;
  }
  pub counted : ((new.view.gave_up ≡ next_word old.view.gave_up) × (new.view.overtaken ≡ old.view.overtaken))
      ⊎ ((new.view.gave_up ≡ old.view.gave_up) × (new.view.overtaken ≡ next_word old.view.overtaken))
