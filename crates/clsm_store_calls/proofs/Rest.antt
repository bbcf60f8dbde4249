-- Parts of calls one after another.
use Rattle.std.proofs.Common.{◌≡◌, ℕ, ◌≤◌, ◌++◌, ◌∷◌, [], List, refl, sym, ap, ◌∙◌, subst, arith, Option, Result, Ok, Err, OnOk, is_ok, true}
use Rattle.clsm_model.specs.History.{IsBeginning}
use Rattle.clsm_model.specs.declared.record.Deed.{Deed}
use Rattle.clsm_model.specs.declared.record.CallRecord.{CallRecord}
use Rattle.clsm_law.specs.Relation.{call_of, ended_snapshot}
use Rattle.clsm_law.specs.declared.view.View.{View}
use Rattle.clsm_law.specs.declared.view.SnapshotState.{SnapshotState}
use Rattle.clsm_law.specs.declared.view.SnapshotState.TheVariants.{Absent, Noted, Timed, Open}
use Rattle.clsm_words.specs.declared.known.Known.{Known}
use Rattle.clsm_words.specs.Knowing.{known_of}
use Rattle.clsm_words.specs.Keeping.{KeepsPlace, KeepsSeat, OnlyReads}
use Rattle.clsm_model.proofs.Batches.{begins_self, begins_trans}
use Rattle.clsm_memtable.specs.Writing.{Draws, FindsLimit, GivesUp, LosesDraw, LosesTime, RecordsHinted as Decides}
use Rattle.clsm_memtable.specs.Filling.{Fills}
use Rattle.clsm_memtable.specs.Inserting.{Enters}
use Rattle.clsm_store_calls.specs.Resting.{IsSettled, Keeps, Still, Records, FindsFull}

pub keeps_trans : (a b c : Known) → Keeps a b → Keeps b c → Keeps a c
keeps_trans a b c h k = record {
  number = k.number ∙ h.number;
  layout = k.layout ∙ h.layout;
  past = begins_trans (known_of a) (known_of b) (known_of c) h.past k.past;
  pin = k.pin ∙ h.pin;
  snapshot = k.snapshot ∙ h.snapshot;
}

pub still_trans : (a b c : Known) → Still a b → Still b c → Still a c
still_trans a b c h k = record { keeps = keeps_trans a b c h.keeps k.keeps; calls = k.calls ∙ h.calls; due = k.due ∙ h.due }

pub still_none : (k : Known) → Still k k
still_none k = record {
  keeps = record { number = refl; layout = refl; past = begins_self (known_of k); pin = refl; snapshot = refl };
  calls = refl;
  due = refl;
}

-- where nothing was called before, or after
pub records_later : (a b c : Known) (t : ℕ) (deed : Deed) → Still a b → Records b c t deed → Records a c t deed
records_later a b c t deed h k = record {
  keeps = keeps_trans a b c h.keeps k.keeps;
  calls = k.calls ∙ ap (λ (l : List CallRecord). l ++ call_of b.number t deed ∷ []) h.calls
      ∙ ap (λ (n : ℕ). a.view.calls ++ call_of n t deed ∷ []) h.keeps.number;
  due = k.due;
  above = let d = h.due in let e = k.above in omega arith;
}

pub records_before : (a b c : Known) (t : ℕ) (deed : Deed) → Records a b t deed → Still b c → Records a c t deed
records_before a b c t deed h k = record { keeps = keeps_trans a b c h.keeps k.keeps; calls = k.calls ∙ h.calls; due = k.due ∙ h.due; above = h.above }

pub full_later : (a b c : Known) (t : ℕ) → Still a b → FindsFull b c t → FindsFull a c t
full_later a b c t h k = record { still = still_trans a b c h k.still; limit = k.limit; clock = k.clock }

-- ---- from the memory component's calls

pub same_past : (a b : Known) → b.past ≡ a.past → b.batches ≡ a.batches → IsBeginning (known_of a) (known_of b)
same_past a b past batches = subst (IsBeginning (known_of a)) (λ i. record { slots = sym past i; batches = sym batches i }) (begins_self (known_of a))

-- what the store asks of a view that was left as it was
abbrev pub left : View → ℕ × SnapshotState × List CallRecord × ℕ
left v = (v.pin, v.snapshot, v.calls, v.due)

pub keeps_by : (a b : Known) → KeepsPlace a b → b.view.pin ≡ a.view.pin → b.view.snapshot ≡ a.view.snapshot → Keeps a b
keeps_by a b place pin snapshot = record {
  number = place.seat.number;
  layout = place.seat.layout;
  past = same_past a b place.past place.batches;
  pin = pin;
  snapshot = snapshot;
}

pub still_seat : (a b : Known) → KeepsSeat a b → left b.view ≡ left a.view → Still a b
still_seat a b seat e = record {
  keeps = record {
    number = seat.number;
    layout = seat.layout;
    past = seat.past;
    pin = ap (λ (x : ℕ × SnapshotState × List CallRecord × ℕ). x.0) e;
    snapshot = ap (λ (x : ℕ × SnapshotState × List CallRecord × ℕ). x.1) e;
  };
  calls = ap (λ (x : ℕ × SnapshotState × List CallRecord × ℕ). x.2) e;
  due = ap (λ (x : ℕ × SnapshotState × List CallRecord × ℕ). x.3) e;
}

pub still_by : (a b : Known) → KeepsPlace a b → left b.view ≡ left a.view → Still a b
still_by a b place e = still_seat a b place.seat e

pub still_drawn : (a b : Known) (t : ℕ) → Draws a b t → Still a b
still_drawn a b t h = still_by a b h.place (ap left h.view)

pub still_raced : (a b : Known) → LosesDraw a b → Still a b
still_raced a b h = still_by a b h.place (ap left h.view)

pub still_given_up : (a b : Known) (t : ℕ) → GivesUp a b t → Still a b
still_given_up a b t h = still_by a b h.place (ap left h.view)

pub full_by : (a b : Known) (t : ℕ) → FindsLimit a b t → FindsFull a b t
full_by a b t h = record {
  still = still_by a b h.place (ap left h.view);
  limit = ap (λ (v : View). v.hold_limit) h.view;
  clock = ap (λ (v : View). v.hold_clock) h.view;
}

pub records_by : (a b : Known) (t : ℕ) (deed : Deed) → a.view.due ≤ t → Decides a b t deed → Records a b t deed
records_by a b t deed above h = record {
  keeps = keeps_by a b h.place (ap (λ (v : View). v.pin) h.view) (ap (λ (v : View). v.snapshot) h.view);
  calls = ap (λ (v : View). v.calls) h.view;
  due = ap (λ (v : View). v.due) h.view;
  above = above;
}

pub lost_by : (a b : Known) (t : ℕ) → LosesTime a b t → Still a b
lost_by a b t h = still_by a b h.place (ap left h.view)

-- filled and entered
pub still_entered : (a b c : Known) (key : ℕ) (written : Option (List ℕ)) → Fills a b key written → Enters b c → Still a c
still_entered a b c key written fills enters =
    still_trans a b c (still_by a b fills.parts.place (ap left fills.parts.view)) (still_seat b c enters.seat (ap left enters.view))

pub still_reads : (a b : Known) → OnlyReads a b → Still a b
still_reads a b h = still_seat a b h.seat (ap left h.view)

-- where no snapshot waits for its time, the end of a read leaves it
pub stays_open : (s : SnapshotState) → IsSettled s → ended_snapshot s ≡ s
stays_open Absent is = refl
stays_open (Noted noted) is = absurd is
stays_open (Timed noted time) is = absurd is
stays_open (Open noted time) is = refl

-- what is so where the call before went well
pub when_ok : {T E P : Type 0} (r : Result T E) → is_ok r ≡ true → OnOk r P → P
when_ok (Ok x) is holds = holds
when_ok (Err error) is holds = absurd cc
