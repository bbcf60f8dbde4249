-- A seat's records by themselves: one record more, what a read's end adds, and how far the due
-- moves.
use Rattle.std.proofs.Common.{◌≡◌, ◌≢◌, ℕ, zero, suc, ◌+◌, ◌-◌, ◌<◌, ◌≤◌, ◌==◌, Bool, true, false, cond, List, [], ◌∷◌, ◌++◌, length, sym, refl, ap}
use Rattle.std.proofs.Common.{◌∙◌, subst, eq-eqb, arith, inl, inr, Option, Some, None}
use Rattle.std.specs.List.{AllByRecursion}
use Rattle.clsm_model.specs.declared.slot.Slot.{Slot}
use Rattle.clsm_model.specs.declared.slot.Slot.TheVariants.{Nothing, Wrote}
use Rattle.std.proofs.lemmas.Bool.{cases_lt, le-leb, lt-leb}
use Rattle.clsm_model.specs.declared.slot.Change.{Change}
use Rattle.clsm_model.specs.declared.slot.Change.TheVariants.{Keep, Set, Remove as Erase}
use Rattle.clsm_model.specs.declared.record.Deed.{Deed}
use Rattle.clsm_model.specs.declared.record.Deed.TheVariants.{Put, Remove, Rmw, Snapshot, Batch as Group}
use Rattle.clsm_model.specs.declared.record.CallRecord.{CallRecord}
use Rattle.clsm_model.specs.History.{History, end_of}
use Rattle.clsm_model.specs.Right.{IsRight, Member, change_by, member_write, write_at, write_by}
use Rattle.clsm_law.specs.declared.step.End.{End}
use Rattle.clsm_law.specs.declared.step.End.TheVariants.{Neither, Meeting, Recorded}
use Rattle.clsm_law.specs.declared.view.View.{View}
use Rattle.clsm_law.specs.declared.view.SnapshotState.{SnapshotState}
use Rattle.clsm_law.specs.declared.view.SnapshotState.TheVariants.{Noted, Timed}
use Rattle.clsm_law.specs.Views.{or_zero, SaysWrite}
use Rattle.clsm_law.specs.OpenSteps.{IsReadBelow, timed, time_of_read, is_old, IsRightAt, IsMetAt, IsEndingWith}
use Rattle.clsm_law.specs.Relation.{call_of, member_of, ended_calls, ended_due}
use Rattle.clsm_model.specs.Seats.{IsRightDeed, IsRightRecord, StandsAs, IsStandingRecord, HasWrite}
use Rattle.clsm_law.proofs.Cases.{by_test}
use Rattle.clsm_law.proofs.Records.Histories.{GoesOn, IsRightDeed-right, IsRight-goes_on}

-- ---- rows of records

-- a write recorded stays so with records behind it
pub has_before : (i t : ℕ) (write : Slot) (xs ys : List CallRecord) → HasWrite i t write xs → HasWrite i t write (xs ++ ys)
has_before i t write [] ys h = absurd h
has_before i t write (x ∷ xs) ys (inl here) = inl here
has_before i t write (x ∷ xs) ys (inr there) = inr (has_before i t write xs ys there)

-- and the last record may be it
pub has_last : (i t : ℕ) (write : Slot) (xs : List CallRecord) (r : CallRecord) → write_at i r.time r.deed t ≡ Some write → HasWrite i t write (xs ++ r ∷ [])
has_last i t write [] r is = inl is
has_last i t write (x ∷ xs) r is = inr (has_last i t write xs r is)

-- ---- what stands

pub stands_itself : (write slot : Option Slot) → slot ≡ write → StandsAs write slot
stands_itself None slot e = tt
stands_itself (Some write) slot e = e

pub stands_stays : (write slot slot' : Option Slot) → ((b : Slot) → slot ≡ Some b → slot' ≡ Some b) → StandsAs write slot → StandsAs write slot'
stands_stays None slot slot' stays h = tt
stands_stays (Some write) slot slot' stays h = stays write h

-- records that stand go on standing where decided slots stay
pub all_stand_stay : (slot slot' : ℕ → Option Slot) (i : ℕ) (calls : List CallRecord) → ((t : ℕ) (b : Slot) → slot t ≡ Some b → slot' t ≡ Some b)
    → AllByRecursion (IsStandingRecord slot i) calls → AllByRecursion (IsStandingRecord slot' i) calls
all_stand_stay slot slot' i [] stays all = tt
all_stand_stay slot slot' i (r ∷ rs) stays all = (
  (all.0.0, λ t. stands_stays (write_at i r.time r.deed t) (slot t) (slot' t) (stays t) (all.0.1 t)),
  all_stand_stay slot slot' i rs stays all.1,
)

-- ---- a deed that writes

-- what a Decide writes is right where its read is
pub decided_right : (h h' : History) (u : View) (t : ℕ) (deed : Deed) → GoesOn h h' → SaysWrite u (write_by 0 deed) → IsReadBelow h u t deed
    → IsRightDeed h' t deed
decided_right h h' u t (Put key written) on says below = tt
decided_right h h' u t (Remove key) on says below = tt
decided_right h h' u t (Rmw key old change) on says below = IsRight-goes_on h h' t (Rmw key old change) on below.1
decided_right h h' u t deed on says below = absurd says

-- a deed that writes once writes at its time
pub writes_once : (u : View) (i s t : ℕ) (deed : Deed) → SaysWrite u (write_by 0 deed) → write_at i s deed t ≡ cond (s == t) (write_by i deed) None
writes_once u i s t (Put key written) says = refl
writes_once u i s t (Remove key) says = refl
writes_once u i s t (Rmw key old change) says = refl
writes_once u i s t deed says = absurd says

-- so it stands where its write is the slot
pub once_stands : (u : View) (i s : ℕ) (deed : Deed) (slot : ℕ → Option Slot) → SaysWrite u (write_by 0 deed) → slot s ≡ write_by i deed → (t : ℕ)
    → StandsAs (write_at i s deed t) (slot t)
once_stands u i s deed slot says here t = subst (λ (o : Option Slot). StandsAs o (slot t)) (sym (writes_once u i s t deed says))
    (by_test (λ b. StandsAs (cond b (write_by i deed) None) (slot t)) s t (λ e. stands_itself (write_by i deed) (slot t) (ap slot (sym e) ∙ here)) (λ _. tt))

-- and there its record has it
pub once_written : (u : View) (i s : ℕ) (deed : Deed) (write : Slot) → SaysWrite u (write_by 0 deed) → write_by i deed ≡ Some write → write_at i s deed s
    ≡ Some write
once_written u i s deed write says is = writes_once u i s s deed says ∙ ap (λ b. cond b (write_by i deed) None) (eq-eqb s s refl) ∙ is

-- ---- members of a batch

-- behind the members there is no write
pub member_past : (i : ℕ) (ms : List Member) (n : ℕ) → length ms ≤ n → member_write i ms n ≡ None
member_past i [] n le = refl
member_past i (m ∷ ms) zero le = absurd (omega arith)
member_past i (m ∷ ms) (suc n) le = member_past i ms n (omega arith)

-- the write of a change is the seat's, and a write
change_writer : (i j key k : ℕ) (written : Option (List ℕ)) (change : Change) → change_by i key change ≡ Some (Wrote j k written) → i ≡ j
change_writer i j key k written Keep e = absurd cc
change_writer i j key k written (Set words) e = cc
change_writer i j key k written Erase e = cc

change_writes : (i key : ℕ) (change : Change) → change_by i key change ≢ Some Nothing
change_writes i key Keep e = absurd cc
change_writes i key (Set words) e = absurd cc
change_writes i key Erase e = absurd cc

pub member_writer : (i j k : ℕ) (written : Option (List ℕ)) (ms : List Member) (n : ℕ) → member_write i ms n ≡ Some (Wrote j k written) → i ≡ j
member_writer i j k written [] n e = absurd cc
member_writer i j k written (m ∷ ms) zero e = change_writer i j m.0 k written m.1 e
member_writer i j k written (m ∷ ms) (suc n) e = member_writer i j k written ms n e

pub member_writes : (i : ℕ) (ms : List Member) (n : ℕ) → member_write i ms n ≢ Some Nothing
member_writes i [] n e = absurd cc
member_writes i (m ∷ ms) zero e = change_writes i m.0 m.1 e
member_writes i (m ∷ ms) (suc n) e = member_writes i ms n e

-- one member more
pub member_before : (i : ℕ) (ms more : List Member) (n : ℕ) → n < length ms → member_write i (ms ++ more) n ≡ member_write i ms n
member_before i [] more n lt = absurd (omega arith)
member_before i (m ∷ ms) more zero lt = refl
member_before i (m ∷ ms) more (suc n) lt = member_before i ms more n (omega arith)

pub member_last : (u : View) (i : ℕ) (ms : List Member) (deed : Deed) (n : ℕ) → SaysWrite u (write_by 0 deed) → n ≡ length ms
    → member_write i (ms ++ member_of deed) n ≡ write_by i deed
member_last u i [] (Put key written) zero says e = refl
member_last u i [] (Remove key) zero says e = refl
member_last u i [] (Rmw key old change) zero says e = refl
member_last u i [] deed zero says e = absurd says
member_last u i [] deed (suc n) says e = absurd (omega arith)
member_last u i (m ∷ ms) deed zero says e = absurd (omega arith)
member_last u i (m ∷ ms) deed (suc n) says e = member_last u i ms deed n says (omega arith)

-- the writes of a batch at its times
pub batch_at : (i c t : ℕ) (ms : List Member) → c ≤ t → write_at i c (Group ms) t ≡ member_write i ms (t - c)
batch_at i c t ms le = ap (λ b. cond b (member_write i ms (t - c)) None) (le-leb c t le)

pub batch_stands : (i c : ℕ) (ms : List Member) (slot : ℕ → Option Slot) → ((n : ℕ) → n < length ms → slot (c + n) ≡ member_write i ms n) → (t : ℕ)
    → StandsAs (write_at i c (Group ms) t) (slot t)
batch_stands i c ms slot stand t = elim (cases_lt t c) [
  | inl lt ↦ subst (λ (o : Option Slot). StandsAs o (slot t)) (sym (ap (λ b. cond b (member_write i ms (t - c)) None) (lt-leb c t lt))) tt
  | inr le ↦ subst (λ (o : Option Slot). StandsAs o (slot t)) (sym (batch_at i c t ms le)) (elim (cases_lt (t - c) (length ms)) [
    | inl inside ↦ let back : c + (t - c) ≡ t = omega arith in stands_itself (member_write i ms (t - c)) (slot t) (ap slot (sym back) ∙ stand (t - c) inside)
    | inr past ↦ subst (λ (o : Option Slot). StandsAs o (slot t)) (sym (member_past i ms (t - c) past)) tt
  ])
]

-- the seat that a deed's write names is the seat that does it
pub writer_of : (i j key : ℕ) (written : Option (List ℕ)) (deed : Deed) → write_by i deed ≡ Some (Wrote j key written) → i ≡ j
writer_of i j key written (Put k words) e = cc
writer_of i j key written (Remove k) e = cc
writer_of i j key written (Rmw k old Keep) e = absurd cc
writer_of i j key written (Rmw k old (Set words)) e = cc
writer_of i j key written (Rmw k old Erase) e = cc
writer_of i j key written deed e = absurd cc

-- ---- the end of a read: u is the seat's view and n its snapshot's state, h its past

-- the record of a read that stands at a time is right there
read_right : (h : History) (u : View) (deed : Deed) (o : Option ℕ) → IsRightAt h u deed o → IsRightDeed h (or_zero o) deed
read_right h u deed None r = absurd r
read_right h u deed (Some s) r = IsRightDeed-right h s deed r.1

-- such a deed writes nothing
pub nothing_stands : (b : Bool) (slot : Option Slot) → StandsAs (cond b None None) slot
nothing_stands true slot = tt
nothing_stands false slot = tt

read_stands : (h : History) (i : ℕ) (u : View) (slot : Option Slot) (s t : ℕ) (deed : Deed) → IsRightAt h u deed (time_of_read u deed)
    → StandsAs (write_at i s deed t) slot
read_stands h i u slot s t (Put key written) r = absurd r
read_stands h i u slot s t (Remove key) r = absurd r
read_stands h i u slot s t (Rmw key old Keep) r = nothing_stands (s == t) slot
read_stands h i u slot s t (Rmw key old (Set written)) r = absurd r
read_stands h i u slot s t (Rmw key old Erase) r = absurd r
read_stands h i u slot s t (Group members) r = absurd r
read_stands h i u slot s t deed r = nothing_stands (s == t) slot

module _ (h : History) (i : ℕ) (u : View) where
  -- a fact of the records with which a read ends, from that of the snapshot that it makes and that
  -- of the read that it was
  pub ended_each : (P : CallRecord → Type 0) (n : SnapshotState) (end : End) → u.snapshot ≡ n → IsEndingWith h u n end
      → (IsRight h (or_zero (timed u.snapshot)) Snapshot → P (call_of i (or_zero (timed u.snapshot)) Snapshot))
      → ((deed : Deed) → IsRightAt h u deed (time_of_read u deed) → P (call_of i (or_zero (time_of_read u deed)) deed))
      → AllByRecursion P (ended_calls i u end)
  ended_each P (Noted b) end e p snapshot read = absurd p
  ended_each P (Timed b s) Neither e p snapshot read = absurd p
  ended_each P (Timed b s) Meeting e p snapshot read = absurd p
  ended_each P (Timed b s) (Recorded Snapshot) e p snapshot read =
      (snapshot (subst (λ (n : SnapshotState). IsRight h (or_zero (timed n)) Snapshot) (sym e) p.1), tt)
  ended_each P (Timed b s) (Recorded deed) e p snapshot read = absurd p
  ended_each P n Neither e p snapshot read = tt
  ended_each P n Meeting e p snapshot read = tt
  ended_each P n (Recorded Snapshot) e p snapshot read = absurd p
  ended_each P n (Recorded deed) e p snapshot read = (read deed p, tt)

  -- they are right
  pub ended_right : (end : End) → IsEndingWith h u u.snapshot end → AllByRecursion (IsRightRecord h) (ended_calls i u end)
  ended_right end p = ended_each (IsRightRecord h) u.snapshot end refl p (λ r. r) (λ deed r. read_right h u deed (time_of_read u deed) r)

  -- and write nothing
  pub ended_stands : (slot : ℕ → Option Slot) (end : End) → IsEndingWith h u u.snapshot end → AllByRecursion (IsStandingRecord slot i) (ended_calls i u end)
  ended_stands slot end p = ended_each (IsStandingRecord slot i) u.snapshot end refl p
      (λ r. (refl, λ t. nothing_stands (or_zero (timed u.snapshot) == t) (slot t)))
      (λ deed r. (refl, λ t. read_stands h i u (slot t) (or_zero (time_of_read u deed)) t deed r))

  -- the due after a read moves no further than the past
  module _ (bound : ℕ) (due : u.due ≤ bound) (past : u.past ≤ bound) (reach : end_of h ≤ bound) where
    met_within : (o : Option ℕ) → IsMetAt u o → or_zero o ≤ bound
    met_within None p = absurd p
    met_within (Some s) p = let le = p.1 in omega arith

    read_within : (deed : Deed) (o : Option ℕ) → IsRightAt h u deed o → or_zero o ≤ bound
    read_within deed None p = absurd p
    read_within deed (Some s) p = let le = p.1.readable.reached in omega arith

    due_within : (deed : Deed) (o : Option ℕ) → IsRightAt h u deed o → cond (is_old u deed) u.due (or_zero o) ≤ bound
    due_within deed o p = let le = read_within deed o p in elim (is_old u deed) as (λ b. cond b u.due (or_zero o) ≤ bound) [ true ↦ due | false ↦ le ]

    pub ended_within : (n : SnapshotState) (end : End) → u.snapshot ≡ n → IsEndingWith h u n end → ended_due u end ≤ bound
    ended_within (Noted b) end e p = absurd p
    ended_within (Timed b s) Neither e p = absurd p
    ended_within (Timed b s) Meeting e p = absurd p
    ended_within (Timed b s) (Recorded Snapshot) e p = let le = p.1.readable.reached in
        subst (λ (n : SnapshotState). or_zero (timed n) ≤ bound) (sym e) (omega arith)
    ended_within (Timed b s) (Recorded deed) e p = absurd p
    ended_within n Neither e p = due
    ended_within n Meeting e p = met_within u.pin_clock p
    ended_within n (Recorded Snapshot) e p = absurd p
    ended_within n (Recorded deed) e p = due_within deed (time_of_read u deed) p
