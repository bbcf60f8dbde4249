-- How the clauses on the list of batches are kept, and that no time that is read is inside one.
use Rattle.std.proofs.Common.{◌≡◌, ◌≢◌, ℕ, suc, ◌+◌, ◌-◌, ◌*◌, ◌<◌, ◌≤◌, ◌==◌, ◌&&◌, not, Bool, true, cond, max, List, [], ◌∷◌, length, sym, refl, ap}
use Rattle.std.proofs.Common.{◌∙◌, subst, arith, inl, inr, Option, Some, None}
use Rattle.std.specs.List.{AllByRecursion}
use Rattle.std.proofs.lemmas.Bool.{cases_lt, and_parts, eqb-true, ltb-true}
use Rattle.std.specs.Prelude.{nat_le, nat_lt}
use Rattle.clsm_model.specs.declared.batch.Batch.{Batch}
use Rattle.clsm_model.specs.declared.slot.Slot.{Slot}
use Rattle.clsm_model.specs.declared.slot.Slot.TheVariants.{Nothing}
use Rattle.clsm_model.specs.declared.record.Deed.{Deed}
use Rattle.clsm_model.specs.declared.record.Deed.TheVariants.{Put, Remove, Rmw, Batch as Group}
use Rattle.clsm_model.specs.declared.record.CallRecord.{CallRecord}
use Rattle.clsm_model.specs.History.{History, IsUncut, IsListed, AreInTurn, end_of}
use Rattle.clsm_model.specs.Right.{AreWrites, Member, IsRight, change_by, member_write, write_by}
use Rattle.clsm_model.specs.Seats.{FitsDeed, FitsRecord, IsRightDeed, IsRightRecord, IsUncutDeed, IsUncutRecord, IsListedDeed, IsListedRecord}
use Rattle.clsm_law.specs.declared.word.Word.TheVariants.{Clock, Front, Merged, State}
use Rattle.clsm_law.specs.declared.word.Part.TheVariants.{Key}
use Rattle.clsm_law.specs.declared.step.Step.{Step}
use Rattle.clsm_law.specs.declared.step.Step.TheVariants.{Fill, Decide, Cancel, Commit, Pin, Unpin, Look, RaiseFront, Note, CloseSnapshot, WriteRun}
use Rattle.clsm_law.specs.declared.view.View.{View}
use Rattle.clsm_law.specs.declared.view.SnapshotState.{SnapshotState}
use Rattle.clsm_law.specs.declared.view.SnapshotState.TheVariants.{Absent, Noted, Timed, Open}
use Rattle.clsm_law.specs.Memory.{Memory}
use Rattle.clsm_law.specs.Views.{SaysWrite, is_below, or_zero}
use Rattle.clsm_law.specs.OpenSteps.{IsReadBelow, IsRightAt, IsOpenSnapshot, time_of_read, open_time}
use Rattle.clsm_law.specs.Relation.{is_seen, is_seen_of, takes_hold, timed_by, ended_snapshot, reached_after}
use Rattle.clsm_law.specs.Worlds.{outcome_at, past_of, open_past}
use Rattle.clsm_law.specs.Law.{each, IsSnapshot}
use Rattle.clsm_law.specs.Batches.{AreFitting, IsWritten, AreUncutNotes, AreUncutSnapshots, AreUncutPasts, AreUncut, AreListed, snapshot_time}
use Rattle.clsm_law.proofs.Cases.{by_bool}
use Rattle.clsm_law.proofs.Setting.{Setting, Ground, v, w, M, V, S, B, Opens, Allows, OpensTo, memory', slots', looked_same, merger_looked_same, by_seat}
use Rattle.clsm_law.proofs.Growth.{slots_stay}
use Rattle.clsm_law.proofs.GrowthMerger.{slots_stay'}
use Rattle.clsm_law.proofs.Records.Histories.{end_of-past_min}
use Rattle.clsm_law.proofs.Records.Facts.{ended_each, member_writes}
use Rattle.clsm_law.proofs.Frames.{slot_below}
use Rattle.clsm_law.proofs.Batches.Facts.{in_turn_more, in_turn_next, in_turn_uncut, uncut_next, listed_before, listed_last}
use Rattle.clsm_law.proofs.Batches.Opens.{opens_plain}
use Rattle.clsm_law.proofs.Clock.Kept.{clock_grows, clock_grows', commits_at}
use Rattle.clsm_law.proofs.Decided.Kept.{run_other}
use Rattle.clsm_law.proofs.Records.Kept.{added, commits_member, each_record}
use Rattle.clsm_levels.proofs.Every.{every-append, every_weaker}

-- ---- FRONT, pasts and what is reached are not beyond the clock

-- what a seat reaches past a time that it found decided
reached_within : (s : Setting) (t : ℕ) → reached_after s.z (v s) t ≤ s.memory Clock
reached_within s t = by_bool (λ b. (t == (v s).reached && is_seen s.z (v s) t) ≡ b → cond b ((v s).reached + 1) (v s).reached ≤ s.memory Clock)
    (t == (v s).reached && is_seen s.z (v s) t)
    (λ _ e. let both = and_parts (t == (v s).reached) (is_seen s.z (v s) t) e in let at = eqb-true t (v s).reached both.0 in
    let below = seen (v s).held both.1 in omega arith)
    (λ _ _. s.law.reached_clock s.me) refl
  where
    within : (c : Option ℕ) → (v s).clock ≡ c → is_below t c ≡ true → t < s.memory Clock
    within None e below = absurd cc
    within (Some n) e below = let a = s.law.clocks s.me n e in let b = ltb-true t n below in omega arith

    seen : (h : Option ℕ) → is_seen_of s.z h (v s).clock t ≡ true → t < s.memory Clock
    seen None e = absurd cc
    seen (Some m) e = within (v s).clock refl (and_parts (nat_le (m * s.z.cells) t && nat_lt t ((m + 2) * s.z.cells)) (is_below t (v s).clock) e).1

pub own_reached : (s : Setting) (step : Step) → Opens s step → (w s step).reached ≤ M s step Clock
own_reached s (Look Front) o = let a = s.law.reached_clock s.me in let b = s.law.front_clock in omega arith
own_reached s (Look Merged) o = let a = s.law.reached_clock s.me in let b = s.law.begun in let e : s.memory Merged * s.z.cells
    ≡ s.merger.merged * s.z.cells = ap (λ (n : ℕ). n * s.z.cells) s.law.merged in
    by_bool (λ b. cond b (max (v s).reached (s.memory Merged * s.z.cells)) (v s).reached ≤ s.memory Clock) (takes_hold (v s)) (λ _. omega arith) (λ _. a)
own_reached s (Look (State cell)) o = by_bool (λ b. cond b (reached_after s.z (v s) (v s).reached) (v s).reached ≤ s.memory Clock)
    (not (s.memory (State cell) == 0) && cell == _) (λ _. reached_within s (v s).reached) (λ _. s.law.reached_clock s.me)
own_reached s (Look word) o = let a = clock_grows s (Look word) o in let b = s.law.reached_clock s.me in omega arith
own_reached s (Decide t deed) o = reached_within s t
own_reached s (Cancel t) o = reached_within s t
own_reached s (Fill Key n) o = s.law.reached_clock s.me
own_reached s (Fill part n) o = s.law.reached_clock s.me
own_reached s step o = let a = clock_grows s step o in let b = s.law.reached_clock s.me in omega arith

pub own_past : (s : Setting) (step : Step) → Opens s step → (w s step).past ≤ M s step Clock
own_past s (RaiseFront t) o = let a = s.law.past_clock s.me in let b = s.law.reached_clock s.me in let c = o.0 in omega arith
own_past s (Look Clock) o = s.law.past_clock s.me
own_past s (Look word) o = let a = clock_grows s (Look word) o in let b = s.law.past_clock s.me in omega arith
own_past s (Fill Key n) o = s.law.past_clock s.me
own_past s (Fill part n) o = s.law.past_clock s.me
own_past s step o = let a = clock_grows s step o in let b = s.law.past_clock s.me in omega arith

pub front_clock_kept : (s : Setting) (step : Step) → Opens s step → M s step Front ≤ M s step Clock
front_clock_kept s (RaiseFront t) o = let a = s.law.front_clock in let b = s.law.reached_clock s.me in let c = o.0 in omega arith
front_clock_kept s (Look word) o = subst (λ (m : Memory). m Front ≤ m Clock) (sym (looked_same s word)) s.law.front_clock
front_clock_kept s step o = let a = clock_grows s step o in let b = s.law.front_clock in omega arith

pub front_clock_merged : (g : Ground) (step : Step) → OpensTo g step → memory' g step Front ≤ memory' g step Clock
front_clock_merged g (Look word) o = subst (λ (m : Memory). m Front ≤ m Clock) (sym (merger_looked_same g word)) g.law.front_clock
front_clock_merged g (WriteRun word n) o = let a = run_other g.memory word Front n o.1 (λ r. r) in let b = run_other g.memory word Clock n o.1 (λ r. r) in
    let c = g.law.front_clock in omega arith
front_clock_merged g step o = let a = clock_grows' g step o in let b = g.law.front_clock in omega arith

-- ---- the list

some_members : (members : List Member) → members ≢ [] → 0 < length members
some_members [] ne = absurd (ne refl)
some_members (m ∷ ms) ne = omega arith

pub in_turn_kept : (s : Setting) (step : Step) → Opens s step → AreInTurn 0 (B s step) (M s step Clock)
in_turn_kept s (Commit members) o = in_turn_next 0 s.batches (or_zero (v s).hold_clock) (length members) (some_members members o.5)
    (subst (AreInTurn 0 s.batches) (sym (commits_at s members o)) s.law.in_turn)
in_turn_kept s step o = in_turn_more 0 s.batches (s.memory Clock) (M s step Clock) (clock_grows s step o) s.law.in_turn

pub in_turn_merged : (g : Ground) (step : Step) → OpensTo g step → AreInTurn 0 g.batches (memory' g step Clock)
in_turn_merged g step o = in_turn_more 0 g.batches (g.memory Clock) (memory' g step Clock) (clock_grows' g step o) g.law.in_turn

-- a write stays
write_stays : (o o' : Option Slot) → ((b : Slot) → o ≡ Some b → o' ≡ Some b) → (o ≢ None) × (o ≢ Some Nothing) → (o' ≢ None) × (o' ≢ Some Nothing)
write_stays None o' stays h = absurd (h.0 refl)
write_stays (Some b) o' stays h = let e = stays b refl in ((λ none. absurd cc), (λ nothing. h.1 (sym e ∙ nothing)))

written_stay : (slot slot' : ℕ → Option Slot) (bs : List Batch) → ((t : ℕ) (b : Slot) → slot t ≡ Some b → slot' t ≡ Some b)
    → AllByRecursion (IsWritten slot) bs → AllByRecursion (IsWritten slot') bs
written_stay slot slot' bs stays all = every_weaker (IsWritten slot) (IsWritten slot')
    (λ b h t from until. write_stays (slot t) (slot' t) (stays t) (h t from until)) bs all

-- the members of a commit are writes
commits_writes : (s : Setting) (members : List Member) → Opens s (Commit members)
    → IsWritten (outcome_at s.slots) (record { first = or_zero (v s).hold_clock; size = length members })
commits_writes s members o t from until =
    let c = or_zero (v s).hold_clock in
    let back : c + (t - c) ≡ t = omega arith in
    let m = commits_member s members o (t - c) (omega arith) in
    subst (λ (a : Option Slot). (a ≢ None) × (a ≢ Some Nothing)) (sym m.1 ∙ ap (outcome_at s.slots) back) (m.0, member_writes s.me members (t - c))

pub written_kept : (s : Setting) (step : Step) → Opens s step → AllByRecursion (IsWritten (outcome_at (S s step))) (B s step)
written_kept s (Commit members) o = every-append (IsWritten (outcome_at s.slots)) s.batches
    (record { first = or_zero (v s).hold_clock; size = length members } ∷ []) s.law.written (commits_writes s members o, tt)
written_kept s step o = written_stay (outcome_at s.slots) (outcome_at (S s step)) s.batches (slots_stay s step o) s.law.written

pub written_merged : (g : Ground) (step : Step) → OpensTo g step → AllByRecursion (IsWritten (outcome_at (slots' g step))) g.batches
written_merged g step o = written_stay (outcome_at g.slots) (outcome_at (slots' g step)) g.batches (slots_stay' g step o) g.law.written

-- ---- no time that is read is inside a batch

-- the clock is inside none
clock_uncut : (s : Setting) → IsUncut s.batches (s.memory Clock)
clock_uncut s = in_turn_uncut 0 s.batches (s.memory Clock) (s.memory Clock) s.law.in_turn (omega arith)

-- and a time up to the clock is not inside what is committed now
commits_uncut : (s : Setting) (step : Step) → Opens s step → (t : ℕ) → t ≤ s.memory Clock → IsUncut s.batches t → IsUncut (B s step) t
commits_uncut s (Commit members) o t le h = let at = commits_at s members o in
    uncut_next s.batches (or_zero (v s).hold_clock) (length members) t (omega arith) h
commits_uncut s step o t le h = h

-- of two uncut times the greater is uncut
uncut_max : (bs : List Batch) (a b : ℕ) → IsUncut bs a → IsUncut bs b → IsUncut bs (max a b)
uncut_max bs a b h k = elim (cases_lt a b) [
  | inl lt ↦ let e : max a b ≡ b = omega arith in subst (IsUncut bs) (sym e) k
  | inr le ↦ let e : max a b ≡ a = omega arith in subst (IsUncut bs) (sym e) h
]

pub uncut_front_kept : (s : Setting) (step : Step) → Allows s step → IsUncut (B s step) (M s step Front)
uncut_front_kept s (RaiseFront t) o = uncut_max s.batches (s.memory Front) t s.law.uncut_front o.1
uncut_front_kept s (Look word) o = subst (λ (m : Memory). IsUncut s.batches (m Front)) (sym (looked_same s word)) s.law.uncut_front
uncut_front_kept s step o = commits_uncut s step (opens_plain s step o) (s.memory Front) s.law.front_clock s.law.uncut_front

pub uncut_front_merged : (g : Ground) (step : Step) → OpensTo g step → IsUncut g.batches (memory' g step Front)
uncut_front_merged g (Look word) o = subst (λ (m : Memory). IsUncut g.batches (m Front)) (sym (merger_looked_same g word)) g.law.uncut_front
uncut_front_merged g (WriteRun word n) o = subst (IsUncut g.batches) (sym (run_other g.memory word Front n o.1 (λ r. r))) g.law.uncut_front
uncut_front_merged g step o = g.law.uncut_front

-- a time noted under a pin
pin_noted : (s : Setting) (step : Step) → Opens s step → (i t : ℕ) → each s.z View.pin_clock s.views i ≡ Some t → IsUncut (B s step) t
pin_noted s step o i t e = commits_uncut s step o t (s.law.pin_clocks i t e) (s.law.uncut_pins i t e)

own_pin : (s : Setting) (step : Step) → Opens s step → (t : ℕ) → (w s step).pin_clock ≡ Some t → IsUncut (B s step) t
own_pin s Pin o t e = absurd cc
own_pin s (Unpin end) o t e = absurd cc
own_pin s (Look Clock) o t e = by_bool (λ b. cond b (Some (s.memory Clock)) (v s).pin_clock ≡ Some t → IsUncut s.batches t) (v s).pinned
    (λ _ e. let same : s.memory Clock ≡ t = cc in subst (IsUncut s.batches) same (clock_uncut s)) (λ _ e. s.law.uncut_pins s.me t e) e
own_pin s (Fill Key n) o t e = s.law.uncut_pins s.me t e
own_pin s step o t e = pin_noted s step o s.me t e

pub uncut_pins_kept : (s : Setting) (step : Step) → Opens s step → AreUncutNotes (B s step) (each s.z View.pin_clock (V s step))
uncut_pins_kept s step o = by_seat s (w s step) (λ i u. (t : ℕ) → u.pin_clock ≡ Some t → IsUncut (B s step) t) (own_pin s step o)
    (λ i ne. pin_noted s step o i)

-- a snapshot's time
snapshot_within : (floor clock past s : ℕ) (pinned : Bool) (n : SnapshotState) → past ≤ clock → IsSnapshot floor clock past pinned n → snapshot_time n
    ≡ Some s → s ≤ clock
snapshot_within floor clock past s pinned Absent le h e = absurd cc
snapshot_within floor clock past s pinned (Noted b) le h e = absurd cc
snapshot_within floor clock past s pinned (Timed b t) le h e = let same : t ≡ s = cc in let a = h.2 in omega arith
snapshot_within floor clock past s pinned (Open b t) le h e = let same : t ≡ s = cc in let a = h.2 in omega arith

snapshot_noted : (s : Setting) (step : Step) → Opens s step → (i t : ℕ) → snapshot_time (each s.z View.snapshot s.views i) ≡ Some t → IsUncut (B s step) t
snapshot_noted s step o i t e =
    commits_uncut s step o t (snapshot_within s.merger.floor (s.memory Clock) (each s.z View.past s.views i) t _ (each s.z View.snapshot s.views i)
    (s.law.past_clock i) (s.law.snapshots i) e) (s.law.uncut_snapshots i t e)

timed_uncut : (bs : List Batch) (n : SnapshotState) (c t : ℕ) → IsUncut bs c → (snapshot_time n ≡ Some t → IsUncut bs t) → snapshot_time (timed_by n c)
    ≡ Some t → IsUncut bs t
timed_uncut bs (Noted b) c t clock h e = let same : c ≡ t = cc in subst (IsUncut bs) same clock
timed_uncut bs Absent c t clock h e = h e
timed_uncut bs (Timed b u) c t clock h e = h e
timed_uncut bs (Open b u) c t clock h e = h e

ended_time : (n : SnapshotState) → snapshot_time (ended_snapshot n) ≡ snapshot_time n
ended_time Absent = refl
ended_time (Noted b) = refl
ended_time (Timed b t) = refl
ended_time (Open b t) = refl

own_snapshot : (s : Setting) (step : Step) → Opens s step → (t : ℕ) → snapshot_time (w s step).snapshot ≡ Some t → IsUncut (B s step) t
own_snapshot s (Look Clock) o t e = timed_uncut s.batches (v s).snapshot (s.memory Clock) t (clock_uncut s) (s.law.uncut_snapshots s.me t) e
own_snapshot s (Unpin end) o t e = s.law.uncut_snapshots s.me t (sym (ended_time (v s).snapshot) ∙ e)
own_snapshot s (Note b) o t e = absurd cc
own_snapshot s CloseSnapshot o t e = absurd cc
own_snapshot s (Fill Key n) o t e = s.law.uncut_snapshots s.me t e
own_snapshot s step o t e = snapshot_noted s step o s.me t e

pub uncut_snapshots_kept : (s : Setting) (step : Step) → Opens s step → AreUncutSnapshots (B s step) (each s.z View.snapshot (V s step))
uncut_snapshots_kept s step o = by_seat s (w s step) (λ i u. (t : ℕ) → snapshot_time u.snapshot ≡ Some t → IsUncut (B s step) t)
    (own_snapshot s step o) (λ i ne. snapshot_noted s step o i)

-- the end of a past
own_end : (s : Setting) (step : Step) → Allows s step → IsUncut (B s step) (w s step).past
own_end s (RaiseFront t) o = uncut_max s.batches (v s).past t (s.law.uncut_pasts s.me) o.1
own_end s (Fill Key n) o = s.law.uncut_pasts s.me
own_end s (Look Clock) o = s.law.uncut_pasts s.me
own_end s step o = commits_uncut s step (opens_plain s step o) (v s).past (s.law.past_clock s.me) (s.law.uncut_pasts s.me)

pub uncut_pasts_kept : (s : Setting) (step : Step) → Allows s step → AreUncutPasts (B s step) (each s.z View.past (V s step))
uncut_pasts_kept s step o = by_seat s (w s step) (λ i u. IsUncut (B s step) u.past) (own_end s step o)
    (λ i ne. commits_uncut s step (opens_plain s step o) (each s.z View.past s.views i) (s.law.past_clock i) (s.law.uncut_pasts i))

-- ---- records

-- what read at a time up to the clock is not cut by what is committed now
deed_uncut : (s : Setting) (step : Step) → Opens s step → (h : History) (t : ℕ) (deed : Deed) → end_of h ≤ s.memory Clock → IsRightDeed h t deed
    → IsUncutDeed s.batches t deed → IsUncutDeed (B s step) t deed
deed_uncut s step o h t (Put key written) le r u = tt
deed_uncut s step o h t (Remove key) le r u = tt
deed_uncut s step o h t (Group members) le r u = tt
deed_uncut s step o h t deed le r u = commits_uncut s step o t (let a = r.readable.reached in omega arith) u

all_uncut : (s : Setting) (step : Step) → Opens s step → (h : History) (calls : List CallRecord) → end_of h ≤ s.memory Clock
    → AllByRecursion (IsRightRecord h) calls → AllByRecursion (IsUncutRecord s.batches) calls → AllByRecursion (IsUncutRecord (B s step)) calls
all_uncut s step o h [] le right uncut = tt
all_uncut s step o h (r ∷ rs) le right uncut = (deed_uncut s step o h r.time r.deed le right.0 uncut.0, all_uncut s step o h rs le right.1 uncut.1)

uncut_before : (s : Setting) (step : Step) → Opens s step → (i : ℕ) → AllByRecursion (IsUncutRecord (B s step)) (each s.z View.calls s.views i)
uncut_before s step o i = let p = each s.z View.past s.views i in all_uncut s step o (past_of s.slots p) (each s.z View.calls s.views i)
    (let a = end_of-past_min s.slots p in let b = s.law.past_clock i in omega arith) (s.law.right i) (s.law.uncut i)

-- what is right with the batches is not cut
right_uncut : (h : History) (t : ℕ) (deed : Deed) → IsRight h t deed → IsUncutDeed h.batches t deed
right_uncut h t (Put key written) r = tt
right_uncut h t (Remove key) r = tt
right_uncut h t (Group members) r = tt
right_uncut h t deed r = r.readable.uncut

read_uncut : (h : History) (u : View) (deed : Deed) (o : Option ℕ) → IsRightAt h u deed o → IsUncutDeed h.batches (or_zero o) deed
read_uncut h u deed None r = absurd r
read_uncut h u deed (Some s) r = right_uncut h s deed r.1

write_uncut : (h : History) (u : View) (t : ℕ) (deed : Deed) → SaysWrite u (write_by 0 deed) → IsReadBelow h u t deed → IsUncutDeed h.batches t deed
write_uncut h u t (Put key written) says r = tt
write_uncut h u t (Remove key) says r = tt
write_uncut h u t (Rmw key old change) says r = r.1.readable.uncut
write_uncut h u t deed says r = absurd says

-- the close of a snapshot is at its time
close_uncut : (bs : List Batch) (n : SnapshotState) → IsOpenSnapshot n → ((t : ℕ) → snapshot_time n ≡ Some t → IsUncut bs t)
    → IsUncut bs (or_zero (open_time n))
close_uncut bs (Open b t) is h = h t refl
close_uncut bs Absent is h = absurd is
close_uncut bs n is h = absurd is

added_uncut : (s : Setting) (step : Step) → Allows s step → AllByRecursion (IsUncutRecord (B s step)) (added s step)
added_uncut s (Decide t deed) o = (write_uncut (open_past s.slots s.batches (v s).past) (v s) t deed o.2 o.3, tt)
added_uncut s (Commit members) o = (tt, tt)
added_uncut s (Unpin end) o = let h = open_past s.slots s.batches (v s).past in
    ended_each h s.me (v s) (IsUncutRecord s.batches) (v s).snapshot end refl o.1 (λ r. r.readable.uncut)
    (λ deed r. read_uncut h (v s) deed (time_of_read (v s) deed) r)
added_uncut s CloseSnapshot o = (close_uncut s.batches (v s).snapshot o (s.law.uncut_snapshots s.me), tt)
added_uncut s step o = tt

pub uncut_kept : (s : Setting) (step : Step) → Allows s step → AreUncut (B s step) (each s.z View.calls (V s step))
uncut_kept s step o = by_seat s (w s step) (λ i u. AllByRecursion (IsUncutRecord (B s step)) u.calls)
    (each_record s step (IsUncutRecord (B s step)) (uncut_before s step (opens_plain s step o) s.me) (λ _. added_uncut s step o))
    (λ i ne. uncut_before s step (opens_plain s step o) i)

-- a listed batch stays listed
still_listed : (s : Setting) (step : Step) (b : Batch) → IsListed s.batches b → IsListed (B s step) b
still_listed s (Commit members) b h = listed_before s.batches (record { first = or_zero (v s).hold_clock; size = length members } ∷ []) b h
still_listed s step b h = h

deed_listed : (s : Setting) (step : Step) (t : ℕ) (deed : Deed) → IsListedDeed s.batches t deed → IsListedDeed (B s step) t deed
deed_listed s step t (Group members) h = still_listed s step (record { first = t; size = length members }) h
deed_listed s step t deed h = tt

listed_stay : (s : Setting) (step : Step) (i : ℕ) → AllByRecursion (IsListedRecord (B s step)) (each s.z View.calls s.views i)
listed_stay s step i = every_weaker (IsListedRecord s.batches) (IsListedRecord (B s step)) (λ r h. deed_listed s step r.time r.deed h)
    (each s.z View.calls s.views i) (s.law.listed i)

-- a deed of one write, and one that reads, is no batch
write_listed : (bs : List Batch) (u : View) (t : ℕ) (deed : Deed) → SaysWrite u (write_by 0 deed) → IsListedDeed bs t deed
write_listed bs u t (Put key written) says = tt
write_listed bs u t (Remove key) says = tt
write_listed bs u t (Rmw key old change) says = tt
write_listed bs u t deed says = absurd says

read_listed : (bs : List Batch) (h : History) (u : View) (t : ℕ) (deed : Deed) → IsRightAt h u deed (time_of_read u deed) → IsListedDeed bs t deed
read_listed bs h u t (Group members) r = absurd r
read_listed bs h u t deed r = tt

added_listed : (s : Setting) (step : Step) → Opens s step → AllByRecursion (IsListedRecord (B s step)) (added s step)
added_listed s (Decide t deed) o = (write_listed s.batches (v s) t deed o.2, tt)
added_listed s (Commit members) o = (listed_last s.batches (record { first = or_zero (v s).hold_clock; size = length members }), tt)
added_listed s (Unpin end) o = let h = past_of s.slots (v s).past in
    ended_each h s.me (v s) (IsListedRecord s.batches) (v s).snapshot end refl o.1 (λ r. tt)
    (λ deed r. read_listed s.batches h (v s) (or_zero (time_of_read (v s) deed)) deed r)
added_listed s CloseSnapshot o = (tt, tt)
added_listed s step o = tt

pub listed_kept : (s : Setting) (step : Step) → Opens s step → AreListed (B s step) (each s.z View.calls (V s step))
listed_kept s step o = by_seat s (w s step) (λ i u. AllByRecursion (IsListedRecord (B s step)) u.calls)
    (each_record s step (IsListedRecord (B s step)) (listed_stay s step s.me) (λ _. added_listed s step o)) (λ i ne. listed_stay s step i)

-- ---- what is recorded fits

-- members of which each makes a write are writes
all_writes : (i : ℕ) (members : List Member) → ((n : ℕ) → n < length members → member_write i members n ≢ None) → AreWrites members
all_writes i [] h = tt
all_writes i (m ∷ ms) h = ((λ e. h 0 (omega arith) (ap (change_by i m.0) e)), all_writes i ms (λ n lt. h (suc n) (omega arith)))

-- the members of a commit stand from the clock on, below the limit
commits_few : (s : Setting) (members : List Member) → Opens s (Commit members) → length members ≤ s.z.cells
commits_few s [] o = omega arith
commits_few s (m ∷ ms) o =
    let c = or_zero (v s).hold_clock in
    let there = commits_member s (m ∷ ms) o (length ms) (omega arith) in
    let inside = slot_below s.slots (c + length ms) (λ none. there.0 (sym there.1 ∙ none)) in
    let at = commits_at s (m ∷ ms) o in let a = s.law.bounded in let b = s.law.current in omega arith

commits_fit : (s : Setting) (members : List Member) → Opens s (Commit members) → FitsDeed s.z.cells (Group members)
commits_fit s members o = (o.5, commits_few s members o, all_writes s.me members (λ n lt. (commits_member s members o n lt).0))

write_fits : (cells : ℕ) (u : View) (deed : Deed) → SaysWrite u (write_by 0 deed) → FitsDeed cells deed
write_fits cells u (Put key written) says = tt
write_fits cells u (Remove key) says = tt
write_fits cells u (Rmw key old change) says = tt
write_fits cells u deed says = absurd says

read_fits : (cells : ℕ) (h : History) (u : View) (deed : Deed) → IsRightAt h u deed (time_of_read u deed) → FitsDeed cells deed
read_fits cells h u (Group members) r = absurd r
read_fits cells h u deed r = tt

added_fits : (s : Setting) (step : Step) → Opens s step → AllByRecursion (FitsRecord s.z.cells) (added s step)
added_fits s (Decide t deed) o = (write_fits s.z.cells (v s) deed o.2, tt)
added_fits s (Commit members) o = (commits_fit s members o, tt)
added_fits s (Unpin end) o = let h = past_of s.slots (v s).past in
    ended_each h s.me (v s) (FitsRecord s.z.cells) (v s).snapshot end refl o.1 (λ r. tt) (λ deed r. read_fits s.z.cells h (v s) deed r)
added_fits s CloseSnapshot o = (tt, tt)
added_fits s step o = tt

pub fitting_kept : (s : Setting) (step : Step) → Opens s step → AreFitting s.z.cells (each s.z View.calls (V s step))
fitting_kept s step o = by_seat s (w s step) (λ i u. AllByRecursion (FitsRecord s.z.cells) u.calls)
    (each_record s step (FitsRecord s.z.cells) (s.law.fitting s.me) (λ _. added_fits s step o)) (λ i ne. s.law.fitting i)
