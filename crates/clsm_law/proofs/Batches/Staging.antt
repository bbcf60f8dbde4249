-- How it is kept what a seat takes for its batch.
use Rattle.std.proofs.Common.{◌≡◌, ◌≢◌, ℕ, ◌+◌, ◌<◌, ◌≤◌, ◌==◌, Bool, true, false, cond, List, [], ◌++◌, length, set, sym, refl, ap, ◌∙◌, subst, arith, inl}
use Rattle.std.proofs.Common.{inr, ⊎_elim, Option, Some, None, length-append}
use Rattle.std.proofs.lemmas.Bool.{cases_lt}
use Rattle.clsm_model.specs.declared.slot.Slot.{Slot}
use Rattle.clsm_model.specs.declared.slot.Slot.TheVariants.{Nothing}
use Rattle.clsm_model.specs.declared.record.Deed.{Deed}
use Rattle.clsm_model.specs.Right.{Member, member_write, write_by}
use Rattle.clsm_law.specs.declared.word.Word.TheVariants.{Clock}
use Rattle.clsm_law.specs.declared.word.Part.TheVariants.{Key}
use Rattle.clsm_law.specs.declared.step.Step.{Step}
use Rattle.clsm_law.specs.declared.step.Step.TheVariants.{EnterShared, LeaveShared, EnterExclusive, LeaveExclusive, Draw, Fill, Decide, Cancel, Commit}
use Rattle.clsm_law.specs.declared.step.Step.TheVariants.{Look, WriteRun, ExtendClock}
use Rattle.clsm_law.specs.declared.view.View.{View}
use Rattle.clsm_law.specs.declared.view.Mode.{Mode}
use Rattle.clsm_law.specs.declared.view.Mode.TheVariants.{Free, Shared, Exclusive}
use Rattle.clsm_law.specs.Memory.{Memory}
use Rattle.clsm_law.specs.Views.{IsBelow, is_exclusive}
use Rattle.clsm_law.specs.Relation.{given_up, holds_lock, member_of}
use Rattle.clsm_law.specs.Worlds.{outcome_at}
use Rattle.clsm_law.specs.Law.{each}
use Rattle.clsm_law.specs.Batches.{IsStaging, AreStaging}
use Rattle.clsm_law.proofs.Cases.{by_test}
use Rattle.clsm_law.proofs.Frames.{puts_slot}
use Rattle.clsm_law.proofs.Setting.{Setting, Ground, v, x, w, M, V, S, Opens, OpensTo, memory', slots', looked_same, merger_looked_same, drawn_shown}
use Rattle.clsm_law.proofs.Setting.{by_seat}
use Rattle.clsm_law.proofs.Growth.{cancels_shown}
use Rattle.clsm_law.proofs.Records.Facts.{member_before, member_last}
use Rattle.clsm_law.proofs.Clock.Kept.{alone_decides, alone_keeps, one_member, free_staged, free_drawn}
use Rattle.clsm_law.proofs.Decided.Kept.{run_other, says_write}

-- what a seat with this view takes
abbrev Stages : ℕ → ℕ → (ℕ → Option Slot) → View → Type 0
Stages clock i slot u = IsStaging clock i slot u.mode u.drawn u.staged u.committed u.hold_clock

-- a seat without an exclusive hold takes nothing
stages_none : (clock i : ℕ) (slot : ℕ → Option Slot) (u : View) → u.mode ≢ Exclusive → u.staged ≡ [] → Stages clock i slot u
stages_none clock i slot u ne none = record {
  shut = λ _. none;
  own = λ e. absurd (ne e);
  same = λ e. absurd (ne e);
  members = λ n lt. absurd (let l = ap (λ (l : List Member). length l) none in omega arith);
}

-- where the clock and the slots from it on stay, so does what is taken
stages_on : (clock clock' i : ℕ) (slot slot' : ℕ → Option Slot) (u : View) → clock' ≡ clock → ((t : ℕ) → clock ≤ t → slot' t ≡ slot t)
    → Stages clock i slot u → Stages clock' i slot' u
stages_on clock clock' i slot slot' u e same h = record {
  shut = h.shut;
  own = λ m t d. let o = h.own m t d in let at = o.0 in (omega arith, same t (omega arith) ∙ o.1);
  same = λ m c k n. h.same m c k n ∙ sym e;
  members = λ n lt. let m = h.members n lt in
      (m.0, subst (λ (k : ℕ). slot' (k + n) ≡ member_write i u.staged n) (sym e) (same (clock + n) (omega arith) ∙ m.1));
}

-- a time of another that is cancelled is below the clock
cancels_below : (s : Setting) (t : ℕ) → Opens s (Cancel t) → (v s).mode ≢ Shared → t < s.memory Clock
cancels_below s t o ne = ⊎_elim (λ (own : ((v s).drawn ≡ Some t) × ((v s).mode ≡ Shared)). absurd (ne own.1)) (λ h. until (v s).clock refl h.1) o
  where
    until : (c : Option ℕ) → (v s).clock ≡ c → IsBelow t c → t < s.memory Clock
    until None e h = absurd h
    until (Some n) e h = let a = s.law.clocks s.me n e in omega arith

-- the slots from the clock on after a cancel of a time below it
cancels_apart : (s : Setting) (t : ℕ) → Opens s (Cancel t) → (v s).mode ≢ Shared → (u : ℕ) → s.memory Clock ≤ u → outcome_at (S s (Cancel t)) u
    ≡ outcome_at s.slots u
cancels_apart s t o ne u le = let lt = cancels_below s t o ne in by_test
    (λ b. outcome_at (cond b (set s.slots t (Some Nothing)) s.slots) u ≡ outcome_at s.slots u) (x s (Cancel t)) 0
    (λ _. (puts_slot s.slots t (Some Nothing) (cancels_shown s t o).1).other u (λ same. absurd (omega arith))) (λ _. refl)

-- ---- another seat, while this one does not hold the lock

free_clock : (s : Setting) (step : Step) → Opens s step → (v s).mode ≡ Free → M s step Clock ≡ s.memory Clock
free_clock s (Draw t) o free = absurd (let shared = o.0 in cc)
free_clock s (Commit members) o free = absurd (let alone = o.0 in cc)
free_clock s (Look word) o free = ap (λ (m : Memory). m Clock) (looked_same s word)
free_clock s step o free = refl

free_slots : (s : Setting) (step : Step) → Opens s step → (v s).mode ≡ Free → (u : ℕ) → s.memory Clock ≤ u → outcome_at (S s step) u ≡ outcome_at s.slots u
free_slots s (Draw t) o free u le = absurd (let shared = o.0 in cc)
free_slots s (Decide t deed) o free u le = absurd (s.law.holding s.me t o.0 free)
free_slots s (Cancel t) o free u le = cancels_apart s t o (λ shared. absurd cc) u le
free_slots s step o free u le = refl

other_stages : (s : Setting) (step : Step) → Opens s step → (i : ℕ) → i ≢ s.me → (m : Mode) → each s.z View.mode s.views i ≡ m
    → IsStaging (M s step Clock) i (outcome_at (S s step)) (each s.z View.mode s.views i) (each s.z View.drawn s.views i) (each s.z View.staged s.views i)
    (each s.z View.committed s.views i) (each s.z View.hold_clock s.views i)
other_stages s step o i ne Exclusive e = let free = s.law.sole i s.me e (λ same. ne (sym same)) in
    stages_on (s.memory Clock) (M s step Clock) i (outcome_at s.slots) (outcome_at (S s step)) (each s.z (λ (u : View). u) s.views i)
    (free_clock s step o free) (free_slots s step o free) (s.law.staging i)
other_stages s step o i ne Free e = stages_none (M s step Clock) i (outcome_at (S s step)) (each s.z (λ (u : View). u) s.views i) (λ f. absurd cc)
    ((s.law.staging i).shut (λ f. absurd cc))
other_stages s step o i ne Shared e = stages_none (M s step Clock) i (outcome_at (S s step)) (each s.z (λ (u : View). u) s.views i) (λ f. absurd cc)
    ((s.law.staging i).shut (λ f. absurd cc))

-- ---- this seat

module _ (s : Setting) where
  abbrev Mine : Step → Type 0
  Mine step = Stages (M s step Clock) s.me (outcome_at (S s step)) (w s step)

  -- an entry into the lock
  enters : (kind : Mode) (b : Bool) (clock : ℕ) (slot : ℕ → Option Slot) (committed : Bool) → (v s).mode ≡ Free
      → IsStaging clock s.me slot (cond b kind (v s).mode) (v s).drawn (v s).staged committed (cond b None (v s).hold_clock)
  enters kind true clock slot committed free = record {
    shut = λ _. free_staged s free;
    own = λ e t d. absurd (let none = free_drawn s free in cc);
    same = λ e c k n. absurd cc;
    members = λ n lt. absurd (let l = ap (λ (l : List Member). length l) (free_staged s free) in omega arith);
  }
  enters kind false clock slot committed free = record {
    shut = λ _. free_staged s free;
    own = λ e. absurd cc;
    same = λ e. absurd cc;
    members = λ n lt. absurd (let l = ap (λ (l : List Member). length l) (free_staged s free) in omega arith);
  }

  -- a member that is decided
  decides : (t : ℕ) (deed : Deed) → Opens s (Decide t deed) → (v s).mode ≡ Exclusive
      → IsStaging (s.memory Clock) s.me (outcome_at (set s.slots t (write_by s.me deed))) (v s).mode None ((v s).staged ++ member_of deed) (v s).committed
      (v s).hold_clock
  decides t deed o alone = let h = s.law.staging s.me in let own = (h.own alone t o.0).0 in let p =
      puts_slot s.slots t (write_by s.me deed) (drawn_shown s.ground s.me t o.0).1 in
      let len = length-append (v s).staged (member_of deed) in let one = one_member (v s) deed o.2 in record {
        shut = λ ne. absurd (ne alone);
        own = λ e u d. absurd cc;
        same = h.same;
        members = λ n lt. elim (cases_lt n (length (v s).staged)) [
          | inl old ↦ let m = h.members n old in let before = member_before s.me (v s).staged (member_of deed) n old in
              (subst (λ (a : Option Slot). a ≢ None) (sym before) m.0, p.other (s.memory Clock + n) (λ same. absurd (omega arith)) ∙ m.1 ∙ sym before)
          | inr new ↦ let last = member_last (v s) s.me (v s).staged deed n o.2 (omega arith) in let here : s.memory Clock + n ≡ t = omega arith in
              let write = says_write (v s) deed s.me o.2 in
              ((λ none. absurd (let some = write.3 in cc)), ap (outcome_at (set s.slots t (write_by s.me deed))) here ∙ p.here ∙ sym last)
        ];
      }

  decided : (t : ℕ) (deed : Deed) → Opens s (Decide t deed) → (m : Mode) → (v s).mode ≡ m
      → IsStaging (s.memory Clock) s.me (outcome_at (cond (x s (Decide t deed) == 0) (set s.slots t (write_by s.me deed)) s.slots)) (v s).mode None
      (cond (is_exclusive m) (cond (x s (Decide t deed) == 0) ((v s).staged ++ member_of deed) (v s).staged) (v s).staged) (v s).committed (v s).hold_clock
  decided t deed o Free e = absurd (s.law.holding s.me t o.0 e)
  decided t deed o Shared e = record {
    shut = (s.law.staging s.me).shut;
    own = λ f. absurd cc;
    same = λ f. absurd cc;
    members = λ n lt. absurd (let none = (s.law.staging s.me).shut (λ f. absurd cc) in let l = ap (λ (l : List Member). length l) none in omega arith);
  }
  decided t deed o Exclusive e =
      subst (λ b. IsStaging (s.memory Clock) s.me (outcome_at (cond b (set s.slots t (write_by s.me deed)) s.slots)) (v s).mode None
      (cond b ((v s).staged ++ member_of deed) (v s).staged) (v s).committed (v s).hold_clock) (sym (ap (λ (n : ℕ). n == 0) (alone_decides s t deed o e)))
      (decides t deed o e)

  -- a time that is cancelled
  cancelled : (t : ℕ) → Opens s (Cancel t) → (m : Mode) → (v s).mode ≡ m
      → IsStaging (s.memory Clock) s.me (outcome_at (S s (Cancel t))) (v s).mode (given_up (v s).drawn t) (v s).staged (v s).committed (v s).hold_clock
  cancelled t o Exclusive e = subst (λ (d : Option ℕ). IsStaging (s.memory Clock) s.me (outcome_at (S s (Cancel t))) (v s).mode d (v s).staged
      (v s).committed (v s).hold_clock) (sym (alone_keeps s t o e))
      (stages_on (s.memory Clock) (s.memory Clock) s.me (outcome_at s.slots) (outcome_at (S s (Cancel t))) (v s) refl
      (cancels_apart s t o (λ shared. absurd cc)) (s.law.staging s.me))
  cancelled t o Free e = record {
    shut = (s.law.staging s.me).shut;
    own = λ f. absurd cc;
    same = λ f. absurd cc;
    members = λ n lt. absurd (let none = (s.law.staging s.me).shut (λ f. absurd cc) in let l = ap (λ (l : List Member). length l) none in omega arith);
  }
  cancelled t o Shared e = record {
    shut = (s.law.staging s.me).shut;
    own = λ f. absurd cc;
    same = λ f. absurd cc;
    members = λ n lt. absurd (let none = (s.law.staging s.me).shut (λ f. absurd cc) in let l = ap (λ (l : List Member). length l) none in omega arith);
  }

  -- a look at the clock
  noted : (b : Bool) → IsStaging (s.memory Clock) s.me (outcome_at s.slots) (v s).mode (v s).drawn (v s).staged (v s).committed
      (cond b (Some (s.memory Clock)) (v s).hold_clock)
  noted true = let h = s.law.staging s.me in record { shut = h.shut; own = h.own; same = λ e f c n. cc; members = h.members }
  noted false = s.law.staging s.me

  own_stages : (step : Step) → Opens s step → Mine step
  own_stages (EnterShared l) o = enters Shared (x s (EnterShared l) == l) (s.memory Clock) (outcome_at s.slots) (v s).committed o.0
  own_stages EnterExclusive o = enters Exclusive (x s EnterExclusive == 0) (s.memory Clock) (outcome_at s.slots)
      (cond (x s EnterExclusive == 0) false (v s).committed) o
  own_stages LeaveShared o = stages_none (s.memory Clock) s.me (outcome_at s.slots) (w s LeaveShared) (λ e. absurd cc)
      ((s.law.staging s.me).shut (λ e. absurd (let shared = o.0 in cc)))
  own_stages LeaveExclusive o = stages_none (s.memory Clock) s.me (outcome_at s.slots) (w s LeaveExclusive) (λ e. absurd cc) o.2
  own_stages (Draw t) o = stages_none (M s (Draw t) Clock) s.me (outcome_at (S s (Draw t))) (w s (Draw t)) (λ e. absurd (let shared = o.0 in cc))
      ((s.law.staging s.me).shut (λ e. absurd (let shared = o.0 in cc)))
  own_stages (Decide t deed) o = decided t deed o (v s).mode refl
  own_stages (Cancel t) o = cancelled t o (v s).mode refl
  own_stages (Commit members) o = record {
    shut = λ _. refl;
    own = λ e t d. absurd (let none = o.1 in cc);
    same = λ e f. absurd cc;
    members = λ n lt. absurd (omega arith);
  }
  own_stages (Look Clock) o = noted (holds_lock (v s))
  own_stages (Look word) o = subst (λ (n : ℕ). Stages n s.me (outcome_at s.slots) (w s (Look word)))
      (sym (ap (λ (m : Memory). m Clock) (looked_same s word))) (s.law.staging s.me)
  own_stages (Fill Key n) o = s.law.staging s.me
  own_stages (Fill part n) o = s.law.staging s.me
  own_stages step o = s.law.staging s.me

pub staging_kept : (s : Setting) (step : Step) → Opens s step → AreStaging (M s step Clock) (outcome_at (S s step)) (each s.z View.mode (V s step))
    (each s.z View.drawn (V s step)) (each s.z View.staged (V s step)) (each s.z View.committed (V s step)) (each s.z View.hold_clock (V s step))
staging_kept s step o = by_seat s (w s step) (λ i u. Stages (M s step Clock) i (outcome_at (S s step)) u) (own_stages s step o)
    (λ i ne. other_stages s step o i ne (each s.z View.mode s.views i) refl)

pub staging_merged : (g : Ground) (step : Step) → OpensTo g step → AreStaging (memory' g step Clock) (outcome_at (slots' g step)) (each g.z View.mode g.views)
    (each g.z View.drawn g.views) (each g.z View.staged g.views) (each g.z View.committed g.views) (each g.z View.hold_clock g.views)
staging_merged g ExtendClock o i = let free = g.law.locked_out o.0 i in
    stages_none (memory' g ExtendClock Clock) i (outcome_at (slots' g ExtendClock)) (each g.z (λ (u : View). u) g.views i) (λ e. absurd cc)
    ((g.law.staging i).shut (λ e. absurd cc))
staging_merged g (Look word) o i = stages_on (g.memory Clock) (memory' g (Look word) Clock) i (outcome_at g.slots) (outcome_at g.slots)
    (each g.z (λ (u : View). u) g.views i) (ap (λ (m : Memory). m Clock) (merger_looked_same g word)) (λ t le. refl) (g.law.staging i)
staging_merged g (WriteRun word n) o i = stages_on (g.memory Clock) (memory' g (WriteRun word n) Clock) i (outcome_at g.slots) (outcome_at g.slots)
    (each g.z (λ (u : View). u) g.views i) (run_other g.memory word Clock n o.1 (λ r. r)) (λ t le. refl) (g.law.staging i)
staging_merged g step o i = g.law.staging i
