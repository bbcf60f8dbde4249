-- How the clauses on pins, on the components held and on the snapshot words are kept.
use Rattle.std.proofs.Common.{◌≡◌, ◌≢◌, ℕ, zero, suc, ◌+◌, ◌%◌, ◌<◌, ◌⊎◌, not, Bool, true, false, cond, List, [], ◌∷◌, length, set, replicate, sym, refl}
use Rattle.std.proofs.Common.{ap, ◌∙◌, subst, arith, inl, inr, ⊎_elim, Option, Some, None, is_some, get_or-set_same, get_or-set_other, eq-eqb, ltb-true}
use mathlib.Core.Logic.{dite}
use native.Mathlib.Decide.{ℕ_discrete}
use Rattle.std.proofs.lemmas.Bool.{and_parts}
use Rattle.clsm_law.specs.declared.layout.Layout.{Layout}
use Rattle.clsm_law.specs.declared.word.Word.{Word}
use Rattle.clsm_law.specs.declared.word.Word.TheVariants.{Clock, Merged, Pin as PinOf, Snap}
use Rattle.clsm_law.specs.declared.word.Part.TheVariants.{Key}
use Rattle.clsm_law.specs.declared.step.Step.{Step}
use Rattle.clsm_law.specs.declared.step.Step.TheVariants.{EnterExclusive, LeaveExclusive, Fill, Pin, Unpin, Look, Note, CloseSnapshot, Pad, WriteRun}
use Rattle.clsm_law.specs.declared.step.Step.TheVariants.{ClearState, Publish, ExtendClock, ExtendLimit}
use Rattle.clsm_law.specs.declared.view.View.{View}
use Rattle.clsm_law.specs.declared.view.SnapshotState.{SnapshotState}
use Rattle.clsm_law.specs.declared.view.SnapshotState.TheVariants.{Absent, Noted, Timed, Open}
use Rattle.clsm_law.specs.declared.merger.MergerView.{MergerView}
use Rattle.clsm_law.specs.declared.merger.Reader.{Reader}
use Rattle.clsm_law.specs.Memory.{Memory, put}
use Rattle.clsm_law.specs.Views.{next_word}
use Rattle.clsm_law.specs.Relation.{takes_hold, ended_snapshot, timed_by}
use Rattle.clsm_law.specs.Merging.{is_retired, is_all_quiet, unseen, reader_at, reader_by, differs, first_noted}
use Rattle.clsm_law.specs.Law.{each, ArePins, AreOdd, IsFirst, IsRetiredFor, AreHeld, AreNotes, note_of}
use Rattle.clsm_law.proofs.Frames.{keep1, put_here, put_other, same_each}
use Rattle.clsm_law.proofs.Setting.{Setting, v, x, w, M, V, Opens, looked_same, Ground, found, memory', merger', OpensTo, merger_looked_same, by_seat}
use Rattle.clsm_law.proofs.Decided.Kept.{run_other}
use Rattle.clsm_law.proofs.Lock.Kept.{not_both}
use Rattle.clsm_law.proofs.Phases.{retired_not_clean, frozen_not_retired}

-- ---- the pin words

-- a step that leaves the pin words and the pins
pins_same : (s : Setting) (step : Step) → ((i : ℕ) → M s step (PinOf i) ≡ s.memory (PinOf i)) → (w s step).pin ≡ (v s).pin
    → ArePins s.z (M s step) (each s.z View.pin (V s step))
pins_same s step m e = keep1 (ArePins s.z (M s step)) (same_each s.z View.pin s.views s.me (w s step) s.inside e) (λ i lt. m i ∙ s.law.pins i lt)

-- a step that moves the seat's pin and its word alike
pins_moved : (s : Setting) (step : Step) (n : ℕ) → (w s step).pin ≡ n → ((u : Word) → M s step u ≡ put s.memory (PinOf s.me) n u)
    → ArePins s.z (M s step) (each s.z View.pin (V s step))
pins_moved s step n e m = by_seat s (w s step) (λ i u. i < s.z.seats → M s step (PinOf i) ≡ u.pin)
    (λ lt. m (PinOf s.me) ∙ put_here s.memory (PinOf s.me) n ∙ sym e)
    (λ i ne lt. m (PinOf i) ∙ put_other s.memory (PinOf s.me) (PinOf i) n (λ same. ne cc) ∙ s.law.pins i lt)

pub pins_kept : (s : Setting) (step : Step) → Opens s step → ArePins s.z (M s step) (each s.z View.pin (V s step))
pins_kept s Pin o = pins_moved s Pin (next_word (v s).pin) refl (λ u. refl)
pins_kept s (Unpin end) o = pins_moved s (Unpin end) (next_word (v s).pin) refl (λ u. refl)
pins_kept s (Fill Key n) o = pins_same s (Fill Key n) (λ i. refl) refl
pins_kept s (Look (PinOf j)) o = pins_same s (Look (PinOf j)) (λ i. ap (λ (m : Memory). m (PinOf i)) (looked_same s (PinOf j))) refl
pins_kept s step o = pins_same s step (λ i. refl) refl

pub pins_merged : (g : Ground) (step : Step) → OpensTo g step → ArePins g.z (memory' g step) (each g.z View.pin g.views)
pins_merged g (Look word) o = keep1 (λ (m : Memory). ArePins g.z m (each g.z View.pin g.views)) (merger_looked_same g word) g.law.pins
pins_merged g (WriteRun word n) o = λ i lt. run_other g.memory word (PinOf i) n o.1 (λ r. r) ∙ g.law.pins i lt
pins_merged g step o = g.law.pins

-- ---- a pin word is odd where a read runs

odd_after : (s : Setting) (step : Step) → Opens s step → (w s step).pin % 2 ≡ cond (w s step).pinned 1 0
odd_after s Pin o = let a : (v s).pin % 2 ≡ 0 = s.law.odd s.me ∙ ap (λ b. cond b 1 0) o in omega arith
odd_after s (Unpin end) o = let a : (v s).pin % 2 ≡ 1 = s.law.odd s.me ∙ ap (λ b. cond b 1 0) o.0 in omega arith
odd_after s (Fill Key n) o = s.law.odd s.me
odd_after s (Look Clock) o = s.law.odd s.me
odd_after s step o = s.law.odd s.me

pub odd_kept : (s : Setting) (step : Step) → Opens s step → AreOdd (each s.z View.pin (V s step)) (each s.z View.pinned (V s step))
odd_kept s step o = by_seat s (w s step) (λ i u. u.pin % 2 ≡ cond u.pinned 1 0) (odd_after s step o) (λ i ne. s.law.odd i)

pub odd_merged : (g : Ground) (step : Step) → OpensTo g step → AreOdd (each g.z View.pin g.views) (each g.z View.pinned g.views)
odd_merged g step o = g.law.odd

-- ---- the components held

-- what is known of the holder i of the component c
abbrev Holds : MergerView → ℕ → ℕ → Bool → ℕ → Type 0
Holds m i c pinned pin = (pinned ≡ true) × ((c ≡ m.merged) ⊎ IsRetiredFor m i pin c)

-- the first look at MERGED under a pin finds the newest component
takes_newest : (s : Setting) (b : Bool) (c : ℕ) → (b ≡ true → (v s).pinned ≡ true) → cond b (Some (s.memory Merged)) (v s).held ≡ Some c
    → Holds s.merger s.me c (v s).pinned (v s).pin
takes_newest s true c pins e = let a = s.law.merged in (pins refl, inl cc)
takes_newest s false c pins e = s.law.held s.me c e

-- the seat's own component after the step
held_after : (s : Setting) (step : Step) → Opens s step → (c : ℕ) → (w s step).held ≡ Some c → Holds s.merger s.me c (w s step).pinned (w s step).pin
held_after s Pin o = λ c e. absurd cc
held_after s (Unpin end) o = λ c e. absurd cc
held_after s (Fill Key n) o = s.law.held s.me
held_after s (Look Merged) o = λ c. takes_newest s (takes_hold (v s)) c (λ e. (and_parts (v s).pinned (not (is_some (v s).held)) e).0)
held_after s step o = s.law.held s.me

pub held_kept : (s : Setting) (step : Step) → Opens s step → AreHeld s.merger (each s.z View.held (V s step)) (each s.z View.pinned (V s step))
    (each s.z View.pin (V s step))
held_kept s step o = by_seat s (w s step) (λ i u. (c : ℕ) → u.held ≡ Some c → Holds s.merger i c u.pinned u.pin) (held_after s step o)
    (λ i ne. s.law.held i)

-- ---- the merger and the components held

-- from what each holder held before the merger's step
held_from : (g : Ground) (m : MergerView) → ((i c : ℕ) → each g.z View.held g.views i ≡ Some c → each g.z View.pinned g.views i ≡ true → (c ≡ g.merger.merged)
    ⊎ IsRetiredFor g.merger i (each g.z View.pin g.views i) c → (c ≡ m.merged) ⊎ IsRetiredFor m i (each g.z View.pin g.views i) c)
    → AreHeld m (each g.z View.held g.views) (each g.z View.pinned g.views) (each g.z View.pin g.views)
held_from g m now i c e = let h = g.law.held i c e in (h.0, now i c e h.0 h.1)

-- the merger's phase, its merges and what it found of the seats stay
held_same : (g : Ground) (m : MergerView) → m.merged ≡ g.merger.merged → m.phase ≡ g.merger.phase → m.readers ≡ g.merger.readers
    → AreHeld m (each g.z View.held g.views) (each g.z View.pinned g.views) (each g.z View.pin g.views)
held_same g m a b c = held_from g m (λ i k e pinned. ⊎_elim
    (λ (new : k ≡ g.merger.merged). inl (new ∙ sym a))
    (λ (r : IsRetiredFor g.merger i (each g.z View.pin g.views i) k). inr (record {
      before = r.before ∙ sym a;
      retired = ap is_retired b ∙ r.retired;
      loud = ap (λ (l : List Reader). (reader_at l i).quiet) c ∙ r.loud;
      first = keep1 (λ (l : List Reader). IsFirst (reader_at l i).first_pin (each g.z View.pin g.views i)) c r.first;
    })))

-- nothing retired is held: all hold the newest
held_newest : (g : Ground) (m : MergerView) → m.merged ≡ g.merger.merged
    → ((i c : ℕ) → each g.z View.held g.views i ≡ Some c → ¬ IsRetiredFor g.merger i (each g.z View.pin g.views i) c)
    → AreHeld m (each g.z View.held g.views) (each g.z View.pinned g.views) (each g.z View.pin g.views)
held_newest g m a none = held_from g m (λ i c e pinned. ⊎_elim
    (λ (new : c ≡ g.merger.merged). inl (new ∙ sym a))
    (λ (r : IsRetiredFor g.merger i (each g.z View.pin g.views i) c). absurd (none i c e r)))

-- only a seat holds a component
holder_inside : (z : Layout) (views : List View) (i c : ℕ) → each z View.held views i ≡ Some c → i < length views
holder_inside z [] i c e = absurd cc
holder_inside z (y ∷ ys) zero c e = omega arith
holder_inside z (y ∷ ys) (suc i) c e = let a = holder_inside z ys i c e in omega arith

-- where all are quiet each seat is
quiet_at : (rs : List Reader) (i : ℕ) → i < length rs → is_all_quiet rs ≡ true → (reader_at rs i).quiet ≡ true
quiet_at [] i lt e = absurd (omega arith)
quiet_at (r ∷ rs) zero lt e = (and_parts r.quiet (is_all_quiet rs) e).0
quiet_at (r ∷ rs) (suc i) lt e = quiet_at rs i (omega arith) (and_parts r.quiet (is_all_quiet rs) e).1

-- a retirement begins with no seat quiet and no pin word noted
fresh_reader : (n i : ℕ) → reader_at (replicate n unseen) i ≡ unseen
fresh_reader zero i = refl
fresh_reader (suc n) zero = refl
fresh_reader (suc n) (suc i) = fresh_reader n i

-- who held the newest holds the retired one
publishes : (g : Ground) (i pin c : ℕ) → c ≡ g.merger.merged → IsRetiredFor (merger' g Publish) i pin c
publishes g i pin c new = record {
  before = ap (λ (k : ℕ). k + 1) new;
  retired = refl;
  loud = ap (λ (r : Reader). r.quiet) (fresh_reader g.z.seats i);
  first = keep1 (λ (r : Reader). IsFirst r.first_pin pin) (fresh_reader g.z.seats i) tt;
}

-- a seat that was not found quiet, and whose pin word is the one first noted
record IsLoud (r : Reader) (pin : ℕ) : Type 0 where
  pub loud : r.quiet ≡ false
  pub first : IsFirst r.first_pin pin

-- the word first noted does not differ from itself
not_differing : (o : Option ℕ) (n : ℕ) → IsFirst o n → differs o n ≡ false
not_differing None n h = refl
not_differing (Some f) n h = ap not (eq-eqb n f (sym h))

-- the word first noted stays, or is noted now
still_first : (o : Option ℕ) (n : ℕ) → IsFirst o n → IsFirst (first_noted o n) n
still_first None n h = refl
still_first (Some f) n h = h

-- its odd word does not show it quiet
stays_loud : (r : Reader) (n : ℕ) → n % 2 ≡ 1 → IsLoud r n → IsLoud (reader_by r n) n
stays_loud r n odd h = record { loud = rw (h.loud, odd, not_differing r.first_pin n h.first) refl; first = still_first r.first_pin n h.first }

-- a look at the pin word of the seat j leaves the others as they were
looks_at : (rs : List Reader) (j i n pin : ℕ) → j < length rs → (j ≡ i → (n ≡ pin) × (n % 2 ≡ 1)) → IsLoud (reader_at rs i) pin
    → IsLoud (reader_at (set rs j (reader_by (reader_at rs j) n)) i) pin
looks_at rs j i n pin lt own h = dite (ℕ_discrete i j)
    (λ (same : i ≡ j). let a = own (sym same) in keep1 (λ (r : Reader). IsLoud r pin)
    (ap (reader_at (set rs j (reader_by (reader_at rs j) n))) same ∙ get_or-set_same rs j (reader_by (reader_at rs j) n) unseen lt)
    (subst (λ (k : ℕ). IsLoud (reader_by (reader_at rs j) n) k) a.0 (stays_loud (reader_at rs j) n a.1
    (subst (λ (k : ℕ). IsLoud (reader_at rs j) k) (sym a.0) (subst (λ (k : ℕ). IsLoud (reader_at rs k) pin) same h)))))
    (λ ne. keep1 (λ (r : Reader). IsLoud r pin) (get_or-set_other rs j i (reader_by (reader_at rs j) n) unseen ne) h)

-- a look at a pin word finds no holder of the retired component quiet
held_looked : (g : Ground) (j : ℕ) → OpensTo g (Look (PinOf j)) → AreHeld (merger' g (Look (PinOf j))) (each g.z View.held g.views)
    (each g.z View.pinned g.views) (each g.z View.pin g.views)
held_looked g j o = held_from g (merger' g (Look (PinOf j))) (λ i c e pinned. ⊎_elim
    (λ (new : c ≡ g.merger.merged). inl new)
    (λ (r : IsRetiredFor g.merger i (each g.z View.pin g.views i) c).
    let lt : j < g.z.seats = ltb-true j g.z.seats o in
    let loud : IsLoud (reader_at (set g.merger.readers j (reader_by (reader_at g.merger.readers j) (found g (Look (PinOf j))))) i)
    (each g.z View.pin g.views i) =
    looks_at g.merger.readers j i (found g (Look (PinOf j))) (each g.z View.pin g.views i) (let a = g.law.merger.seats in omega arith)
    (λ same. let word : g.memory (PinOf j) ≡ each g.z View.pin g.views i = g.law.pins j lt ∙ ap (each g.z View.pin g.views) same in
    (word, ap (λ (k : ℕ). k % 2) word ∙ g.law.odd i ∙ ap (λ b. cond b 1 0) pinned))
    record { loud = r.loud; first = r.first } in
    let now : IsLoud (reader_at (merger' g (Look (PinOf j))).readers i) (each g.z View.pin g.views i) = rw r.retired loud in
    inr (record { before = r.before; retired = r.retired; loud = now.loud; first = now.first })))

pub held_merged : (g : Ground) (step : Step) → OpensTo g step → AreHeld (merger' g step) (each g.z View.held g.views) (each g.z View.pinned g.views)
    (each g.z View.pin g.views)
held_merged g EnterExclusive o = held_same g (merger' g EnterExclusive) refl refl refl
held_merged g LeaveExclusive o = held_newest g (merger' g LeaveExclusive) refl (λ i c e r. retired_not_clean g.merger.phase r.retired (g.law.merger.clean o.0))
held_merged g (Look (Snap i)) o = held_same g (merger' g (Look (Snap i))) refl refl refl
held_merged g (Look (PinOf j)) o = held_looked g j o
held_merged g (Look Clock) o = held_same g (merger' g (Look Clock)) refl refl refl
held_merged g (Look word) o = g.law.held
held_merged g (Pad t) o = held_same g (merger' g (Pad t)) refl refl refl
held_merged g (ClearState cell) o = held_newest g (merger' g (ClearState cell)) refl
    (λ i c e r. let lt = holder_inside g.z g.views i c e in
    not_both (quiet_at g.merger.readers i (let a = g.law.merger.seats in let b = g.law.seated in omega arith) o.1) r.loud)
held_merged g Publish o = held_from g (merger' g Publish) (λ i c e pinned. ⊎_elim
    (λ (new : c ≡ g.merger.merged). inr (publishes g i (each g.z View.pin g.views i) c new))
    (λ (r : IsRetiredFor g.merger i (each g.z View.pin g.views i) c). absurd (frozen_not_retired g.merger.phase o.0 r.retired)))
held_merged g ExtendClock o = held_same g (merger' g ExtendClock) refl refl refl
held_merged g ExtendLimit o = held_same g (merger' g ExtendLimit) refl refl refl
held_merged g step o = g.law.held

-- ---- the snapshot words

-- the seat's own snapshot word after the step, and the others' as before
notes_by : (s : Setting) (step : Step) → ((i : ℕ) → i ≢ s.me → M s step (Snap i) ≡ s.memory (Snap i))
    → (s.me < s.z.seats → M s step (Snap s.me) ≡ note_of (w s step).snapshot) → AreNotes s.z (M s step) (each s.z View.snapshot (V s step))
notes_by s step other now = by_seat s (w s step) (λ i u. i < s.z.seats → M s step (Snap i) ≡ note_of u.snapshot) now
    (λ i ne lt. other i ne ∙ s.law.notes i lt)

-- a timed snapshot and an open one note what was noted
note_ended : (y : SnapshotState) → note_of y ≡ note_of (ended_snapshot y)
note_ended Absent = refl
note_ended (Noted b) = refl
note_ended (Timed b t) = refl
note_ended (Open b t) = refl

note_timed : (y : SnapshotState) (n : ℕ) → note_of y ≡ note_of (timed_by y n)
note_timed Absent n = refl
note_timed (Noted b) n = refl
note_timed (Timed b t) n = refl
note_timed (Open b t) n = refl

pub notes_kept : (s : Setting) (step : Step) → Opens s step → AreNotes s.z (M s step) (each s.z View.snapshot (V s step))
notes_kept s (Note b) o = notes_by s (Note b) (λ i ne. put_other s.memory (Snap s.me) (Snap i) (b + 1) (λ e. ne cc))
    (λ lt. put_here s.memory (Snap s.me) (b + 1))
notes_kept s CloseSnapshot o = notes_by s CloseSnapshot (λ i ne. put_other s.memory (Snap s.me) (Snap i) 0 (λ e. ne cc)) (λ lt. put_here s.memory (Snap s.me) 0)
notes_kept s (Unpin end) o = notes_by s (Unpin end) (λ i ne. refl) (λ lt. s.law.notes s.me lt ∙ note_ended (v s).snapshot)
notes_kept s (Fill Key n) o = notes_by s (Fill Key n) (λ i ne. refl) (s.law.notes s.me)
notes_kept s (Look Clock) o = notes_by s (Look Clock) (λ i ne. refl) (λ lt. s.law.notes s.me lt ∙ note_timed (v s).snapshot (x s (Look Clock)))
notes_kept s (Look (Snap j)) o = keep1 (λ (m : Memory). AreNotes s.z m (each s.z View.snapshot (V s (Look (Snap j))))) (looked_same s (Snap j))
    (keep1 (AreNotes s.z s.memory) (same_each s.z View.snapshot s.views s.me (w s (Look (Snap j))) s.inside refl) s.law.notes)
notes_kept s step o = notes_by s step (λ i ne. refl) (s.law.notes s.me)

pub notes_merged : (g : Ground) (step : Step) → OpensTo g step → AreNotes g.z (memory' g step) (each g.z View.snapshot g.views)
notes_merged g (Look word) o = keep1 (λ (m : Memory). AreNotes g.z m (each g.z View.snapshot g.views)) (merger_looked_same g word) g.law.notes
notes_merged g (WriteRun word n) o = λ i lt. run_other g.memory word (Snap i) n o.1 (λ r. r) ∙ g.law.notes i lt
notes_merged g step o = g.law.notes
