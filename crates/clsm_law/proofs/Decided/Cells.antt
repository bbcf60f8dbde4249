-- How the clauses on cells are kept: the cell of a shown time shows what the time came to, and the
-- cell of an undrawn time is empty.
use Rattle.std.proofs.Common.{◌≡◌, ◌≢◌, ℕ, zero, suc, ◌+◌, ◌-◌, ◌*◌, ◌%◌, ◌<◌, ◌≤◌, ◌==◌, ◌⊎◌, ◌&&◌, ◌||◌, not, Bool, true, false, cond, List, [], ◌∷◌}
use Rattle.std.proofs.Common.{◌++◌, length, set, get_or, sym, refl, ap, ◌∙◌, subst, arith, inl, inr, ⊎_elim, Option, Some, None, length-set, length-append}
use Rattle.std.specs.Prelude.{replicate, slice_index}
use mathlib.Core.Logic.{dite}
use native.Mathlib.Decide.{ℕ_discrete}
use prog.Atomic.{either}
use Rattle.std.proofs.lemmas.Bool.{cases_lt, and_parts, and_from, or_cases, eqb-true, lt-ltb, le-ltb, false_from_ne_true}
use Rattle.std.proofs.lemmas.List.{get_or-map, get_or-take}
use Rattle.clsm_model.specs.declared.slot.Slot.{Slot}
use Rattle.clsm_model.specs.declared.slot.Slot.TheVariants.{Nothing, Wrote}
use Rattle.clsm_model.specs.declared.record.Deed.{Deed}
use Rattle.clsm_model.specs.Right.{write_by}
use Rattle.clsm_law.specs.declared.layout.Layout.{Layout}
use Rattle.clsm_law.specs.declared.word.Word.TheVariants.{Clock, Limit, Pin as PinOf, Cell, State}
use Rattle.clsm_law.specs.declared.word.Part.{Part}
use Rattle.clsm_law.specs.declared.word.Part.TheVariants.{Key, Length, Value}
use Rattle.clsm_law.specs.declared.step.Step.{Step}
use Rattle.clsm_law.specs.declared.step.Step.TheVariants.{Draw, Fill, Decide, Cancel, Look, LeaveExclusive, Pad, WriteRun, ClearState, Publish, ExtendClock}
use Rattle.clsm_law.specs.declared.merger.MergerView.{MergerView}
use Rattle.clsm_law.specs.declared.merger.Phase.TheVariants.{Clean, Frozen}
use Rattle.clsm_law.specs.declared.merger.Reader.{Reader}
use Rattle.clsm_law.specs.Memory.{Memory, cell_of, region_of, put}
use Rattle.clsm_law.specs.Views.{IsBelow, SaysWrite, length_of, words_of}
use Rattle.clsm_law.specs.Relation.{state_by}
use Rattle.clsm_law.specs.Merging.{is_retired, is_all_quiet, retired_region, reader_at, reader_by, unseen, epoch_end}
use Rattle.clsm_law.specs.Worlds.{outcome_at, passes_from, is_last}
use Rattle.clsm_law.specs.Law.{Shows, AreShown, AreEmpty, first_shown, first_live}
use Rattle.clsm_law.proofs.Cases.{by_test, by_bool}
use Rattle.clsm_law.proofs.Frames.{keep1, puts_slot, slots_grown, past_end, put_same, put_here, put_other}
use Rattle.clsm_law.proofs.Clock.Times.{Live, at_live, apart, cell_below, region_of_epoch}
use Rattle.clsm_law.proofs.Setting.{Setting, Ground, v, x, M, S, Opens, OpensTo, memory', merger', slots', own, own_drawn, looked_same}
use Rattle.clsm_law.proofs.Setting.{merger_looked_same, drawn_live, shown_live, limit_live, live_below_shown, shown_below_merged, clock_below, clock_shared}
use Rattle.clsm_law.proofs.Setting.{clock_merger}
use Rattle.clsm_law.proofs.Growth.{cancels_shown, longer}
use Rattle.clsm_law.proofs.GrowthMerger.{passed_before, passed_behind, clock_held, length_passed, longer'}
use Rattle.clsm_law.proofs.Decided.Kept.{says_write, run_other}
use Rattle.clsm_law.proofs.Phases.{clean_retired, frozen_retired, retired_frozen}

-- ---- a cell shows a slot
-- the same words show the same
pub shows_same : (m m' : Memory) (c : ℕ) (o : Option Slot) → m' (State c) ≡ m (State c) → ((p : Part) → m' (Cell c p) ≡ m (Cell c p)) → Shows m c o
    → Shows m' c o
shows_same m m' c None state parts h = state ∙ h
shows_same m m' c (Some Nothing) state parts h = state ∙ h
shows_same m m' c (Some (Wrote i key written)) state parts h = (state ∙ h.0, parts Key ∙ h.1, parts Length ∙ h.2, λ j lt. parts (Value j) ∙ h.3 j lt)

-- of a slot that is no write, the state alone
shows_state : (m m' : Memory) (c : ℕ) (o : Option Slot) → (o ≡ None) ⊎ (o ≡ Some Nothing) → m' (State c) ≡ m (State c) → Shows m c o → Shows m' c o
shows_state m m' c None none state h = state ∙ h
shows_state m m' c (Some Nothing) none state h = state ∙ h
shows_state m m' c (Some (Wrote i key written)) none state h = ⊎_elim (λ (e : Some (Wrote i key written) ≡ None). absurd cc)
    (λ (e : Some (Wrote i key written) ≡ Some Nothing). absurd cc) none

-- so no more is asked of a memory with the same cells, and of fewer times
same_shown : (z : Layout) (m m' : Memory) (first first' clock : ℕ) (slot : ℕ → Option Slot) → first ≤ first' → ((c : ℕ) → m' (State c) ≡ m (State c))
    → ((c : ℕ) (p : Part) → m' (Cell c p) ≡ m (Cell c p)) → AreShown z m first clock slot → AreShown z m' first' clock slot
same_shown z m m' first first' clock slot le states parts h t from until =
    shows_same m m' (cell_of z t) (slot t) (states (cell_of z t)) (parts (cell_of z t)) (h t (omega arith) until)

-- ---- shown: the steps of a caller
-- the cell of the time that a Draw wins is empty: nothing is padded while a caller holds the lock
drawn_empty : (s : Setting) (t : ℕ) → Opens s (Draw t) → length s.slots ≡ t → s.memory (State (cell_of s.z t)) ≡ 0
drawn_empty s t o is = ⊎_elim (λ (e : s.memory (State (cell_of s.z t)) ≡ 0). e)
    (λ (p : (s.merger.padded ≡ true) × (t < (s.merger.merged + 1) * s.z.cells) × (s.memory (State (cell_of s.z t)) ≡ 1)). let free = s.law.locked_out
    (s.law.merger.pads p.0) s.me in let held = o.0 in absurd cc)
    (s.law.empty t (omega arith) (let a = below (v s).hold_limit refl o.3 in let b = limit_live s.ground in omega arith))
  where
    below : (l : Option ℕ) → (v s).hold_limit ≡ l → IsBelow t l → t < s.memory Limit
    below None e h = absurd h
    below (Some n) e h = let a = s.law.limits s.me n (λ free. absurd (let shared = o.0 in cc)) e in omega arith

-- the new time is undecided, and its cell empty
drew_shown : (s : Setting) (t : ℕ) → Opens s (Draw t) → length s.slots ≡ t
    → AreShown s.z (M s (Draw t)) (first_shown s.z s.merger) (length (s.slots ++ None ∷ [])) (outcome_at (s.slots ++ None ∷ []))
drew_shown s t o is = let len : length (s.slots ++ None ∷ []) ≡ length s.slots + 1 = length-append s.slots (None ∷ []) in
    keep1 (AreShown s.z (M s (Draw t)) (first_shown s.z s.merger) (length (s.slots ++ None ∷ []))) (slots_grown s.slots)
    (λ u from until. elim (cases_lt u (length s.slots)) [
      | inl old ↦ shows_same s.memory (M s (Draw t)) (cell_of s.z u) (outcome_at s.slots u) refl (λ p. refl) (s.law.shown u from old)
      | inr new ↦ let same : t ≡ u = omega arith in subst (λ (k : ℕ). Shows (M s (Draw t)) (cell_of s.z k) (outcome_at s.slots k)) same
          (subst (Shows (M s (Draw t)) (cell_of s.z t)) (sym (subst (λ (k : ℕ). outcome_at s.slots k ≡ None) is (past_end s.slots))) (drawn_empty s t o is))
    ])

-- a Fill of the own cell, whose time is no write yet; the cells of other times are others
fill_shown : (s : Setting) (part : Part) (y : ℕ) → (v s).drawn ≡ Some (own s)
    → AreShown s.z (M s (Fill part y)) (first_shown s.z s.merger) (length s.slots) (outcome_at s.slots)
fill_shown s part y mine u from until =
    at_live s.z (first_live s.z s.merger) (λ u. first_shown s.z s.merger ≤ u → u < length s.slots
    → Shows (M s (Fill part y)) (cell_of s.z u) (outcome_at s.slots u)) (own s) (drawn_live s.ground s.me (own s) mine)
    (λ from until. shows_state s.memory (M s (Fill part y)) (cell_of s.z (own s)) (outcome_at s.slots (own s)) (s.law.pending s.me (own s) mine).2 refl
    (s.law.shown (own s) from until))
    (λ u m ne other from until. shows_same s.memory (M s (Fill part y)) (cell_of s.z u) (outcome_at s.slots u) refl
    (λ p. put_other s.memory (Cell (cell_of s.z (own s)) part) (Cell (cell_of s.z u) p) y (λ q. other cc)) (s.law.shown u from until))
    u (shown_live s.ground u from until) from until

-- a slot is settled with the state of its cell
settled_shown : (s : Setting) (t y : ℕ) (a : Option Slot) → Live s.z (first_live s.z s.merger) t → t < length s.slots
    → Shows (put s.memory (State (cell_of s.z t)) y) (cell_of s.z t) a
    → AreShown s.z (put s.memory (State (cell_of s.z t)) y) (first_shown s.z s.merger) (length (set s.slots t a)) (outcome_at (set s.slots t a))
settled_shown s t y a l lt now u from until = let len = length-set s.slots t a in let p = puts_slot s.slots t a lt in let m' =
    put s.memory (State (cell_of s.z t)) y in let until' : u < length s.slots = omega arith in
    at_live s.z (first_live s.z s.merger) (λ u. first_shown s.z s.merger ≤ u → u < length s.slots
    → Shows (put s.memory (State (cell_of s.z t)) y) (cell_of s.z u) (outcome_at (set s.slots t a) u)) t l
    (λ _ _. subst (Shows (put s.memory (State (cell_of s.z t)) y) (cell_of s.z t)) (sym p.here) now)
    (λ u m ne other from until. subst (Shows (put s.memory (State (cell_of s.z t)) y) (cell_of s.z u)) (sym (p.other u ne))
    (shows_same s.memory (put s.memory (State (cell_of s.z t)) y) (cell_of s.z u) (outcome_at s.slots u)
    (put_other s.memory (State (cell_of s.z t)) (State (cell_of s.z u)) y (λ q. other cc)) (λ p. refl) (s.law.shown u from until)))
    u (shown_live s.ground u from until') from until'

-- a value is held as so many words
words_long : (written : Option (List ℕ)) → length (words_of written) ≡ length_of written
words_long None = refl
words_long (Some words) = refl

-- the filled parts of a linked cell say the write
write_shown : (s : Setting) (t : ℕ) (deed : Deed) → Opens s (Decide t deed)
    → Shows (put s.memory (State (cell_of s.z t)) (state_by (write_by 0 deed))) (cell_of s.z t) (write_by s.me deed)
write_shown s t deed o = let wr = says_write (v s) deed s.me o.2 in let says : SaysWrite (v s) (Some (Wrote 0 wr.0 wr.1)) = subst (SaysWrite (v s)) wr.2 o.2 in
    subst (Shows (put s.memory (State (cell_of s.z t)) (state_by (write_by 0 deed))) (cell_of s.z t)) (sym wr.3) (
      put_here s.memory (State (cell_of s.z t)) (state_by (write_by 0 deed)) ∙ ap state_by wr.2,
      s.law.filled s.me t wr.0 Key o.0 says.0,
      s.law.filled s.me t (length_of wr.1) Length o.0 says.1,
      λ j lt. s.law.filled s.me t (slice_index (words_of wr.1) j) (Value j) o.0
          (sym (get_or-take (length_of wr.1) (v s).words j None lt) ∙ ap (λ (l : List (Option ℕ)). get_or l j None) says.2
          ∙ get_or-map (λ (k : ℕ). Some k) (words_of wr.1) j 0 None (let n = words_long wr.1 in omega arith)),
    )

pub shown_kept : (s : Setting) (step : Step) → Opens s step → AreShown s.z (M s step) (first_shown s.z s.merger) (length (S s step)) (outcome_at (S s step))
shown_kept s (Draw t) o = by_test (λ b. AreShown s.z (M s (Draw t)) (first_shown s.z s.merger) (length (cond b (s.slots ++ None ∷ []) s.slots))
    (outcome_at (cond b (s.slots ++ None ∷ []) s.slots))) (x s (Draw t)) t
    (λ e. drew_shown s t o (sym (clock_shared s.ground s.me o.0) ∙ e))
    (λ _. same_shown s.z s.memory (M s (Draw t)) _ _ (length s.slots) (outcome_at s.slots) (omega arith) (λ c. refl) (λ c p. refl) s.law.shown)
shown_kept s (Fill part y) o = fill_shown s part y (own_drawn s o.0)
shown_kept s (Decide t deed) o =
    by_test (λ b. AreShown s.z (put s.memory (State (cell_of s.z t)) (either b (state_by (write_by 0 deed)) (x s (Decide t deed))))
    (first_shown s.z s.merger) (length (cond b (set s.slots t (write_by s.me deed)) s.slots))
    (outcome_at (cond b (set s.slots t (write_by s.me deed)) s.slots))) (x s (Decide t deed)) 0
    (λ _. settled_shown s t (state_by (write_by 0 deed)) (write_by s.me deed) (drawn_live s.ground s.me t o.0) (s.law.pending s.me t o.0).1
    (write_shown s t deed o))
    (λ _. keep1 (λ (m : Memory). AreShown s.z m (first_shown s.z s.merger) (length s.slots) (outcome_at s.slots))
    (put_same s.memory (State (cell_of s.z t))) s.law.shown)
shown_kept s (Cancel t) o = let p = cancels_shown s t o in
    by_test (λ b. AreShown s.z (put s.memory (State (cell_of s.z t)) (either b 1 (x s (Cancel t)))) (first_shown s.z s.merger)
    (length (cond b (set s.slots t (Some Nothing)) s.slots)) (outcome_at (cond b (set s.slots t (Some Nothing)) s.slots))) (x s (Cancel t)) 0
    (λ _. settled_shown s t 1 (Some Nothing) (shown_live s.ground t p.0 p.1) p.1 (put_here s.memory (State (cell_of s.z t)) 1))
    (λ _. keep1 (λ (m : Memory). AreShown s.z m (first_shown s.z s.merger) (length s.slots) (outcome_at s.slots))
    (put_same s.memory (State (cell_of s.z t))) s.law.shown)
shown_kept s (Look c) o = keep1 (λ (m : Memory). AreShown s.z m (first_shown s.z s.merger) (length s.slots) (outcome_at s.slots)) (looked_same s c) s.law.shown
shown_kept s step o = same_shown s.z s.memory (M s step) _ _ (length s.slots) (outcome_at s.slots) (omega arith) (λ c. refl) (λ c p. refl) s.law.shown

-- ---- phases, and where the windows begin
-- one epoch before the merges is not above them
one_less : (n merged : ℕ) → (merged - 1) * n ≤ merged * n
one_less n merged = grind arith

-- with more seats quiet the first shown time is not below the one before
shown_grows : (n merged : ℕ) (retired quiet quiet' : Bool) → (quiet ≡ true → quiet' ≡ true)
    → cond (retired && not quiet) ((merged - 1) * n) (merged * n) ≤ cond (retired && not quiet') ((merged - 1) * n) (merged * n)
shown_grows n merged false quiet quiet' more = omega arith
shown_grows n merged true true quiet' more = rw (more refl) (omega arith)
shown_grows n merged true false quiet' more = let below = one_less n merged in
    elim quiet' as (λ q. (merged - 1) * n ≤ cond (not q) ((merged - 1) * n) (merged * n)) [ true ↦ below | false ↦ omega arith ]

-- a look at a pin word leaves quiet seats quiet
quiet_grows : (rs : List Reader) (i y : ℕ) → is_all_quiet rs ≡ true → is_all_quiet (set rs i (reader_by (reader_at rs i) y)) ≡ true
quiet_grows [] i y e = e
quiet_grows (r ∷ rs) zero y e = let both = and_parts r.quiet (is_all_quiet rs) e in and_from (reader_by r y).quiet (is_all_quiet rs) (rw both.0 refl) both.1
quiet_grows (r ∷ rs) (suc i) y e = let both = and_parts r.quiet (is_all_quiet rs) e in
    and_from r.quiet (is_all_quiet (set rs i (reader_by (reader_at rs i) y))) both.0 (quiet_grows rs i y both.1)

-- where no readers are held back, the times from the merges on are shown
pub first_if_quiet : (z : Layout) (m : MergerView) → is_all_quiet m.readers ≡ true → first_shown z m ≡ m.merged * z.cells
first_if_quiet z m e = rw e (elim (is_retired m.phase) as (λ b. cond (b && not true) ((m.merged - 1) * z.cells)
    (m.merged * z.cells) ≡ m.merged * z.cells) [ true ↦ refl | false ↦ refl ])

-- so it is in a phase with nothing retired
first_if_not_retired : (z : Layout) (m : MergerView) → is_retired m.phase ≡ false → first_shown z m ≡ m.merged * z.cells
first_if_not_retired z m e = rw e refl

-- and these times are the first that have cells
live_if_not_retired : (z : Layout) (m : MergerView) → is_retired m.phase ≡ false → first_live z m ≡ m.merged * z.cells
live_if_not_retired z m e = rw e refl

-- while a component is retired its epoch has cells yet
live_if_retired : (z : Layout) (m : MergerView) → is_retired m.phase ≡ true → first_live z m ≡ (m.merged - 1) * z.cells
live_if_retired z m e = rw e refl

-- while the merger holds the lock nothing is retired, nor where it leaves
held_retired : (g : Ground) → g.merger.exclusive ≡ true → is_retired g.merger.phase ≡ false
held_retired g e = clean_retired g.merger.phase (g.law.merger.clean e)

-- the phase is Clean or Frozen after the merger left
left_retired : (g : Ground) → OpensTo g LeaveExclusive → is_retired (merger' g LeaveExclusive).phase ≡ false
left_retired g o = by_bool (λ b. is_retired (cond b Frozen g.merger.phase) ≡ false) g.merger.limit_extended (λ _. refl) (λ _. held_retired g o.0)

-- while a component is retired the clock is in the epoch that begins at the merges
pub retired_end : (g : Ground) → is_retired g.merger.phase ≡ true → length g.slots ≤ (g.merger.merged + 1) * g.z.cells
retired_end g e =
    let still : g.merger.limit_extended ≡ false = false_from_ne_true g.merger.limit_extended
    (λ f. let live = held_retired g (g.law.merger.extends (g.law.merger.limit_after f)) in absurd cc) in
    let frozen = retired_frozen g.merger.phase e in
    let limit : g.memory Limit ≡ (g.merger.merged + 1) * g.z.cells = g.law.limit ∙ rw (frozen, still) refl in
    let b = g.law.bounded in omega arith

-- ---- shown: the steps of the merger
-- a test that passes from a on, n times
passes_at : (test : ℕ → Bool) (a n u : ℕ) → passes_from test a n ≡ true → a ≤ u → u < a + n → test u ≡ true
passes_at test a zero u e from until = absurd (omega arith)
passes_at test a (suc n) u e from until = let both = and_parts (test a) (passes_from test (a + 1) n) e in
    dite (ℕ_discrete u a) (λ (same : u ≡ a). subst (λ (k : ℕ). test k ≡ true) (sym same) both.0)
    (λ ne. passes_at test (a + 1) n u both.1 (omega arith) (omega arith))

-- the cells of the undrawn times are cancelled, and these times come to nothing
extend_shown : (g : Ground) → OpensTo g ExtendClock → AreShown g.z (memory' g ExtendClock) (first_shown g.z g.merger) (length (slots' g ExtendClock))
    (outcome_at (slots' g ExtendClock))
extend_shown g o u from until = elim (cases_lt u (length g.slots)) [
  | inl old ↦ subst (Shows (memory' g ExtendClock) (cell_of g.z u)) (sym (passed_before g.slots (epoch_end g.z g.merger) u old))
      (shows_same g.memory (memory' g ExtendClock) (cell_of g.z u) (outcome_at g.slots u) refl (λ p. refl) (g.law.shown u from old))
  | inr new ↦ let len = length_passed g o in let held = clock_held g o.0 in let clock = clock_merger g o.0 in
      subst (Shows (memory' g ExtendClock) (cell_of g.z u)) (sym (passed_behind g.slots (epoch_end g.z g.merger) u new (omega arith)))
      (eqb-true (g.memory (State (cell_of g.z u))) 1 (passes_at (λ t. g.memory (State (cell_of g.z t)) == 1) (g.memory Clock)
      (epoch_end g.z g.merger - g.memory Clock) u o.1 (omega arith) (omega arith)))
]

-- a cell that is padded is of an undrawn time, and of the live ones
padded_live : (g : Ground) (t : ℕ) → OpensTo g (Pad t) → Live g.z (first_live g.z g.merger) t
padded_live g t o = let live = live_if_not_retired g.z g.merger (held_retired g o.0) in let begun = g.law.begun in let clock = clock_merger g o.0 in let a =
    o.1 in let b = o.2 in record { from = omega arith; until = omega arith }

-- so it is of no shown time
pad_shown : (g : Ground) (t : ℕ) → OpensTo g (Pad t) → AreShown g.z (memory' g (Pad t)) (first_shown g.z g.merger) (length g.slots) (outcome_at g.slots)
pad_shown g t o u from until = shows_same g.memory (memory' g (Pad t)) (cell_of g.z u) (outcome_at g.slots u)
    (put_other g.memory (State (cell_of g.z t)) (State (cell_of g.z u)) 1
    (λ q. let same : u ≡ t = apart g.z (first_live g.z g.merger) u t (shown_live g u from until) (padded_live g t o) cc in let clock = clock_merger g o.0 in
    let a = o.1 in absurd (omega arith)))
    (λ p. refl) (g.law.shown u from until)

-- a cell that is cleared is of the other region than the shown times
clear_shown : (g : Ground) (cell : ℕ) → OpensTo g (ClearState cell) → AreShown g.z (memory' g (ClearState cell))
    (first_shown g.z (merger' g (ClearState cell))) (length g.slots) (outcome_at g.slots)
clear_shown g cell o u from until =
    let first : first_shown g.z (merger' g (ClearState cell)) ≡ g.merger.merged * g.z.cells = first_if_quiet g.z (merger' g (ClearState cell)) o.1 in
    let was = first_if_quiet g.z g.merger o.1 in
    let end = retired_end g o.0 in
    let region : region_of g.z (cell_of g.z u) ≡ g.merger.merged % 2 = region_of_epoch g.z g.merger.merged u (omega arith) (omega arith) in
    shows_same g.memory (memory' g (ClearState cell)) (cell_of g.z u) (outcome_at g.slots u)
    (put_other g.memory (State cell) (State (cell_of g.z u)) 0
    (λ q. let same : cell_of g.z u ≡ cell = cc in let other : region_of g.z (cell_of g.z u) ≡ (g.merger.merged + 1) % 2 = ap (region_of g.z) same ∙ o.3 in
    absurd (omega arith)))
    (λ p. refl) (g.law.shown u (omega arith) until)

-- a merge makes the component before a retired one: what was shown is shown on
publish_first : (n merged : ℕ) (quiet : Bool) → merged * n ≤ cond (not quiet) ((merged + 1 - 1) * n) ((merged + 1) * n)
publish_first n merged true = omega arith
publish_first n merged false = let e : merged + 1 - 1 ≡ merged = omega arith in rw e (omega arith)

pub shown_merged : (g : Ground) (step : Step) → OpensTo g step → AreShown g.z (memory' g step) (first_shown g.z (merger' g step)) (length (slots' g step))
    (outcome_at (slots' g step))
shown_merged g LeaveExclusive o = let was = first_if_not_retired g.z g.merger (held_retired g o.0) in let is =
    first_if_not_retired g.z (merger' g LeaveExclusive) (left_retired g o) in
    same_shown g.z g.memory (memory' g LeaveExclusive) _ _ (length g.slots) (outcome_at g.slots) (omega arith) (λ c. refl) (λ c p. refl) g.law.shown
shown_merged g (Look (PinOf i)) o =
    keep1 (λ (m : Memory). AreShown g.z m (first_shown g.z (merger' g (Look (PinOf i)))) (length g.slots) (outcome_at g.slots))
    (merger_looked_same g (PinOf i))
    (same_shown g.z g.memory g.memory _ _ (length g.slots) (outcome_at g.slots)
    (shown_grows g.z.cells g.merger.merged (is_retired g.merger.phase) (is_all_quiet g.merger.readers) (is_all_quiet (merger' g (Look (PinOf i))).readers)
    (λ e. by_bool (λ b. is_all_quiet
    (cond b (set g.merger.readers i (reader_by (reader_at g.merger.readers i) (g.memory (PinOf i)))) g.merger.readers) ≡ true)
    (is_retired g.merger.phase) (λ _. quiet_grows g.merger.readers i (g.memory (PinOf i)) e) (λ _. e)))
    (λ c. refl) (λ c p. refl) g.law.shown)
shown_merged g (Look c) o = keep1 (λ (m : Memory). AreShown g.z m (first_shown g.z g.merger) (length g.slots) (outcome_at g.slots))
    (merger_looked_same g c) g.law.shown
shown_merged g (Pad t) o = pad_shown g t o
shown_merged g (WriteRun word y) o = same_shown g.z g.memory (memory' g (WriteRun word y)) _ _ (length g.slots) (outcome_at g.slots) (omega arith)
    (λ c. run_other g.memory word (State c) y o.1 (λ h. h)) (λ c p. run_other g.memory word (Cell c p) y o.1 (λ h. h)) g.law.shown
shown_merged g (ClearState cell) o = clear_shown g cell o
shown_merged g Publish o = let was = first_if_not_retired g.z g.merger (frozen_retired g.merger.phase o.0) in let le =
    publish_first g.z.cells g.merger.merged (is_all_quiet (replicate g.z.seats unseen)) in
    same_shown g.z g.memory (memory' g Publish) _ _ (length g.slots) (outcome_at g.slots) (omega arith) (λ c. refl) (λ c p. refl) g.law.shown
shown_merged g ExtendClock o = extend_shown g o
shown_merged g step o = same_shown g.z g.memory (memory' g step) _ _ (length g.slots) (outcome_at g.slots) (omega arith) (λ c. refl) (λ c p. refl) g.law.shown

-- ---- empty
-- fewer times, and the same states
same_empty : (z : Layout) (m m' : Memory) (padded padded' : Bool) (clock clock' epoch epoch' end end' : ℕ) → clock ≤ clock' → epoch ≤ epoch' → end' ≤ end
    → (padded ≡ true → padded' ≡ true) → ((c : ℕ) → m' (State c) ≡ m (State c)) → AreEmpty z m padded clock epoch end
    → AreEmpty z m' padded' clock' epoch' end'
same_empty z m m' padded padded' clock clock' epoch epoch' end end' clocks epochs ends pads states h t from until =
    ⊎_elim (λ (e : m (State (cell_of z t)) ≡ 0). inl (states (cell_of z t) ∙ e))
    (λ (p : (padded ≡ true) × (t < epoch) × (m (State (cell_of z t)) ≡ 1)). inr (pads p.0, let a = p.1 in omega arith, states (cell_of z t) ∙ p.2))
    (h t (omega arith) (omega arith))

abbrev last_live : Layout → MergerView → ℕ
last_live z m = first_live z m + 2 * z.cells

-- an undrawn time is live
undrawn_live : (g : Ground) (t : ℕ) → length g.slots ≤ t → t < last_live g.z g.merger → Live g.z (first_live g.z g.merger) t
undrawn_live g t from until = let a = live_below_shown g in let b = shown_below_merged g in let c = g.law.begun in let d = clock_below g in
    record { from = omega arith; until = omega arith }

-- a state that is written is of a drawn time
settled_empty : (s : Setting) (t y clock : ℕ) → Live s.z (first_live s.z s.merger) t → t < length s.slots → length s.slots ≤ clock
    → AreEmpty s.z (put s.memory (State (cell_of s.z t)) y) s.merger.padded clock (epoch_end s.z s.merger) (last_live s.z s.merger)
settled_empty s t y clock l lt le u from until =
    let same : put s.memory (State (cell_of s.z t)) y (State (cell_of s.z u)) ≡ s.memory (State (cell_of s.z u)) =
    put_other s.memory (State (cell_of s.z t)) (State (cell_of s.z u)) y
    (λ q. let at : u ≡ t = apart s.z (first_live s.z s.merger) u t (undrawn_live s.ground u (omega arith) until) l cc in absurd (omega arith)) in
    ⊎_elim (λ (e : s.memory (State (cell_of s.z u)) ≡ 0). inl (same ∙ e))
    (λ (p : (s.merger.padded ≡ true) × (u < epoch_end s.z s.merger) × (s.memory (State (cell_of s.z u)) ≡ 1)). inr (p.0, p.1, same ∙ p.2))
    (s.law.empty u (omega arith) until)

pub empty_kept : (s : Setting) (step : Step) → Opens s step → AreEmpty s.z (M s step) s.merger.padded (length (S s step)) (epoch_end s.z s.merger)
    (first_live s.z s.merger + 2 * s.z.cells)
empty_kept s (Decide t deed) o = settled_empty s t _ (length (S s (Decide t deed))) (drawn_live s.ground s.me t o.0) (s.law.pending s.me t o.0).1
    (longer s (Decide t deed))
empty_kept s (Cancel t) o = let p = cancels_shown s t o in settled_empty s t _ (length (S s (Cancel t))) (shown_live s.ground t p.0 p.1) p.1
    (longer s (Cancel t))
empty_kept s (Look c) o = keep1 (λ (m : Memory). AreEmpty s.z m s.merger.padded (length s.slots) (epoch_end s.z s.merger) (last_live s.z s.merger))
    (looked_same s c) s.law.empty
empty_kept s step o = same_empty s.z s.memory (M s step) s.merger.padded s.merger.padded (length s.slots) (length (S s step)) _ _ _ _ (longer s step)
    (omega arith) (omega arith) (λ e. e) (λ c. refl) s.law.empty

-- the merger leaves with a whole freeze, whose clock is at the end of the epoch, or with none
leave_empty : (g : Ground) (t : ℕ) → OpensTo g LeaveExclusive → length g.slots ≤ t → t < last_live g.z g.merger → g.memory (State (cell_of g.z t)) ≡ 0
leave_empty g t o from until = ⊎_elim (λ (e : g.memory (State (cell_of g.z t)) ≡ 0). e)
    (λ (p : (g.merger.padded ≡ true) × (t < epoch_end g.z g.merger) × (g.memory (State (cell_of g.z t)) ≡ 1)).
    let whole : g.merger.limit_extended ≡ true = only g.merger.limit_extended g.merger.clock_extended (rw p.0 at o.1) in
    let end = g.law.merger.at_end (g.law.merger.limit_after whole) in let lt = p.1 in absurd (omega arith))
    (g.law.empty t from until)
  where
    only : (limit clock : Bool) → (limit || not (true || clock)) ≡ true → limit ≡ true
    only true clock e = refl
    only false clock e = absurd cc

-- a cell that is padded, and the others
pad_empty : (g : Ground) (t : ℕ) → OpensTo g (Pad t) → AreEmpty g.z (memory' g (Pad t)) true (length g.slots) (epoch_end g.z g.merger) (last_live g.z g.merger)
pad_empty g t o u from until = dite (ℕ_discrete u t)
    (λ (same : u ≡ t). inr (
      refl,
      subst (λ (k : ℕ). k < epoch_end g.z g.merger) (sym same) o.2,
      ap (λ (k : ℕ). put g.memory (State (cell_of g.z t)) 1 (State (cell_of g.z k))) same ∙ put_here g.memory (State (cell_of g.z t)) 1,
    ))
    (λ ne. let other : put g.memory (State (cell_of g.z t)) 1 (State (cell_of g.z u)) ≡ g.memory (State (cell_of g.z u)) = put_other g.memory
    (State (cell_of g.z t)) (State (cell_of g.z u)) 1
    (λ q. ne (apart g.z (first_live g.z g.merger) u t (undrawn_live g u from until) (padded_live g t o) cc)) in
    ⊎_elim (λ (e : g.memory (State (cell_of g.z u)) ≡ 0). inl (other ∙ e))
    (λ (p : (g.merger.padded ≡ true) × (u < epoch_end g.z g.merger) × (g.memory (State (cell_of g.z u)) ≡ 1)). inr (refl, p.1, other ∙ p.2))
    (g.law.empty u from until))

-- a cell of the region r is one of its cells
in_region : (z : Layout) (c r : ℕ) → c < 2 * z.cells → region_of z c ≡ r → (r * z.cells ≤ c) × (c < r * z.cells + z.cells)
in_region z c r lt e = elim (cases_lt c z.cells) [
  | inl less ↦ let zero_ : 0 ≡ r = sym (rw (lt-ltb c z.cells less) refl) ∙ e in
      subst (λ (k : ℕ). (k * z.cells ≤ c) × (c < k * z.cells + z.cells)) zero_ (omega arith, omega arith)
  | inr le ↦ let one : 1 ≡ r = sym (rw (le-ltb c z.cells le) refl) ∙ e in
      subst (λ (k : ℕ). (k * z.cells ≤ c) × (c < k * z.cells + z.cells)) one (omega arith, omega arith)
]

-- a cleared cell is empty, and another as it was
cleared : (m : Memory) (cell c : ℕ) → c ≢ cell → m (State c) ≡ 0 → put m (State cell) 0 (State c) ≡ 0
cleared m cell c ne e = put_other m (State cell) (State c) 0 (λ q. ne cc) ∙ e

-- so it is enough to look at another cell
clear_here : (m : Memory) (cell c : ℕ) → (c ≢ cell → m (State c) ≡ 0) → put m (State cell) 0 (State c) ≡ 0
clear_here m cell c other = dite (ℕ_discrete c cell)
    (λ (same : c ≡ cell). ap (λ (k : ℕ). put m (State cell) 0 (State k)) same ∙ put_here m (State cell) 0)
    (λ ne. cleared m cell c ne (other ne))

-- the epochs of 2N times, from the one before the merges on, end with the current one
two_more : (n merged : ℕ) → 1 ≤ merged → (merged + 1) * n ≤ (merged - 1) * n + 2 * n
two_more n merged some = let e : merged - 1 + 1 ≡ merged = omega arith in subst (λ (k : ℕ). (k + 1) * n ≤ (merged - 1) * n + 2 * n) e (omega arith)

-- the last cell that is cleared gives its region to the epoch after the current one
last_empty : (g : Ground) (cell t : ℕ) → OpensTo g (ClearState cell) → is_last g.z g.memory g.merger cell ≡ true → (g.merger.merged + 1) * g.z.cells ≤ t
    → t < (g.merger.merged + 2) * g.z.cells → put g.memory (State cell) 0 (State (cell_of g.z t)) ≡ 0
last_empty g cell t o last from until =
    let region = region_of_epoch g.z (g.merger.merged + 1) t from (let e : (g.merger.merged + 1 + 1) * g.z.cells ≡ (g.merger.merged + 2) * g.z.cells = ap
    (λ (k : ℕ). k * g.z.cells) (let k : g.merger.merged + 1 + 1 ≡ g.merger.merged + 2 = omega arith in k) in omega arith) in
    let within = in_region g.z (cell_of g.z t) (retired_region g.merger) (cell_below g.z t (let some = g.sound.0.0 in omega arith)) region in
    let test = passes_at (λ other. other == cell || g.memory (State other) == 0) (retired_region g.merger * g.z.cells) g.z.cells
    (cell_of g.z t) last within.0 within.1 in
    clear_here g.memory cell (cell_of g.z t) (λ ne. ⊎_elim
    (λ (e : (cell_of g.z t == cell) ≡ true). absurd (ne (eqb-true (cell_of g.z t) cell e)))
    (λ (e : (g.memory (State (cell_of g.z t)) == 0) ≡ true). eqb-true (g.memory (State (cell_of g.z t))) 0 e)
    (or_cases (cell_of g.z t == cell) (g.memory (State (cell_of g.z t)) == 0) test))

-- the cells of the undrawn times stay empty, and the last clear gives N of them more
clear_empty : (g : Ground) (cell : ℕ) → OpensTo g (ClearState cell) → AreEmpty g.z (memory' g (ClearState cell)) g.merger.padded (length g.slots)
    (epoch_end g.z g.merger) (last_live g.z (merger' g (ClearState cell)))
clear_empty g cell o u from = by_bool (λ b. is_last g.z g.memory g.merger cell ≡ b
    → u < cond (is_retired (cond b Clean g.merger.phase)) ((g.merger.merged - 1) * g.z.cells) (g.merger.merged * g.z.cells) + 2 * g.z.cells
    → (put g.memory (State cell) 0 (State (cell_of g.z u)) ≡ 0) ⊎ ((g.merger.padded ≡ true) × (u < epoch_end g.z g.merger)
    × (put g.memory (State cell) 0 (State (cell_of g.z u)) ≡ 1))) (is_last g.z g.memory g.merger cell)
    (λ _ last until. elim (cases_lt u (last_live g.z g.merger)) [
      | inl old ↦ inl (was old)
      | inr new ↦ let live = live_if_retired g.z g.merger o.0 in let end = two_more g.z.cells g.merger.merged (g.law.merger.some_merged o.0) in
          inl (last_empty g cell u o last (omega arith) (omega arith))
    ])
    (λ _ _ until. inl (was until)) refl
  where
    was : u < last_live g.z g.merger → put g.memory (State cell) 0 (State (cell_of g.z u)) ≡ 0
    was until = clear_here g.memory cell (cell_of g.z u) (λ _. ⊎_elim (λ (e : g.memory (State (cell_of g.z u)) ≡ 0). e)
        (λ (p : (g.merger.padded ≡ true) × (u < epoch_end g.z g.merger) × (g.memory (State (cell_of g.z u)) ≡ 1)). let live = held_retired g
        (g.law.merger.pads p.0) in let retired = o.0 in absurd cc)
        (g.law.empty u from until))

pub empty_merged : (g : Ground) (step : Step) → OpensTo g step → AreEmpty g.z (memory' g step) (merger' g step).padded (length (slots' g step))
    (epoch_end g.z (merger' g step)) (first_live g.z (merger' g step) + 2 * g.z.cells)
empty_merged g LeaveExclusive o = let was = live_if_not_retired g.z g.merger (held_retired g o.0) in let is =
    live_if_not_retired g.z (merger' g LeaveExclusive) (left_retired g o) in
    λ t from until. inl (leave_empty g t o from (omega arith))
empty_merged g (Look (PinOf i)) o =
    keep1 (λ (m : Memory). AreEmpty g.z m g.merger.padded (length g.slots) (epoch_end g.z g.merger) (last_live g.z g.merger))
    (merger_looked_same g (PinOf i)) g.law.empty
empty_merged g (Look c) o = keep1 (λ (m : Memory). AreEmpty g.z m g.merger.padded (length g.slots) (epoch_end g.z g.merger) (last_live g.z g.merger))
    (merger_looked_same g c) g.law.empty
empty_merged g (Pad t) o = pad_empty g t o
empty_merged g (WriteRun word y) o = same_empty g.z g.memory (memory' g (WriteRun word y)) g.merger.padded g.merger.padded (length g.slots)
    (length g.slots) _ _ _ _ (omega arith) (omega arith) (omega arith) (λ e. e) (λ c. run_other g.memory word (State c) y o.1 (λ h. h)) g.law.empty
empty_merged g (ClearState cell) o = clear_empty g cell o
empty_merged g Publish o = let was = live_if_not_retired g.z g.merger (frozen_retired g.merger.phase o.0) in let e : (g.merger.merged + 1 - 1) * g.z.cells
    ≡ g.merger.merged * g.z.cells = ap (λ (k : ℕ). k * g.z.cells) (let k : g.merger.merged + 1 - 1 ≡ g.merger.merged = omega arith in k) in
    same_empty g.z g.memory (memory' g Publish) g.merger.padded g.merger.padded (length g.slots) (length g.slots) _ _ _ _ (omega arith) (omega arith)
    (omega arith) (λ e. e) (λ c. refl) g.law.empty
empty_merged g ExtendClock o = same_empty g.z g.memory (memory' g ExtendClock) g.merger.padded g.merger.padded (length g.slots)
    (length (slots' g ExtendClock)) _ _ _ _ (longer' g ExtendClock) (omega arith) (omega arith) (λ e. e) (λ c. refl) g.law.empty
empty_merged g step o = same_empty g.z g.memory (memory' g step) g.merger.padded g.merger.padded (length g.slots) (length (slots' g step)) _ _ _ _
    (longer' g step) (omega arith) (omega arith) (λ e. e) (λ c. refl) g.law.empty
