-- A lawful world and a step of one caller's seat; and a lawful world and a step of the merger.
use Rattle.std.proofs.Common.{◌≡◌, ◌≢◌, ℕ, zero, suc, ◌+◌, ◌-◌, ◌*◌, ◌<◌, ◌≤◌, ◌||◌, ◌&&◌, not, Bool, true, false, cond, List, [], ◌∷◌, length, set, sym}
use Rattle.std.proofs.Common.{refl, ap, ◌∙◌, subst, arith, inl, inr, ⊎_elim, Option, Some, None, sum_by, is_some}
use mathlib.Core.Logic.{dite}
use native.Mathlib.Decide.{ℕ_discrete}
use Rattle.std.proofs.lemmas.Bool.{cases_lt}
use Rattle.std.proofs.lemmas.List.Sums.{sum_by-cons}
use Rattle.std.proofs.lemmas.List.{get_or_past}
use Rattle.clsm_model.specs.declared.batch.Batch.{Batch}
use Rattle.clsm_model.specs.declared.slot.Slot.{Slot}
use Rattle.clsm_model.specs.declared.slot.Slot.TheVariants.{Nothing, Wrote}
use Rattle.clsm_law.specs.declared.layout.Layout.{Layout}
use Rattle.clsm_law.specs.declared.word.Word.{Word}
use Rattle.clsm_law.specs.declared.word.Word.TheVariants.{Clock, Limit, State}
use Rattle.clsm_law.specs.declared.step.Step.{Step}
use Rattle.clsm_law.specs.declared.step.Step.TheVariants.{Look, Pad, Stage}
use Rattle.clsm_law.specs.declared.view.View.{View}
use Rattle.clsm_law.specs.declared.view.Mode.{Mode}
use Rattle.clsm_law.specs.declared.view.Mode.TheVariants.{Free, Shared, Exclusive}
use Rattle.clsm_law.specs.declared.merger.MergerView.{MergerView}
use Rattle.clsm_law.specs.declared.merger.Reader.{Reader}
use Rattle.clsm_law.specs.declared.merger.Phase.{Phase}
use Rattle.clsm_law.specs.declared.merger.Phase.TheVariants.{Clean, Frozen, Retired}
use Rattle.clsm_law.specs.Memory.{Memory, cell_of, put}
use Rattle.clsm_law.specs.Layout.{IsLayout}
use Rattle.clsm_law.specs.Views.{is_exclusive, or_zero, own_time, idle}
use Rattle.clsm_law.specs.OpenSteps.{IsOpen}
use Rattle.clsm_law.specs.Relation.{Chains, Orders, word_of, changed, view_after, slots_after, batches_after, chains_after, orders_after}
use Rattle.clsm_law.specs.Merging.{is_clean, Facts, IsOpenToMerger, word_of_merger, changed_by_merger, merger_after, slots_after_merger, epoch_end}
use Rattle.clsm_law.specs.Merging.{chains_after_merger, orders_after_merger, is_retired, is_frozen, is_all_quiet, reader_at}
use Rattle.clsm_law.specs.Worlds.{view_at, outcome_at, past_of, open_past, facts_of}
use Rattle.clsm_law.specs.Law.{LawOf, Shows, each, taken_by, IsRetiredFor, first_shown, first_live}
use Rattle.clsm_law.specs.Law.{is_held_back}
use Rattle.clsm_law.proofs.Frames.{at_each, put_same, puts_each, past_end}
use Rattle.clsm_law.proofs.Clock.Times.{Live}

-- a lawful world
pub record Ground : Type 0 where
  pub z : Layout
  pub sound : IsLayout z
  pub memory : Memory
  pub views : List View
  pub merger : MergerView
  pub slots : List (Option Slot)
  pub batches : List Batch
  pub chains : Chains
  pub orders : Orders
  pub law : LawOf z memory views merger slots batches chains orders

-- and one of its seats
pub record Setting : Type 0 where
  pub ground : Ground
  pub open ground use *
  pub me : ℕ
  pub inside : me < length views

-- the seat's view
abbrev pub v : Setting → View
v s = view_at s.z s.views s.me

-- the steps of which the clauses speak one by one: a stage is none of them, since it takes a time
-- and then is a fill (`Staged`)
abbrev pub plainly : Step → Step
plainly (Stage t key) = Pad 0
plainly step = step

-- the word that the step finds
abbrev pub x : Setting → Step → ℕ
x s step = s.memory (word_of s.z s.me (v s) (plainly step))

-- after the step: the seat's view, the memory, the views, the slots, the batches, the chains, the
-- lists
abbrev pub w : Setting → Step → View
w s step = view_after s.z s.me (v s) (plainly step) (x s step)

abbrev pub M : Setting → Step → Memory
M s step = put s.memory (word_of s.z s.me (v s) (plainly step)) (changed s.z (v s) (plainly step) (x s step))

abbrev pub V : Setting → Step → List View
V s step = set s.views s.me (w s step)

abbrev pub S : Setting → Step → List (Option Slot)
S s step = slots_after s.me s.slots (plainly step) (x s step)

abbrev pub B : Setting → Step → List Batch
B s step = batches_after (v s) s.batches (plainly step)

abbrev pub C : Setting → Step → Chains
C s step = chains_after s.z (v s) s.chains (plainly step) (x s step)

abbrev pub O : Setting → Step → Orders
O s step = orders_after s.z (v s) s.orders (plainly step) (x s step)

-- the step is open to the seat, where no batch is in its way
abbrev pub Opens : Setting → Step → Type 0
Opens s step = IsOpen s.z (past_of s.slots (v s).past) (v s) (plainly step)

-- the seat's drawn time
abbrev pub own : Setting → ℕ
own s = own_time (v s)

-- the step may be made: no batch is in its way either
abbrev pub Allows : Setting → Step → Type 0
Allows s step = IsOpen s.z (open_past s.slots s.batches (v s).past) (v s) (plainly step)

-- a fact of each seat after the step, from the one of this seat and those of the others before
pub by_seat : (s : Setting) (y : View) (P : ℕ → View → Type 0) → P s.me y → ((i : ℕ) → i ≢ s.me → P i (view_at s.z s.views i)) → (i : ℕ)
    → P i (view_at s.z (set s.views s.me y) i)
by_seat s y P here other = let p = puts_each s.z (λ (u : View). u) s.views s.me y s.inside in
    at_each (λ i. P i (view_at s.z (set s.views s.me y) i)) s.me (subst (P s.me) (sym p.here) here) (λ i ne. subst (P i) (sym (p.other i ne)) (other i ne))

pub looked_same : (s : Setting) (c : Word) → M s (Look c) ≡ s.memory
looked_same s c = put_same s.memory c

pub own_drawn : (s : Setting) → (v s).drawn ≢ None → (v s).drawn ≡ Some (own s)
own_drawn s ne = is (v s).drawn ne where
  is : (o : Option ℕ) → o ≢ None → o ≡ Some (or_zero o)
  is None ne = absurd (ne refl)
  is (Some t) ne = refl

-- ---- a step of the merger

abbrev pub facts : Ground → Facts
facts g = facts_of g.z g.memory g.merger g.slots

-- the word that the merger's step finds
abbrev pub found : Ground → Step → ℕ
found g step = g.memory (word_of_merger g.z g.merger step)

-- after the merger's step: its view, the memory, the slots, the chains, the lists
abbrev pub merger' : Ground → Step → MergerView
merger' g step = merger_after g.z (facts g) g.merger step (found g step)

abbrev pub memory' : Ground → Step → Memory
memory' g step = put g.memory (word_of_merger g.z g.merger step) (changed_by_merger g.z g.merger step (found g step))

abbrev pub slots' : Ground → Step → List (Option Slot)
slots' g step = slots_after_merger g.z g.merger g.slots step

abbrev pub chains' : Ground → Step → Chains
chains' g step = chains_after_merger g.chains step

abbrev pub orders' : Ground → Step → Orders
orders' g step = orders_after_merger g.orders step

abbrev pub OpensTo : Ground → Step → Type 0
OpensTo g step = IsOpenToMerger g.z (facts g) g.merger step

pub merger_looked_same : (g : Ground) (c : Word) → memory' g (Look c) ≡ g.memory
merger_looked_same g c = put_same g.memory c

-- ---- plain facts of a lawful world

-- one seat that is not quiet
pub not_all_quiet : (rs : List Reader) (i : ℕ) → i < length rs → (reader_at rs i).quiet ≡ false → is_all_quiet rs ≡ false
not_all_quiet [] i lt e = absurd (omega arith)
not_all_quiet (r ∷ rs) zero lt e = ap (λ b. b && is_all_quiet rs) e
not_all_quiet (r ∷ rs) (suc i) lt e = ap (λ b. r.quiet && b) (not_all_quiet rs i (omega arith) e) ∙ and_false r.quiet
  where
    and_false : (b : Bool) → (b && false) ≡ false
    and_false true = refl
    and_false false = refl

-- the first shown time by the phase and by whether all are quiet, and the first live time by the
-- phase
module _ (n merged : ℕ) where
  abbrev pub shown : Phase → Bool → ℕ
  shown p quiet = cond (is_retired p && not quiet) ((merged - 1) * n) (merged * n)

  abbrev pub live : Phase → ℕ
  live p = cond (is_retired p) ((merged - 1) * n) (merged * n)

  pub below : (merged - 1) * n ≤ merged * n
  below = grind arith

  live_shown : (p : Phase) (quiet : Bool) → live p ≤ shown p quiet
  live_shown Clean quiet = omega arith
  live_shown Frozen quiet = omega arith
  live_shown Retired true = below
  live_shown Retired false = omega arith

  pub shown_most : (p : Phase) (quiet : Bool) → shown p quiet ≤ merged * n
  shown_most Clean quiet = omega arith
  shown_most Frozen quiet = omega arith
  shown_most Retired true = omega arith
  shown_most Retired false = below

  turn : 1 ≤ merged → (merged + 1) * n ≤ (merged - 1) * n + 2 * n
  turn some = let e : merged - 1 + 1 ≡ merged = omega arith in subst (λ (k : ℕ). (k + 1) * n ≤ (merged - 1) * n + 2 * n) e (omega arith)

  -- the first time that is not free, where the limit is extended only while nothing is frozen
  abbrev free : Bool → Phase → ℕ
  free extended p = cond (is_frozen p || extended) ((merged + 2) * n) ((merged + 1) * n)

  free_live : (extended : Bool) (p : Phase) → (is_retired p ≡ true → 1 ≤ merged) → (extended ≡ true → is_clean p ≡ true) → free extended p ≤ live p + 2 * n
  free_live true Clean some clean = omega arith
  free_live false Clean some clean = omega arith
  free_live extended Frozen some clean = omega arith
  free_live true Retired some clean = absurd (let f = clean refl in cc)
  free_live false Retired some clean = turn (some refl)

-- the time came to a write
pub record Written (g : Ground) (t : ℕ) : Type 0 where
  pub drawn : t < length g.slots
  pub seat : ℕ
  pub key : ℕ
  pub value : Option (List ℕ)
  pub slot : outcome_at g.slots t ≡ Some (Wrote seat key value)

module _ (g : Ground) where
  -- what is shown is live
  pub live_below_shown : first_live g.z g.merger ≤ first_shown g.z g.merger
  live_below_shown = live_shown g.z.cells g.merger.merged g.merger.phase (is_all_quiet g.merger.readers)

  pub shown_below_merged : first_shown g.z g.merger ≤ g.merger.merged * g.z.cells
  shown_below_merged = shown_most g.z.cells g.merger.merged g.merger.phase (is_all_quiet g.merger.readers)

  -- the limit, and so the clock, is within the live times
  pub limit_live : g.memory Limit ≤ first_live g.z g.merger + 2 * g.z.cells
  limit_live = subst (λ (n : ℕ). n ≤ first_live g.z g.merger + 2 * g.z.cells) (sym g.law.limit)
      (free_live g.z.cells g.merger.merged g.merger.limit_extended g.merger.phase g.law.merger.some_merged
      (λ e. g.law.merger.clean (g.law.merger.extends (g.law.merger.limit_after e))))

  pub clock_live : length g.slots ≤ first_live g.z g.merger + 2 * g.z.cells
  clock_live = let a = limit_live in let b = g.law.bounded in omega arith

  pub shown_live : (t : ℕ) → first_shown g.z g.merger ≤ t → t < length g.slots → Live g.z (first_live g.z g.merger) t
  shown_live t from until = record { from = let a = live_below_shown in omega arith; until = let b = clock_live in omega arith }

  -- a drawn time is of the current epoch
  pub merged_below_limit : g.merger.merged * g.z.cells + g.z.cells ≤ g.memory Limit
  merged_below_limit = subst (λ (n : ℕ). g.merger.merged * g.z.cells + g.z.cells ≤ n) (sym g.law.limit)
      (elim (is_frozen g.merger.phase || g.merger.limit_extended) as (λ b. g.merger.merged * g.z.cells + g.z.cells
      ≤ cond b ((g.merger.merged + 2) * g.z.cells) ((g.merger.merged + 1) * g.z.cells)) [ true ↦ omega arith | false ↦ omega arith ])

  pub drawn_shown : (i t : ℕ) → each g.z View.drawn g.views i ≡ Some t → (g.merger.merged * g.z.cells ≤ t) × (t < length g.slots)
  drawn_shown i t e = let p = g.law.pending i t e in let a = p.0 in let b = merged_below_limit in (omega arith, p.1)

  pub drawn_live : (i t : ℕ) → each g.z View.drawn g.views i ≡ Some t → Live g.z (first_live g.z g.merger) t
  drawn_live i t e = let p = drawn_shown i t e in shown_live t (let a = shown_below_merged in let b = p.0 in omega arith) p.1

  -- the state of a shown time tells whether it is decided
  undecided_if : (c : ℕ) (o : Option Slot) → Shows g.memory c o → g.memory (State c) ≡ 0 → o ≡ None
  undecided_if c None h e = refl
  undecided_if c (Some Nothing) h e = absurd (omega arith)
  undecided_if c (Some (Wrote i key None)) h e = absurd (omega (arith, h.0))
  undecided_if c (Some (Wrote i key (Some written))) h e = absurd (omega (arith, h.0))

  pub undecided : (t : ℕ) → first_shown g.z g.merger ≤ t → t < length g.slots → g.memory (State (cell_of g.z t)) ≡ 0 → outcome_at g.slots t ≡ None
  undecided t from until e = undecided_if (cell_of g.z t) (outcome_at g.slots t) (g.law.shown t from until) e

  decided_if : (c : ℕ) (o : Option Slot) → Shows g.memory c o → g.memory (State c) ≢ 0 → o ≢ None
  decided_if c None h ne e = ne h
  decided_if c (Some slot) h ne e = absurd cc

  pub decided : (t : ℕ) → first_shown g.z g.merger ≤ t → t < length g.slots → g.memory (State (cell_of g.z t)) ≢ 0 → outcome_at g.slots t ≢ None
  decided t from until ne = decided_if (cell_of g.z t) (outcome_at g.slots t) (g.law.shown t from until) ne

  -- and where it is that of a write, the time came to one
  pub written : (t : ℕ) → first_shown g.z g.merger ≤ t → t < first_live g.z g.merger + 2 * g.z.cells → 2 ≤ g.memory (State (cell_of g.z t)) → Written g t
  written t from until state = elim (cases_lt t (length g.slots)) [
    | inl drawn ↦ slot drawn (outcome_at g.slots t) refl (g.law.shown t from drawn)
    | inr undrawn ↦ absurd (⊎_elim (λ (zero : g.memory (State (cell_of g.z t)) ≡ 0). omega arith)
        (λ (one : (g.merger.padded ≡ true) × (t < epoch_end g.z g.merger) × (g.memory (State (cell_of g.z t)) ≡ 1)). let is = one.2 in omega arith)
        (g.law.empty t undrawn until))
  ]
    where
      slot : t < length g.slots → (o : Option Slot) → outcome_at g.slots t ≡ o → Shows g.memory (cell_of g.z t) o → Written g t
      slot drawn None e h = absurd (omega arith)
      slot drawn (Some Nothing) e h = absurd (omega arith)
      slot drawn (Some (Wrote i key value)) e h = record { drawn = drawn; seat = i; key = key; value = value; slot = e }

  -- only drawn times are known
  pub past_below : (i : ℕ) → each g.z View.past g.views i ≤ length g.slots
  past_below i = elim (cases_lt (length g.slots) (each g.z View.past g.views i)) [
    | inl lt ↦ absurd (g.law.past i (length g.slots) lt (past_end g.slots))
    | inr le ↦ le
  ]

  -- no seat has drawn a time while the merger holds the lock
  pub none_drawn : g.merger.exclusive ≡ true → (i t : ℕ) → each g.z View.drawn g.views i ≢ Some t
  none_drawn e i t d = g.law.holding i t d (g.law.locked_out e i)

  -- the clock is not beyond the times that are taken
  pub clock_below : g.memory Clock ≤ length g.slots
  clock_below = let a = g.law.clock in omega arith

  -- where no caller holds the lock exclusively no time is taken beyond it
  pub none_taken : (views : List View) → ((i : ℕ) → each g.z View.mode views i ≢ Exclusive) → sum_by taken_by views ≡ 0
  none_taken [] none = refl
  none_taken (y ∷ ys) none = let a = sum_by-cons taken_by y ys in let b = none_taken ys (λ i. none (suc i)) in let c = taken_none y.mode (none 0) in omega arith
    where
      taken_none : (m : Mode) → m ≢ Exclusive → cond (is_exclusive m) (length y.staged + cond (is_some y.drawn) 1 0) 0 ≡ 0
      taken_none Free ne = refl
      taken_none Shared ne = refl
      taken_none Exclusive ne = absurd (ne refl)

  pub clock_even : ((i : ℕ) → each g.z View.mode g.views i ≢ Exclusive) → g.memory Clock ≡ length g.slots
  clock_even none = let a = g.law.clock in let b = none_taken g.views none in omega arith

  -- so it is while a caller holds the lock shared
  pub clock_shared : (i : ℕ) → each g.z View.mode g.views i ≡ Shared → g.memory Clock ≡ length g.slots
  clock_shared i shared = clock_even (λ j e. dite (ℕ_discrete i j)
      (λ (same : i ≡ j). absurd (let other : each g.z View.mode g.views i ≡ Exclusive = ap (each g.z View.mode g.views) same ∙ e in cc))
      (λ ne. absurd (let free = g.law.sole j i e ne in cc)))

  -- and while the merger holds it
  pub clock_merger : g.merger.exclusive ≡ true → g.memory Clock ≡ length g.slots
  clock_merger held = clock_even (λ j e. absurd (let free = g.law.locked_out held j in cc))

  -- only a seat holds a component
  pub holder_below : (i c : ℕ) → each g.z View.held g.views i ≡ Some c → i < length g.views
  holder_below i c e = elim (cases_lt i (length g.views)) [
    | inl lt ↦ lt
    | inr le ↦ absurd (let none : each g.z View.held g.views i ≡ None = ap View.held (get_or_past g.views i (idle g.z) le) in cc (none, e))
  ]

  -- who holds a component holds one whose cells are shown
  pub held_shown : (i c : ℕ) → i < length g.views → each g.z View.held g.views i ≡ Some c → first_shown g.z g.merger ≤ c * g.z.cells
  held_shown i c lt e = ⊎_elim
      (λ (same : c ≡ g.merger.merged). let a = shown_below_merged in subst (λ (k : ℕ). first_shown g.z g.merger ≤ k * g.z.cells) (sym same) a)
      (λ (r : IsRetiredFor g.merger i (each g.z View.pin g.views i) c).
      let loud : is_all_quiet g.merger.readers ≡ false = not_all_quiet g.merger.readers i
      (let a = g.law.merger.seats in let b = g.law.seated in omega arith) r.loud in
      let back : is_held_back g.merger ≡ true = rw (r.retired, loud) refl in
      let before : g.merger.merged - 1 ≡ c = let a = r.before in omega arith in
      rw (back, before) (omega arith))
      (g.law.held i c e).1
