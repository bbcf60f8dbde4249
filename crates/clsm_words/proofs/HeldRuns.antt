-- What a seat that holds a component may search, by what the law says of its runs.
use Rattle.std.proofs.Common.{◌≡◌, ◌≢◌, ◌∙◌, unwrap_or, Option, None, ℕ, ◌+◌, ◌-◌, ◌*◌, ◌<◌, ◌≤◌, ⊎_elim, Bool, true, List, length, refl, sym, ap, subst}
use Rattle.std.proofs.Common.{arith, Some}
use Rattle.clsm_law.specs.declared.view.View.{View}
use Rattle.clsm_model.specs.declared.slot.Slot.{Slot}
use Rattle.clsm_model.specs.declared.slot.Slot.TheVariants.{Nothing, Wrote}
use Rattle.clsm_model.specs.History.{plain}
use Rattle.clsm_law.specs.declared.word.Word.{Word}
use Rattle.clsm_law.specs.declared.word.Word.TheVariants.{Count, Entry, Clock}
use Rattle.clsm_law.specs.declared.view.SnapshotState.{SnapshotState}
use Rattle.clsm_law.specs.declared.view.SnapshotState.TheVariants.{Open}
use Rattle.clsm_law.specs.Memory.{Memory}
use Rattle.clsm_law.specs.Places.{is_named}
use Rattle.clsm_law.specs.Views.{IsShort, or_zero}
use Rattle.clsm_law.specs.OpenSteps.{open_time}
use Rattle.clsm_law.specs.Merging.{is_retired}
use Rattle.clsm_levels.specs.declared.entry.Entry.{Entry as RunEntry}
use Rattle.clsm_levels.specs.Entry.{IsWriteOf}
use Rattle.clsm_levels.specs.Run.{all_of}
use Rattle.clsm_levels.proofs.Every.{every_weaker}
use Rattle.clsm_law.specs.Worlds.{history_of, outcome_at, runs_of}
use Rattle.clsm_law.specs.Law.{AreRuns, IsSnapshot, IsRetiredFor, each, first_live, is_held_back}
use Rattle.clsm_law.proofs.Runs.Kept.{SamePlace, runs_stay, settled_at}
use Rattle.clsm_model.proofs.Histories.{value-same}
use Rattle.clsm_law.proofs.Setting.{Ground, clock_live, live_below_shown, not_all_quiet, shown_below_merged}
use Rattle.clsm_words.specs.Knowing.{AreReadable, IsNamedWord}
use Rattle.clsm_words.specs.Ruled.{Begins, HasFloor}
use Rattle.clsm_words.proofs.Beginnings.{begins_settled}

-- the floor is below the snapshot's time
pub snapshot_above : (floor clock past : ℕ) (pinned : Bool) (snapshot : SnapshotState) (t : ℕ) → IsSnapshot floor clock past pinned snapshot
    → open_time snapshot ≡ Some t → floor ≤ t
snapshot_above floor clock past pinned (Open noted time) t h e = let same : time ≡ t = ap or_zero e in let below = h.1 in omega arith
snapshot_above floor clock past pinned snapshot t h e = absurd cc

-- who holds the component before the newest keeps it
pub held_back : (g : Ground) (i c : ℕ) → i < length g.views → each g.z View.held g.views i ≡ Some c → c + 1 ≡ g.merger.merged → is_held_back g.merger ≡ true
held_back g i c lt e before = ⊎_elim
    (λ (same : c ≡ g.merger.merged). absurd (omega arith))
    (λ (r : IsRetiredFor g.merger i (each g.z View.pin g.views i) c).
    let loud = not_all_quiet g.merger.readers i (let a = g.law.merger.seats in let b = g.law.seated in omega arith) r.loud in rw (r.retired, loud) refl)
    (g.law.held i c e).1

-- the clock is within the two epochs of what is held
end_within : (c n x live : ℕ) → live ≤ c * n → x ≤ live + 2 * n → x ≤ (c + 2) * n
end_within c n x live h until = omega arith

start_within : (c n x : ℕ) → (c + 1) * n ≤ x → c * n ≤ x
start_within c n x h = omega arith

pub clock_near : (g : Ground) (i c : ℕ) → each g.z View.held g.views i ≡ Some c → (c * g.z.cells ≤ g.memory Clock) × (length g.slots ≤ (c + 2) * g.z.cells)
clock_near g i c held = ⊎_elim
    (λ (same : c ≡ g.merger.merged). let low = live_below_shown g in let high = shown_below_merged g in
    subst (λ (m : ℕ). (m * g.z.cells ≤ g.memory Clock) × (length g.slots ≤ (m + 2) * g.z.cells)) (sym same)
    (g.law.begun, end_within g.merger.merged g.z.cells (length g.slots) (first_live g.z g.merger) (omega arith) (clock_live g)))
    (λ (retired : IsRetiredFor g.merger i (each g.z View.pin g.views i) c).
    let end : g.merger.merged ≡ c + 1 = sym retired.before in
    let start : g.merger.merged - 1 ≡ c = omega arith in
    let live : first_live g.z g.merger ≡ c * g.z.cells = rw (retired.retired, start) refl in
    let first : (c + 1) * g.z.cells ≤ g.memory Clock = subst (λ (m : ℕ). m * g.z.cells ≤ g.memory Clock) end g.law.begun in
    (start_within c g.z.cells (g.memory Clock) first, end_within c g.z.cells (length g.slots) (first_live g.z g.merger) (omega arith) (clock_live g)))
    (g.law.held i c held).1

-- a slot that is a write was decided so
written : (o : Option Slot) (slot : Slot) → slot ≢ Nothing → unwrap_or o Nothing ≡ slot → o ≡ Some slot
written None slot some e = absurd (some (sym e))
written (Some x) slot some e = ap (λ (s : Slot). Some s) e

module _ (g : Ground) (i c floor : ℕ) (row : Memory) (past : List Slot) (b : Begins g.slots past) (lt : i < length g.views)
    (held : each g.z View.held g.views i ≡ Some c) (has : HasFloor g.merger c floor)
    (knows : (word : Word) → IsNamedWord c word → row word ≡ g.memory word) where
  pub floor_below : floor ≤ c * g.z.cells
  floor_below = ⊎_elim
      (λ (h : (c ≡ g.merger.merged) × (floor ≡ g.merger.merged_floor)). let below = g.law.floors.below_merged in
      let same : c * g.z.cells ≡ g.merger.merged * g.z.cells = ap (λ (n : ℕ). n * g.z.cells) h.0 in let e = h.1 in omega arith)
      (λ (h : (c + 1 ≡ g.merger.merged) × (is_retired g.merger.phase ≡ true) × (floor ≡ g.merger.former_floor)). let before = h.0 in
      let one : c ≡ g.merger.merged - 1 = omega arith in let below = g.law.floors.below_former in let same : c * g.z.cells
      ≡ (g.merger.merged - 1) * g.z.cells = ap (λ (n : ℕ). n * g.z.cells) one in let e = h.2 in omega arith)
      has

  pub floor_least : floor ≤ g.merger.floor
  floor_least = let merged = g.law.floors.merged in let former = g.law.floors.former in ⊎_elim
      (λ (h : (c ≡ g.merger.merged) × (floor ≡ g.merger.merged_floor)). let e = h.1 in omega arith)
      (λ (h : (c + 1 ≡ g.merger.merged) × (is_retired g.merger.phase ≡ true) × (floor ≡ g.merger.former_floor)). let e = h.2 in omega arith)
      has

  same_named : (p : ℕ) → is_named c p ≡ true → SamePlace g.memory row p
  same_named p named = record { count = knows (Count p) (tt, named); words = λ e j. knows (Entry p e j) (tt, named) }

  -- what the law says of these runs
  runs_there : AreRuns g.z g.memory (history_of g.slots) c floor
  runs_there = ⊎_elim
      (λ (h : (c ≡ g.merger.merged) × (floor ≡ g.merger.merged_floor)). subst (λ (y : ℕ × ℕ). AreRuns g.z g.memory (history_of g.slots) y.0 y.1)
      (λ j. (sym h.0 j, sym h.1 j)) g.law.runs)
      (λ (h : (c + 1 ≡ g.merger.merged) × (is_retired g.merger.phase ≡ true) × (floor ≡ g.merger.former_floor)).
      let before = h.0 in let one : g.merger.merged - 1 ≡ c = omega arith in
      subst (λ (y : ℕ × ℕ). AreRuns g.z g.memory (history_of g.slots) y.0 y.1) (λ j. (one j, sym h.2 j)) (g.law.former_runs (held_back g i c lt held h.0)))
      has

  -- and of the words that the seat knows
  runs_here : AreRuns g.z row (history_of g.slots) c floor
  runs_here = runs_stay g.z g.memory row (history_of g.slots) (history_of g.slots) c floor (λ t low. refl) same_named runs_there

  -- each of its entries is a write of a slot, and short
  short_entry : (e : RunEntry) → IsWriteOf (history_of g.slots) e → IsShort e.value
  short_entry e write = g.law.short e.time write.0 e.key e.value (written (outcome_at g.slots e.time) (Wrote write.0 e.key e.value) (λ same. cc)
      (sym (settled_at g.slots e.time) ∙ write.1))

  pub runs_held : AreReadable g.z row (plain past) c floor
  runs_held = record {
    exact = λ key s from until. runs_here.content.exact key s from (omega arith)
        ∙ sym (value-same (history_of g.slots) (plain past) key s (λ t lt. begins_settled g.slots past b t (omega arith)));
    order = runs_here.content.order;
    older = runs_here.content.older;
    short = every_weaker (IsWriteOf (history_of g.slots)) (λ (e : RunEntry). IsShort e.value) short_entry (all_of (runs_of row c)) runs_here.content.writes;
    counts = runs_here.counts;
    canonical = runs_here.canonical;
  }
