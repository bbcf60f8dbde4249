-- What a search of a held component finds is the value of the seat's past.
use Rattle.std.proofs.Common.{◌≡◌, ⊎_elim, inl, inr, ℕ, ◌*◌, ◌≤◌, min, List, length, sym, ap, ◌∙◌, arith, Option, Some, None}
use Rattle.std.proofs.lemmas.Bool.{cases_lt}
use Rattle.clsm_model.specs.declared.slot.Slot.{Slot}
use Rattle.clsm_model.specs.History.{History, end_of, left_by, or_else, plain, value}
use Rattle.clsm_levels.specs.declared.entry.Entry.{Entry}
use Rattle.clsm_levels.specs.Entry.{first_below, value_of}
use Rattle.clsm_levels.specs.Run.{first_in_runs}
use Rattle.clsm_levels.proofs.Exactness.{first_in_runs-above, value_above}
use Rattle.clsm_levels.proofs.Histories.{entries_none}
use Rattle.clsm_scan.specs.Collected.{left_at}
use Rattle.clsm_scan.specs.Sources.{found_in_component}
use Rattle.clsm_law.specs.declared.layout.Layout.{Layout}
use Rattle.clsm_law.specs.declared.view.View.{View}
use Rattle.clsm_law.specs.Worlds.{runs_of}
use Rattle.clsm_law.specs.Memory.{Memory}
use Rattle.clsm_law.specs.OpenSteps.{open_time}
use Rattle.clsm_words.specs.declared.known.Known.{Known}
use Rattle.clsm_words.specs.Knowing.{AreReadable, Sound, row_of}
use Rattle.clsm_words.specs.Keeping.{Looks}
use Rattle.clsm_search.specs.Searching.{IsNewest, slot_in, value_in}
use Rattle.clsm_search.specs.Staying.{slot_stays}
use Rattle.clsm_store_calls.specs.Reading.{MayReadAt}

-- what the runs answer for a time above what is merged is what they answer at its end
readable_read : (z : Layout) (memory : Memory) (h : History) (component floor key s : ℕ) → AreReadable z memory h component floor
    → floor ≤ component * z.cells → floor ≤ s → s ≤ end_of h
    → value_of (first_in_runs (runs_of memory component) key s) ≡ value h key (min s (component * z.cells))
readable_read z memory h component floor key s runs below from until = elim (cases_lt (component * z.cells) s) [
  | inl lt ↦ let least : component * z.cells ≡ min s (component * z.cells) = omega arith in
      ap value_of (first_in_runs-above (runs_of memory component) key (component * z.cells) s runs.older (omega arith))
      ∙ runs.exact key (component * z.cells) below (omega arith) ∙ ap (value h key) least
  | inr le ↦ let least : s ≡ min s (component * z.cells) = omega arith in runs.exact key s from (omega arith) ∙ ap (value h key) least
]

-- where the epochs have a write of the key, its value is the key's
pub epochs_answer : (k k' : Known) (component key time t : ℕ) → Looks k k' → IsNewest k component key time (Some t)
    → value_in (slot_in k' t) ≡ value (plain k.past) key time
epochs_answer k k' component key time t looks newest = ap value_in (slot_stays k k' t looks) ∙ sym (ap left_by newest)

-- where the chains have no write of the key, the runs have its value
pub runs_answer : (k k' : Known) (component key time : ℕ) (entry : Option Entry) → Looks k k' → Sound k' → k.view.held ≡ Some component
    → MayReadAt k component time → time ≤ length k.past
    → IsNewest k component key time None → entry ≡ first_in_runs (runs_of (row_of k') component) key time → value_of entry ≡ value (plain k.past) key time
runs_answer k k' component key time entry looks sound held may settled none found =
    let same = looks.reads.seat.layout in
    let cells = ap (λ (z : Layout). component * z.cells) same in
    let reading = sound.reads component (ap (λ (v : View). v.held) looks.reads.view ∙ held) in
    let long = ap (λ (slots : List Slot). length slots) looks.past in
    let below = reading.below_merged in
    let from : k'.floor ≤ time = ⊎_elim
    (λ (merged : component * k.layout.cells ≤ time). omega arith)
    (λ (opened : open_time k.view.snapshot ≡ Some time). reading.below_snapshot time (ap (λ (v : View). open_time v.snapshot) looks.reads.view ∙ opened))
    may in
    ap value_of found
    ∙ readable_read k'.layout (row_of k') (plain k'.past) component k'.floor key time reading.runs below from (omega arith)
    ∙ ap (λ (n : ℕ). value (plain k'.past) key (min time n)) cells
    ∙ ap (λ (slots : List Slot). value (plain slots) key (min time (component * k.layout.cells))) looks.past
    ∙ sym (ap left_by none)

-- the floor of what the seat reads is not above the time
floor_from : (k : Known) (component time : ℕ) → Sound k → k.view.held ≡ Some component → MayReadAt k component time → k.floor ≤ time
floor_from k component time sound held may =
    let reading = sound.reads component held in
    let below = reading.below_merged in
    ⊎_elim
    (λ (merged : component * k.layout.cells ≤ time). omega arith)
    (λ (opened : open_time k.view.snapshot ≡ Some time). reading.below_snapshot time opened)
    may

-- what the component has of a key leaves the value of the seat's past
pub component_value : (k : Known) (component time key : ℕ) → Sound k → k.view.held ≡ Some component → MayReadAt k component time → time ≤ length k.past
    → left_at (found_in_component k component time) key ≡ value (plain k.past) key time
component_value k component time key sound held may settled =
    let reading = sound.reads component held in
    let merged = component * k.layout.cells in
    let older = readable_read k.layout (row_of k) (plain k.past) component k.floor key time reading.runs reading.below_merged
    (floor_from k component time sound held may) settled in
    elim (cases_lt time merged) [
      | inl lt ↦ let least : min time merged ≡ time = omega arith in
          ap (λ (es : List Entry). value_of (or_else (first_below es key time) (first_in_runs (runs_of (row_of k) component) key time)))
          (entries_none k.past merged time (omega arith))
          ∙ older ∙ ap (value (plain k.past) key) least
      | inr le ↦ let least : min time merged ≡ merged = omega arith in
          value_above (plain k.past) key merged time (first_in_runs (runs_of (row_of k) component) key time) le (older ∙ ap (value (plain k.past) key) least)
    ]
