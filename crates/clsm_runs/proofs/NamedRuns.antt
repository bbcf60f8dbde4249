-- What the law says of the runs of a component, at each place that it names.
use Rattle.std.proofs.Common.{◌≡◌, ℕ, zero, suc, ◌+◌, ◌*◌, ◌/◌, ◌%◌, ◌<◌, ◌≤◌, ◌==◌, inl, inr, Bool, true, cond, nat_lt, List, [], ◌∷◌, ◌++◌, length, map}
use Rattle.std.proofs.Common.{refl, sym, subst, arith}
use Rattle.std.specs.List.{AllByRecursion}
use Rattle.std.proofs.lemmas.Bool.{lt-ltb, le-ltb, ltb-true, eqb-true, eq-eqb, cases_lt, cases_eq}
use Rattle.clsm_model.specs.History.{plain}
use Rattle.clsm_levels.specs.declared.entry.Entry.{Entry}
use Rattle.clsm_levels.specs.declared.place.Place.{Place}
use Rattle.clsm_levels.specs.declared.place.Place.TheVariants.{LevelOne}
use Rattle.clsm_levels.specs.Entry.{IsWriteOf}
use Rattle.clsm_levels.specs.Place.{level_zero_places}
use Rattle.clsm_levels.specs.Run.{IsRun, all_of}
use Rattle.clsm_levels.proofs.Every.{every_both, every_left, every_right, every_weaker}
use Rattle.clsm_law.specs.declared.word.Word.TheVariants.{Clock}
use Rattle.clsm_law.specs.Memory.{Memory}
use Rattle.clsm_law.specs.Merging.{epoch_end, is_frozen}
use Rattle.clsm_law.specs.Places.{is_named, entry_in, entries_from, entries_in, held_at}
use Rattle.clsm_law.specs.Worlds.{runs_of, are_canonical}
use Rattle.clsm_law.specs.Views.{IsShort}
use Rattle.clsm_words.specs.declared.known.Known.{Known}
use Rattle.clsm_words.specs.Knowing.{Sound, row_of}
use Rattle.clsm_words.specs.Merging.{IsSoundMerger}
use Rattle.clsm_runs.specs.Searching.{HasEntry, IsSearchable, count_of, run_at}
use Rattle.clsm_runs.specs.Placing.{IsMergedEntry}

-- ---- the places that a component names

-- a place of level 0 that it names is below the number of its runs there, and its place of level 1
-- is the one
named_cases : (P : Type 0) (m p : ℕ) → is_named m p ≡ true → (p < 3 → p < m % 4 → P) → (p ≡ 3 + m / 4 % 2 → P) → P
named_cases P m p named low high = elim (cases_lt p 3) [
  | inl lt ↦ low lt (ltb-true p (m % 4) (subst (λ (b : Bool). cond b (nat_lt p (m % 4)) (p == 3 + m / 4 % 2) ≡ true) (lt-ltb p 3 lt) named))
  | inr le ↦ high (eqb-true p (3 + m / 4 % 2) (subst (λ (b : Bool). cond b (nat_lt p (m % 4)) (p == 3 + m / 4 % 2) ≡ true) (le-ltb p 3 le) named))
]

pub names_zero : (m p : ℕ) → p < m % 4 → is_named m p ≡ true
names_zero m p lt = rw (lt-ltb p 3 (omega arith)) (lt-ltb p (m % 4) lt)

pub names_one : (m : ℕ) → is_named m (3 + m / 4 % 2) ≡ true
names_one m = rw (le-ltb (3 + m / 4 % 2) 3 (omega arith)) (eq-eqb (3 + m / 4 % 2) (3 + m / 4 % 2) refl)

-- ---- what holds of each run of a component holds at each place

at_level_zero : (P : List Entry → Type 0) (memory : Memory) (j p : ℕ) (rest : List Place) → p < j
    → AllByRecursion P (map (held_at memory) (level_zero_places j ++ rest)) → P (entries_in memory p)
at_level_zero P memory zero p rest lt every = absurd (omega arith)
at_level_zero P memory (suc j) p rest lt every = elim (cases_eq p j) [
  | inl same ↦ subst (λ (n : ℕ). P (entries_in memory n)) (sym same) every.0
  | inr other ↦ at_level_zero P memory j p rest (omega arith) every.1
]

at_level_one : (P : List Entry → Type 0) (memory : Memory) (j q : ℕ) → AllByRecursion P (map (held_at memory) (level_zero_places j ++ LevelOne q ∷ []))
    → P (entries_in memory (3 + q))
at_level_one P memory zero q every = every.0
at_level_one P memory (suc j) q every = at_level_one P memory j q every.1

pub at_named : (P : List Entry → Type 0) (memory : Memory) (m p : ℕ) → is_named m p ≡ true → AllByRecursion P (runs_of memory m) → P (entries_in memory p)
at_named P memory m p named every = named_cases (P (entries_in memory p)) m p named
    (λ low below. at_level_zero P memory (m % 4) p (LevelOne (m / 4 % 2) ∷ []) below every)
    (λ is. subst (λ (n : ℕ). P (entries_in memory n)) (sym is) (at_level_one P memory (m % 4) (m / 4 % 2) every))

-- what holds of all entries holds of each run's
pub each_run : (P : Entry → Type 0) (runs : List (List Entry)) → AllByRecursion P (all_of runs) → AllByRecursion (AllByRecursion P) runs
each_run P [] every = tt
each_run P (run ∷ runs) every = (every_left P run (all_of runs) every, each_run P runs (every_right P run (all_of runs) every))

-- ---- the run at a place

-- it is a run of short values, and no word says more than its entries
pub record IsRunAt (k : Known) (component place : ℕ) : Type 0 where
  pub order : IsRun (run_at k place)
  pub short : AllByRecursion (λ (e : Entry). IsShort e.value) (run_at k place)
  pub canonical : are_canonical (row_of k) place ≡ true

-- what a holder reads
pub run_there : (k : Known) (component place : ℕ) → Sound k → IsSearchable k component place → IsRunAt k component place
run_there k component place sound run = let runs = (sound.reads component run.held).runs in record {
  order = at_named IsRun (row_of k) component place run.named runs.order;
  short = at_named (AllByRecursion (λ (e : Entry). IsShort e.value)) (row_of k) component place run.named
      (each_run (λ (e : Entry). IsShort e.value) (runs_of (row_of k) component) runs.short);
  canonical = runs.canonical place run.named;
}

-- what the merger reads: its past reaches the end of the merged epochs
merged_write : (k : Known) → IsSoundMerger k → (e : Entry) → (e.time < k.merger.merged * k.layout.cells) × IsWriteOf (plain k.past) e
    → k.merger.merged * k.layout.cells ≤ length k.past → IsShort e.value
merged_write k sound e is reached = sound.short e.time is.1.0 e.key e.value (let older = is.0 in omega arith) is.1.1

merged_run : (k : Known) (place : ℕ) → IsSoundMerger k → k.merger.merged * k.layout.cells ≤ length k.past → is_named k.merger.merged place ≡ true
    → IsRunAt k k.merger.merged place
merged_run k place sound reached named =
    let m = k.merger.merged in
    let content = sound.runs.content in
    let both = every_both (λ (e : Entry). e.time < m * k.layout.cells) (IsWriteOf (plain k.past))
    (all_of (runs_of (row_of k) m)) content.older content.writes in
    record {
      order = at_named IsRun (row_of k) m place named content.order;
      short = at_named (AllByRecursion (λ (e : Entry). IsShort e.value)) (row_of k) m place named
          (each_run (λ (e : Entry). IsShort e.value) (runs_of (row_of k) m)
          (every_weaker (λ (e : Entry). (e.time < m * k.layout.cells) × IsWriteOf (plain k.past) e) (λ (e : Entry). IsShort e.value)
          (λ e is. merged_write k sound e is reached) (all_of (runs_of (row_of k) m)) both));
      canonical = sound.runs.canonical place named;
    }

-- ---- the entries of a place

-- what holds of n entries from the entry i on holds of each
pub at_entry : (P : Entry → Type 0) (memory : Memory) (p i n e : ℕ) → i ≤ e → e < i + n → AllByRecursion P (entries_from memory p i n) → P (entry_in memory p e)
at_entry P memory p i zero e le lt every = absurd (omega arith)
at_entry P memory p i (suc n) e le lt every = elim (cases_eq e i) [
  | inl same ↦ subst (λ (j : ℕ). P (entry_in memory p j)) (sym same) every.0
  | inr other ↦ at_entry P memory p (i + 1) n e (omega arith) (omega arith) every.1
]

-- ---- its time is below the first of the component's own

pub older_there : (k : Known) (component place entry : ℕ) → Sound k → HasEntry k component place entry
    → (entry_in (row_of k) place entry).time < component * k.layout.cells
older_there k component place entry sound has =
    let older = λ (e : Entry). e.time < component * k.layout.cells in
    let inside = has.inside in
    at_entry older (row_of k) place 0 (count_of k place) entry (omega arith) (omega arith)
    (at_named (AllByRecursion older) (row_of k) component place has.run.named
    (each_run older (runs_of (row_of k) component) (sound.reads component has.run.held).runs.older))

-- ---- a value of an entry is a removal or has one to eight words

is_short_at : (k : Known) (component place entry : ℕ) → IsRunAt k component place → entry < count_of k place → IsShort (entry_in (row_of k) place entry).value
is_short_at k component place entry run inside =
    at_entry (λ (e : Entry). IsShort e.value) (row_of k) place 0 (count_of k place) entry (omega arith) (omega arith) run.short

pub short_there : (k : Known) (component place entry : ℕ) → Sound k → HasEntry k component place entry → IsShort (entry_in (row_of k) place entry).value
short_there k component place entry sound has = is_short_at k component place entry (run_there k component place sound has.run) has.inside

-- the merger's past reaches the end of the merged epochs, and of a frozen one
pub merged_short : (k : Known) (place entry : ℕ) → IsSoundMerger k → IsMergedEntry k place entry → IsShort (entry_in (row_of k) place entry).value
merged_short k place entry sound has = is_short_at k k.merger.merged place entry (merged_run k place sound reached has.named) has.inside where
  reached : k.merger.merged * k.layout.cells ≤ length k.past
  reached =
      let end : epoch_end k.layout k.merger ≤ length k.past = subst
      (λ b. cond b (epoch_end k.layout k.merger) (k.merger.merged * k.layout.cells) ≤ length k.past) has.frozen
      (subst (λ b. cond b (row_of k Clock)
      (cond (is_frozen k.merger.phase) (epoch_end k.layout k.merger)
      (k.merger.merged * k.layout.cells)) ≤ length k.past) has.free sound.reaches) in omega arith
