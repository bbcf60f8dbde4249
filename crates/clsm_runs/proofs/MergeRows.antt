-- The rows that a merge reads, by their numbers, and what of them stays over its looks and writes.
use Rattle.std.proofs.Common.{◌≡◌, ℕ, zero, suc, ◌+◌, ◌-◌, ◌/◌, ◌%◌, ◌<◌, ◌≤◌, ◌==◌, Bool, true, false, cond, nat_lt, List, [], ◌∷◌, ◌++◌, drop, length}
use Rattle.std.proofs.Common.{slice_get, refl, ap, sym, ◌∙◌, arith, subst, Some, None, inl, inr}
use Rattle.std.specs.List.{AllByRecursion}
use Rattle.std.proofs.lemmas.Bool.{cases_eq, cases_lt, eq-eqb, le-ltb, lt-ltb, ne_eqb}
use Rattle.clsm_levels.specs.declared.entry.Entry.{Entry}
use Rattle.clsm_levels.specs.declared.place.Place.{Place}
use Rattle.clsm_levels.specs.declared.place.Place.TheVariants.{LevelOne}
use Rattle.clsm_levels.specs.Cursors.{first_of, row_at}
use Rattle.clsm_levels.specs.Merge.{is_to_level_one}
use Rattle.clsm_levels.specs.Place.{level_zero_places, runs_at}
use Rattle.clsm_levels.proofs.Placed.{target_one, target_zero}
use Rattle.clsm_law.specs.declared.merger.MergerView.{MergerView}
use Rattle.clsm_law.specs.declared.word.Word.{Word}
use Rattle.clsm_law.specs.declared.word.Word.TheVariants.{Count, Entry as EntryWord}
use Rattle.clsm_law.specs.Memory.{Memory}
use Rattle.clsm_law.specs.Merging.{place_of, target_of}
use Rattle.clsm_law.specs.Places.{entry_in, entries_from, entries_in, held_at, is_named, number_of}
use Rattle.clsm_law.specs.Worlds.{runs_of}
use Rattle.clsm_law.proofs.Runs.Kept.{SamePlace, runs_same}
use Rattle.clsm_words.specs.declared.known.Known.{Known}
use Rattle.clsm_words.specs.Knowing.{row_of}
use Rattle.clsm_words.specs.Changing.{Changes, NoWord}
use Rattle.clsm_words.specs.Merging.{IsSoundMerger}
use Rattle.clsm_words.proofs.Changing.{changes_more, changes_trans}
use Rattle.clsm_search.specs.Frozen.{IsEntryAt, IsFrozenBehind, epoch_row}
use Rattle.clsm_search.proofs.FrozenTimes.{row_written}
use Rattle.clsm_search.proofs.FrozenWalks.{epoch_row_stays}
use Rattle.clsm_runs.specs.declared.rows.Winner.{Winner}
use Rattle.clsm_runs.specs.Outputs.{IsTaken}
use Rattle.clsm_runs.specs.Placing.{IsOfPlace, rows_of}
use Rattle.clsm_runs.specs.Searching.{count_of, run_at}

-- ---- the entry at a position

pub first_get : (xs : List Entry) (n : ℕ) → slice_get xs n ≡ first_of (drop n xs)
first_get [] zero = refl
first_get [] (suc n) = refl
first_get (x ∷ xs) zero = refl
first_get (x ∷ xs) (suc n) = first_get xs n

pub first_there : (memory : Memory) (p i n j : ℕ) → j < n → first_of (drop j (entries_from memory p i n)) ≡ Some (entry_in memory p (i + j))
first_there memory p i zero j lt = absurd (omega arith)
first_there memory p i (suc n) zero lt = ap (λ (m : ℕ). Some (entry_in memory p m)) (omega arith)
first_there memory p i (suc n) (suc j) lt = first_there memory p (i + 1) n j (omega arith) ∙ ap (λ (m : ℕ). Some (entry_in memory p m)) (omega arith)

pub first_past : (memory : Memory) (p i n j : ℕ) → n ≤ j → first_of (drop j (entries_from memory p i n)) ≡ None
first_past memory p i zero zero le = refl
first_past memory p i zero (suc j) le = refl
first_past memory p i (suc n) zero le = absurd (omega arith)
first_past memory p i (suc n) (suc j) le = first_past memory p (i + 1) n j (omega arith)

-- the entry at a position is within the run
pub taken_inside : (k : Known) (p n : ℕ) (e : Entry) → first_of (drop n (run_at k p)) ≡ Some e → (n < count_of k p) × (entry_in (row_of k) p n ≡ e)
taken_inside k p n e is = elim (cases_lt n (count_of k p)) [
  | inl lt ↦
      let same : n ≡ 0 + n = omega arith in
      let here : entry_in (row_of k) p (0 + n) ≡ e = cc (sym (first_there (row_of k) p 0 (count_of k p) n lt) ∙ is) in
      (lt, ap (entry_in (row_of k) p) same ∙ here)
  | inr past ↦ absurd (cc (sym (first_past (row_of k) p 0 (count_of k p) n past) ∙ is))
]

-- ---- the rows

-- where level 1 is written, the runs of level 0 follow from the newest on, and then that of level 1
module _ (k : Known) (one : k.merger.merged % 4 ≡ 3) where
  pub rows_are : rows_of k
      ≡ epoch_row k ∷ entries_in (row_of k) 2 ∷ entries_in (row_of k) 1 ∷ entries_in (row_of k) 0 ∷ entries_in (row_of k) (3 + k.merger.merged / 4 % 2) ∷ []
  rows_are =
      ap (λ (b : Bool). epoch_row k ∷ cond b (runs_of (row_of k) k.merger.merged) []) (eq-eqb (k.merger.merged % 4) 3 one)
      ∙ ap (λ (n : ℕ). epoch_row k ∷ runs_at (held_at (row_of k)) (level_zero_places n ++ LevelOne (k.merger.merged / 4 % 2) ∷ [])) one

  pub row_zero : (row : ℕ) → 0 < row → row < 4 → row_at (rows_of k) row ≡ entries_in (row_of k) (3 - row)
  row_zero zero some few = absurd (omega arith)
  row_zero (suc zero) some few = ap (λ (rows : List (List Entry)). row_at rows 1) rows_are
  row_zero (suc (suc zero)) some few = ap (λ (rows : List (List Entry)). row_at rows 2) rows_are
  row_zero (suc (suc (suc zero))) some few = ap (λ (rows : List (List Entry)). row_at rows 3) rows_are
  row_zero (suc (suc (suc (suc row)))) some few = absurd (omega arith)

  pub row_one : row_at (rows_of k) 4 ≡ entries_in (row_of k) (3 + k.merger.merged / 4 % 2)
  row_one = ap (λ (rows : List (List Entry)). row_at rows 4) rows_are

-- where level 0 is written there is none but the epoch's
pub no_more_rows : (k : Known) (row : ℕ) → (k.merger.merged % 4 ≡ 3 → ⊥) → 0 < row → row_at (rows_of k) row ≡ []
no_more_rows k zero zero_level some = absurd (omega arith)
no_more_rows k (suc row) zero_level some =
    ap (λ (b : Bool). row_at (epoch_row k ∷ cond b (runs_of (row_of k) k.merger.merged) []) (suc row)) (ne_eqb (k.merger.merged % 4) 3 zero_level)
    ∙ at_none row where
      at_none : (row : ℕ) → row_at [] row ≡ []
      at_none zero = refl
      at_none (suc row) = refl

-- there are at most five
pub few_rows : (k : Known) → length (rows_of k) ≤ 5
few_rows k = elim (cases_eq (k.merger.merged % 4) 3) [
  | inl one ↦ let five = ap (λ (rows : List (List Entry)). length rows) (rows_are k one) in omega arith
  | inr zero_level ↦ let one =
      ap (λ (b : Bool). length (epoch_row k ∷ cond b (runs_of (row_of k) k.merger.merged) [])) (ne_eqb (k.merger.merged % 4) 3 zero_level) in omega arith
]

-- what holds of each row holds of the row with this number, if it holds of none
pub every_row : (P : List Entry → Type 0) (rows : List (List Entry)) (i : ℕ) → P [] → AllByRecursion P rows → P (row_at rows i)
every_row P [] i none every = none
every_row P (row ∷ rows) zero none every = every.0
every_row P (row ∷ rows) (suc i) none every = every_row P rows i none every.1

-- and what holds of each entry of a row holds of the one at a position
pub every_first : (P : Entry → Type 0) (xs : List Entry) (n : ℕ) (e : Entry) → AllByRecursion P xs → first_of (drop n xs) ≡ Some e → P e
every_first P [] zero e every is = absurd (cc is)
every_first P [] (suc n) e every is = absurd (cc is)
every_first P (x ∷ xs) zero e every is = let same : x ≡ e = cc is in subst P same every.0
every_first P (x ∷ xs) (suc n) e every is = every_first P xs n e every.1 is

-- ---- what stays

-- a place that does not change holds the same
place_stays : (Those : Word → Type 0) (k k' : Known) (p : ℕ) → Changes Those k k' → (Those (Count p) → ⊥) → ((e i : ℕ) → Those (EntryWord p e i) → ⊥)
    → SamePlace (row_of k) (row_of k') p
place_stays Those k k' p changes not_count not_entry = record {
  count = changes.stays (Count p) tt not_count;
  words = λ e i. changes.stays (EntryWord p e i) tt (not_entry e i);
}

-- what changes no merged run leaves them
runs_kept : (Those : Word → Type 0) (k k' : Known) → Changes Those k k' → ((word : Word) → is_named k.merger.merged (place_of word) ≡ true → Those word → ⊥)
    → runs_of (row_of k') k.merger.merged ≡ runs_of (row_of k) k.merger.merged
runs_kept Those k k' changes not =
    runs_same (row_of k) (row_of k') k.merger.merged (λ p named. place_stays Those k k' p changes (not (Count p) named) (λ e i. not (EntryWord p e i) named))

-- and so the rows
rows_kept : (k k' : Known) → epoch_row k' ≡ epoch_row k → k'.merger ≡ k.merger → runs_of (row_of k') k.merger.merged ≡ runs_of (row_of k) k.merger.merged
    → rows_of k' ≡ rows_of k
rows_kept k k' epoch view runs =
    ap (λ (es : List Entry). es ∷ cond (is_to_level_one k'.merger.merged) (runs_of (row_of k') k'.merger.merged) []) epoch
    ∙ ap (λ (m : MergerView). epoch_row k ∷ cond (is_to_level_one m.merged) (runs_of (row_of k') m.merged) []) view
    ∙ ap (λ (runs : List (List Entry)). epoch_row k ∷ cond (is_to_level_one k.merger.merged) runs []) runs

pub rows_looked : (k k' : Known) (merges : ℕ) → IsSoundMerger k → IsFrozenBehind k merges → Changes NoWord k k' → rows_of k' ≡ rows_of k
rows_looked k k' merges sound behind looks =
    rows_kept k k' (epoch_row_stays NoWord k k' looks merges behind sound) looks.view (runs_kept NoWord k k' looks (λ word named no. no))

-- the place of the next merge is none of the runs'
pub target_unnamed : (m : MergerView) → is_named m.merged (target_of m) ≡ false
target_unnamed m = elim (cases_eq (m.merged % 4) 3) [
  | inl one ↦ ap (λ (place : Place). is_named m.merged (number_of place)) (target_one m.merged one)
      ∙ ap (λ (b : Bool). cond b (nat_lt (3 + (m.merged / 4 + 1) % 2) (m.merged % 4)) (3 + (m.merged / 4 + 1) % 2 == 3 + m.merged / 4 % 2))
      (le-ltb (3 + (m.merged / 4 + 1) % 2) 3 (omega arith)) ∙ ne_eqb _ _ (λ same. omega arith)
  | inr zero_level ↦ ap (λ (place : Place). is_named m.merged (number_of place)) (target_zero m.merged zero_level)
      ∙ ap (λ (b : Bool). cond b (nat_lt (m.merged % 4) (m.merged % 4)) (m.merged % 4 == 3 + m.merged / 4 % 2)) (lt-ltb (m.merged % 4) 3 (omega arith))
      ∙ le-ltb (m.merged % 4) (m.merged % 4) (omega arith)
]

-- so what is written there leaves them
pub runs_stay : (k k' : Known) → Changes (IsOfPlace (target_of k.merger)) k k' → runs_of (row_of k') k.merger.merged ≡ runs_of (row_of k) k.merger.merged
runs_stay k k' changes =
    runs_kept (IsOfPlace (target_of k.merger)) k k' changes
    (λ word named is. let both : true ≡ false = sym named ∙ ap (is_named k.merger.merged) is ∙ target_unnamed k.merger in absurd (cc both))

pub rows_stay : (k k' : Known) (merges : ℕ) → IsSoundMerger k → IsFrozenBehind k merges → Changes (IsOfPlace (target_of k.merger)) k k' → rows_of k' ≡ rows_of k
rows_stay k k' merges sound behind changes =
    rows_kept k k' (epoch_row_stays (IsOfPlace (target_of k.merger)) k k' changes merges behind sound) changes.view (runs_stay k k' changes)

-- ---- the entry that is taken

module _ (k : Known) (w : Winner) (e : Entry) (taken : IsTaken (rows_of k) w e) where
  -- of the first row it is a write of the epoch
  pub taken_written : (merges : ℕ) → IsSoundMerger k → IsFrozenBehind k merges → w.row ≡ 0 → IsEntryAt k e
  taken_written merges sound behind first =
      every_first (IsEntryAt k) (epoch_row k) w.position e (row_written k merges sound behind)
      (subst (λ (row : ℕ). first_of (drop w.position (row_at (rows_of k) row)) ≡ Some e) first taken.stands)

  -- of a later one it stands in the run that is this row
  pub taken_of_run : (place : ℕ) → row_at (rows_of k) w.row ≡ run_at k place → (w.position < count_of k place) × (entry_in (row_of k) place w.position ≡ e)
  taken_of_run place is = taken_inside k place w.position e (ap (λ (row : List Entry). first_of (drop w.position row)) (sym is) ∙ taken.stands)

  -- what is written at the place of the next merge, and looks, leave it
  pub taken_stays : (first then : Known) (merges : ℕ) → IsSoundMerger first → IsFrozenBehind first merges → Changes (IsOfPlace (target_of first.merger)) first k
      → Changes NoWord k then → IsTaken (rows_of then) w e
  taken_stays first then merges sound behind changes looks =
      let target = target_of first.merger in
      let all = changes_trans (IsOfPlace target) first k then changes (changes_more NoWord (IsOfPlace target) k then (λ word no. absurd no) looks) in
      subst (λ (rows : List (List Entry)). IsTaken rows w e)
      (rows_stay first k merges sound behind changes ∙ sym (rows_stay first then merges sound behind all)) taken
