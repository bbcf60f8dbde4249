-- A search by halving: what stands before an entry that comes too early comes too early.
use Rattle.std.proofs.Common.{◌≡◌, ℕ, zero, suc, ◌+◌, ◌-◌, ◌<◌, ◌≤◌, ◌⊎◌, List, [], ◌∷◌, refl, sym, ap, ◌∙◌, subst, arith, inl, inr, Option, Some, None}
use Rattle.std.proofs.lemmas.Bool.{cases_lt, eq-eqb}
use Rattle.std.proofs.lemmas.Bool.Decides.{nat_tests}
use Rattle.std.specs.List.{AllByRecursion}
use Rattle.clsm_levels.specs.declared.entry.Entry.{Entry}
use Rattle.clsm_levels.specs.Entry.{first_below}
use Rattle.clsm_levels.specs.Run.{ComesBefore, IsRun}
use Rattle.clsm_levels.proofs.Every.{every_weaker}
use Rattle.clsm_levels.proofs.Searches.{first_below_here}
use Rattle.clsm_law.specs.declared.word.Word.TheVariants.{Entry as EntryWord}
use Rattle.clsm_law.specs.Memory.{Memory}
use Rattle.clsm_law.specs.Places.{entry_in, entries_from}
use Rattle.clsm_words.specs.declared.known.Known.{Known}
use Rattle.clsm_words.specs.Knowing.{row_of}
use Rattle.clsm_runs.specs.declared.side.Side.TheVariants.{Hit}
use Rattle.clsm_runs.specs.Searching.{ComesEarlier, IsHitAt, IsPosition, IsSide, StandsFrom, count_of, rest_from, run_at}
use Rattle.clsm_runs.proofs.NamedRuns.{at_entry}

-- ---- one entry

earlier_before : (key until : ℕ) (x y : Entry) → ComesBefore x y → ComesEarlier key until y → ComesEarlier key until x
earlier_before key until x y before earlier = grind arith

-- no search for the key or a greater one finds an entry that is of a smaller key, or not of a time
-- below until
pub not_found : (from until : ℕ) (x : Entry) (xs : List Entry) → (x.key < from) ⊎ (until ≤ x.time) → (key : ℕ) → from ≤ key
    → first_below (x ∷ xs) key until ≡ first_below xs key until
not_found from until x xs is key le = grind (arith, nat_tests)

-- as is one that comes earlier
earlier_not : (key until : ℕ) (x : Entry) → ComesEarlier key until x → (x.key < key) ⊎ (until ≤ x.time)
earlier_not key until x (inl less) = inl less
earlier_not key until x (inr older) = inr older.1

pub none_of_key : (key until : ℕ) (xs : List Entry) → AllByRecursion (λ (e : Entry). key < e.key) xs → first_below xs key until ≡ None
none_of_key key until [] every = refl
none_of_key key until (x ∷ xs) every = let lt : key < x.key = every.0 in let rest = none_of_key key until xs every.1 in grind (arith, nat_tests)

pub later_key : (key : ℕ) (x y : Entry) → key < x.key → ComesBefore x y → key < y.key
later_key key x y lt before = grind arith

-- ---- the entries from one on

module _ (memory : Memory) (p n : ℕ) where
  pub rest_more : (i : ℕ) → i < n → rest_from memory p n i ≡ entry_in memory p i ∷ rest_from memory p n (i + 1)
  rest_more i lt = let e : n - i ≡ suc (n - (i + 1)) = omega arith in ap (entries_from memory p i) e

  rest_none : (i : ℕ) → n ≤ i → rest_from memory p n i ≡ []
  rest_none i le = let e : n - i ≡ 0 = omega arith in ap (entries_from memory p i) e

  run_more : (i : ℕ) → i < n → IsRun (rest_from memory p n i)
      → AllByRecursion (ComesBefore (entry_in memory p i)) (rest_from memory p n (i + 1)) × IsRun (rest_from memory p n (i + 1))
  run_more i lt run = subst IsRun (rest_more i lt) run

  -- of a run they are a run
  run_rest : (i : ℕ) → IsRun (rest_from memory p n 0) → IsRun (rest_from memory p n i)
  run_rest zero run = run
  run_rest (suc i) run = let next : i + 1 ≡ suc i = omega arith in elim (cases_lt i n) [
    | inl lt ↦ subst (λ (j : ℕ). IsRun (rest_from memory p n j)) next ((run_more i lt (run_rest i run)).1)
    | inr le ↦ subst IsRun (sym (rest_none (suc i) (omega arith))) tt
  ]

  -- no entry up to the d-th behind i, which comes earlier, is found for the key or a greater one
  skips_by : (key until i d : ℕ) → IsRun (rest_from memory p n i) → i + d < n → ComesEarlier key until (entry_in memory p (i + d)) → (wanted : ℕ) → key ≤ wanted
      → first_below (rest_from memory p n i) wanted until ≡ first_below (rest_from memory p n (i + d + 1)) wanted until
  skips_by key until i zero run lt earlier wanted from =
      let here : i + 0 ≡ i = omega arith in
      let first = subst (λ (j : ℕ). ComesEarlier key until (entry_in memory p j)) here earlier in
      ap (λ (es : List Entry). first_below es wanted until) (rest_more i (omega arith))
      ∙ not_found key until (entry_in memory p i) (rest_from memory p n (i + 1)) (earlier_not key until (entry_in memory p i) first) wanted from
      ∙ ap (λ (j : ℕ). first_below (rest_from memory p n (j + 1)) wanted until) (sym here)
  skips_by key until i (suc d) run lt earlier wanted from =
      let more = run_more i (omega arith) run in
      let same : i + 1 + d ≡ i + suc d = omega arith in
      let before : ComesBefore (entry_in memory p i) (entry_in memory p (i + suc d)) = at_entry (ComesBefore (entry_in memory p i)) memory p (i + 1)
      (n - (i + 1)) (i + suc d) (omega arith) (omega arith) more.0 in
      let first = earlier_before key until (entry_in memory p i) (entry_in memory p (i + suc d)) before earlier in
      ap (λ (es : List Entry). first_below es wanted until) (rest_more i (omega arith))
      ∙ not_found key until (entry_in memory p i) (rest_from memory p n (i + 1)) (earlier_not key until (entry_in memory p i) first) wanted from
      ∙ skips_by key until (i + 1) d more.1 (omega arith) (subst (λ (j : ℕ). ComesEarlier key until (entry_in memory p j)) (sym same) earlier) wanted from
      ∙ ap (λ (j : ℕ). first_below (rest_from memory p n (j + 1)) wanted until) same

  -- from an entry of a greater key on there is none of the key
  pub behind : (key until middle : ℕ) → IsRun (rest_from memory p n 0) → middle < n → key < memory (EntryWord p middle 0)
      → first_below (rest_from memory p n middle) key until ≡ None
  behind key until middle run lt greater =
      let more = run_more middle lt (run_rest middle run) in
      ap (λ (es : List Entry). first_below es key until) (rest_more middle lt)
      ∙ none_of_key key until (entry_in memory p middle ∷ rest_from memory p n (middle + 1)) (
        greater,
        every_weaker (ComesBefore (entry_in memory p middle)) (λ (e : Entry). key < e.key)
            (λ y before. later_key key (entry_in memory p middle) y greater before) (rest_from memory p n (middle + 1)) more.0,
      )

  -- an entry of the key with a time below until is the first such from there on
  pub hit_here : (key until i spelled : ℕ) → i < n → IsSide memory p i key until (Hit spelled)
      → first_below (rest_from memory p n i) key until ≡ Some (entry_in memory p i)
  hit_here key until i spelled lt side =
      ap (λ (es : List Entry). first_below es key until) (rest_more i lt)
      ∙ first_below_here (entry_in memory p i) (rest_from memory p n (i + 1)) key until (eq-eqb (memory (EntryWord p i 0)) key side.0) side.2

-- ---- where the halves meet

-- what is at the entry where they meet is the first
position_by : (k : Known) (place key until at : ℕ) (hit : Option (ℕ × ℕ))
    → first_below (run_at k place) key until ≡ first_below (rest_from (row_of k) place (count_of k place) at) key until
    → IsHitAt (row_of k) place (count_of k place) key until at hit → IsPosition k place key until hit
position_by k place key until at None skipped is = skipped ∙ is
position_by k place key until at (Some hit) skipped is =
    let side = subst (λ (j : ℕ). IsSide (row_of k) place j key until (Hit hit.1)) (sym is.0) is.2 in
    let inside : hit.0 < count_of k place = subst (λ (j : ℕ). j < count_of k place) (sym is.0) is.1 in (
      inside,
      side.0,
      side.1,
      skipped ∙ ap (λ (j : ℕ). first_below (rest_from (row_of k) place (count_of k place) j) key until) (sym is.0)
          ∙ hit_here (row_of k) place (count_of k place) key until hit.0 hit.1 inside side,
    )

pub position_at : (k : Known) (place key until low high : ℕ) (hit : Option (ℕ × ℕ)) → low ≡ high → StandsFrom k place until key low
    → IsHitAt (row_of k) place (count_of k place) key until high hit → IsPosition k place key until hit
position_at k place key until low high hit met stands is =
    let skipped = stands.passed key (omega arith) in
    position_by k place key until high hit
    (subst (λ (j : ℕ). first_below (run_at k place) key until ≡ first_below (rest_from (row_of k) place (count_of k place) j) key until) met skipped) is

-- ---- a run

-- the entries from the first on are all of the run
pub run_of_all : (k : Known) (place : ℕ) → IsRun (run_at k place) → IsRun (rest_from (row_of k) place (count_of k place) 0)
run_of_all k place run = let all : count_of k place ≡ count_of k place - 0 = omega arith in subst (λ (n : ℕ). IsRun (entries_from (row_of k) place 0 n)) all run

-- no entry up to one that comes too early is found
pub skips : (k : Known) (place key until low middle : ℕ) → IsRun (run_at k place) → StandsFrom k place until key low → low ≤ middle → middle < count_of k place
    → ComesEarlier key until (entry_in (row_of k) place middle) → StandsFrom k place until key (middle + 1)
skips k place key until low middle run stands le lt earlier =
    let memory = row_of k in
    let n = count_of k place in
    let same : low + (middle - low) ≡ middle = omega arith in
    let last = subst (λ (j : ℕ). ComesEarlier key until (entry_in memory place j)) (sym same) earlier in
    record {
      within = omega arith;
      passed = λ wanted from.
          stands.passed wanted from
          ∙ skips_by memory place n key until low (middle - low) (run_rest memory place n low (run_of_all k place run)) (omega arith) last wanted from
          ∙ ap (λ (j : ℕ). first_below (rest_from memory place n (j + 1)) wanted until) same;
    }
