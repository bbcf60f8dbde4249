-- One entry of a merge: it is written behind the others, or not kept.
use Rattle.std.proofs.Common.{◌≡◌, ℕ, zero, suc, ◌+◌, ◌<◌, Bool, true, false, cond, Option, List, [], ◌∷◌, ◌++◌, length, refl, ap, ◌∙◌, arith, inl, inr}
use Rattle.std.proofs.lemmas.Bool.{cases_eq}
use Rattle.clsm_levels.specs.declared.entry.Entry.{Entry}
use Rattle.clsm_levels.specs.Pass.{kept_after}
use Rattle.clsm_levels.proofs.Picks.{more_than, rest_dropped, rest_kept}
use Rattle.clsm_law.specs.declared.word.Word.TheVariants.{Entry as EntryWord}
use Rattle.clsm_law.specs.Memory.{Memory}
use Rattle.clsm_law.specs.Places.{entry_in, entries_from}
use Rattle.clsm_law.specs.Worlds.{is_canonical, passes_from}
use Rattle.clsm_law.proofs.Runs.Kept.{entry_canonical, entry_same}
use Rattle.clsm_law.proofs.Passes.{passes_at, passes_if}
use Rattle.clsm_words.specs.declared.known.Known.{Known}
use Rattle.clsm_words.specs.Knowing.{row_of}
use Rattle.clsm_runs.specs.declared.output.Output.{Output}
use Rattle.clsm_words.specs.Changing.{Changes}
use Rattle.clsm_runs.specs.Placing.{IsOfEntry}
use Rattle.clsm_runs.specs.Outputs.{LeavesOff}

-- ---- entries behind one another

pub length-entries : (memory : Memory) (p i n : ℕ) → length (entries_from memory p i n) ≡ n
length-entries memory p i zero = refl
length-entries memory p i (suc n) = let rest = length-entries memory p (i + 1) n in omega arith

entries_more : (memory : Memory) (p i n : ℕ) → entries_from memory p i (suc n) ≡ entries_from memory p i n ++ entry_in memory p (i + n) ∷ []
entries_more memory p i zero = let same : i ≡ i + 0 = omega arith in ap (λ (j : ℕ). entry_in memory p j ∷ []) same
entries_more memory p i (suc n) =
    let same : i + 1 + n ≡ i + suc n = omega arith in
    ap (λ (l : List Entry). entry_in memory p i ∷ l)
    (entries_more memory p (i + 1) n ∙ ap (λ (j : ℕ). entries_from memory p (i + 1) n ++ entry_in memory p j ∷ []) same)

pub entries_under : (memory memory' : Memory) (p i n : ℕ) → ((e part : ℕ) → e < i + n → memory' (EntryWord p e part) ≡ memory (EntryWord p e part))
    → entries_from memory' p i n ≡ entries_from memory p i n
entries_under memory memory' p i zero same = refl
entries_under memory memory' p i (suc n) same =
    let here = entry_same memory memory' p i (λ part. same i part (omega arith)) in
    let rest = entries_under memory memory' p (i + 1) n (λ e part lt. same e part (omega arith)) in
    cc (here, rest)

-- ---- the entry is written behind the others

module _ (k k' : Known) (p n : ℕ) (e : Entry) (changes : Changes (IsOfEntry p n) k k') (made : entry_in (row_of k') p n ≡ e) where
  stays_under : (i part : ℕ) → i < n → row_of k' (EntryWord p i part) ≡ row_of k (EntryWord p i part)
  stays_under i part lt = changes.stays (EntryWord p i part) tt (λ here. let same = here.1 in omega arith)

  entries_now : entries_from (row_of k') p 0 (n + 1) ≡ entries_from (row_of k) p 0 n ++ e ∷ []
  entries_now =
      let more : n + 1 ≡ suc n = omega arith in
      let at : 0 + n ≡ n = omega arith in
      ap (entries_from (row_of k') p 0) more ∙ entries_more (row_of k') p 0 n
      ∙ ap (λ (l : List Entry). l ++ entry_in (row_of k') p (0 + n) ∷ [])
      (entries_under (row_of k) (row_of k') p 0 n (λ i part lt. stays_under i part (omega arith)))
      ∙ ap (λ (j : ℕ). entries_from (row_of k) p 0 n ++ entry_in (row_of k') p j ∷ []) at
      ∙ ap (λ (x : Entry). entries_from (row_of k) p 0 n ++ x ∷ []) made

  canonical_now : is_canonical (row_of k') p n ≡ true → passes_from (is_canonical (row_of k) p) 0 n ≡ true
      → passes_from (is_canonical (row_of k') p) 0 (n + 1) ≡ true
  canonical_now here before = passes_if (is_canonical (row_of k') p) 0 (n + 1) (λ i from until. elim (cases_eq i n) [
    | inl last ↦ ap (is_canonical (row_of k') p) last ∙ here
    | inr other ↦ entry_canonical (row_of k) (row_of k') p i (λ part. stays_under i part (omega arith))
        ∙ passes_at (is_canonical (row_of k) p) 0 n i before (omega arith) (omega arith)
  ])

-- ---- what is left after it

module _ (k : Known) (o : Output) (e : Entry) (rest all : List Entry) (is_kept : Bool) (settled : Option ℕ)
    (keeps : (rest : List Entry)
    → kept_after o.settled o.floor o.to_level_one (e ∷ rest)
    ≡ cond is_kept (e ∷ kept_after settled o.floor o.to_level_one rest) (kept_after settled o.floor o.to_level_one rest))
    (before : LeavesOff k o (e ∷ rest) all) where
  pub left_out : is_kept ≡ false → LeavesOff k (record o { settled = settled }) rest all
  left_out not = record {
    split = rest_dropped o.settled settled o.floor o.to_level_one is_kept e (e ∷ rest) rest (entries_from (row_of k) o.place 0 o.count)
        (entries_from (row_of k) o.place 0 o.count) all refl keeps before.split not refl;
    canonical = before.canonical;
  }

  pub more_to_keep : is_kept ≡ true → o.count < length all
  more_to_keep kept =
      let n = length-entries (row_of k) o.place 0 o.count in
      let more = more_than o.settled settled o.floor o.to_level_one is_kept e (e ∷ rest) rest (entries_from (row_of k) o.place 0 o.count)
      (entries_from (row_of k) o.place 0 o.count) all refl keeps before.split kept in
      omega arith

  pub put_behind : (k' : Known) → Changes (IsOfEntry o.place o.count) k k' → entry_in (row_of k') o.place o.count ≡ e
      → is_canonical (row_of k') o.place o.count ≡ true → is_kept ≡ true → LeavesOff k' (record o { count = o.count + 1; settled = settled }) rest all
  put_behind k' changes made canonical kept = record {
    split = rest_kept o.settled settled o.floor o.to_level_one is_kept e (e ∷ rest) rest (entries_from (row_of k) o.place 0 o.count)
        (entries_from (row_of k') o.place 0 (o.count + 1)) all refl keeps before.split kept (entries_now k k' o.place o.count e changes made);
    canonical = canonical_now k k' o.place o.count e changes made canonical before.canonical;
  }
