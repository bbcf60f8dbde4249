-- The value that an entry of a run holds, read word by word.
use Rattle.std.proofs.Common.{◌≡◌, ◌≢◌, ℕ, zero, suc, ◌+◌, ◌%◌, ◌<◌, ◌≤◌, ◌==◌, Bool, true, cond, nat_lt, List, take, refl, ap, sym, ◌∙◌, arith, subst}
use Rattle.std.proofs.Common.{Option, Some, None}
use Rattle.std.specs.Prelude.{slice_index}
use Rattle.std.proofs.lemmas.Bool.{ltb-true, ne_eqb, and_parts}
use Rattle.std.proofs.lemmas.List.{get_or-take, length-take}
use Rattle.clsm_law.specs.declared.word.Word.TheVariants.{Count, Entry as EntryWord}
use Rattle.clsm_law.specs.Memory.{Memory}
use Rattle.clsm_law.specs.Places.{value_words, entry_in}
use Rattle.clsm_law.specs.Views.{IsShort, length_of, words_of}
use Rattle.clsm_law.specs.Worlds.{is_length, is_ended, is_canonical, are_canonical}
use Rattle.clsm_law.proofs.Passes.{passes_at}

-- ---- the eight words

word_at : (memory : Memory) (p e j : ℕ) → j < 8 → slice_index (value_words memory p e) j ≡ memory (EntryWord p e (3 + j))
word_at memory p e zero lt = refl
word_at memory p e (suc zero) lt = refl
word_at memory p e (suc (suc zero)) lt = refl
word_at memory p e (suc (suc (suc zero))) lt = refl
word_at memory p e (suc (suc (suc (suc zero)))) lt = refl
word_at memory p e (suc (suc (suc (suc (suc zero))))) lt = refl
word_at memory p e (suc (suc (suc (suc (suc (suc zero)))))) lt = refl
word_at memory p e (suc (suc (suc (suc (suc (suc (suc zero))))))) lt = refl
word_at memory p e (suc (suc (suc (suc (suc (suc (suc (suc j)))))))) lt = absurd (omega arith)

-- ---- an entry that is no removal

module _ (memory : Memory) (place entry : ℕ) (valued : memory (EntryWord place entry 1) % 2 ≢ 1) where
  abbrev count : ℕ
  count = memory (EntryWord place entry 2)

  value_there : (entry_in memory place entry).value ≡ Some (take count (value_words memory place entry))
  value_there = ap (λ (b : Bool). cond b None (Some (take count (value_words memory place entry)))) (ne_eqb (memory (EntryWord place entry 1) % 2) 1 valued)

  -- its length is at most 8 where no word says more than the entries
  at_most_eight : are_canonical memory place ≡ true → entry < memory (Count place) → count ≤ 8
  at_most_eight canonical inside =
      let here = passes_at (is_canonical memory place) 0 (memory (Count place)) entry canonical (omega arith) (omega arith) in
      let both = and_parts (is_length (memory (EntryWord place entry 1)) count) (is_ended memory place entry) here in
      let few : nat_lt count 9
      ≡ true = subst (λ (b : Bool). cond b (count == 0) (nat_lt count 9) ≡ true) (ne_eqb (memory (EntryWord place entry 1) % 2) 1 valued) both.0 in
      let lt = ltb-true count 9 few in omega arith

  -- and at least 1 where its value has words
  at_least_one : IsShort (entry_in memory place entry).value → 1 ≤ count
  at_least_one short =
      let some : IsShort (Some (take count (value_words memory place entry))) = subst IsShort value_there short in
      let at_least = some.0 in
      omega (arith, length-take count (value_words memory place entry))

  -- so long is its value
  is_long : count ≤ 8 → count ≡ length_of (entry_in memory place entry).value
  is_long few = let long = length-take count (value_words memory place entry) in let same = ap length_of value_there in omega arith

  -- all of that of a word that says its length
  pub length_there : (n : ℕ) → n ≡ count → are_canonical memory place ≡ true → entry < memory (Count place) → IsShort (entry_in memory place entry).value
      → (n ≡ length_of (entry_in memory place entry).value) × (1 ≤ n) × (n ≤ 8)
  length_there n is canonical inside short =
      let few = at_most_eight canonical inside in
      let some = at_least_one short in
      (is ∙ is_long few, omega arith, omega arith)

  -- it has at most eight words, and they are those
  pub few_there : length_of (entry_in memory place entry).value ≤ 8
  few_there = let long = length-take count (value_words memory place entry) in let same = ap length_of value_there in omega arith

  pub word_there : (j : ℕ) → j < length_of (entry_in memory place entry).value
      → memory (EntryWord place entry (3 + j)) ≡ slice_index (words_of (entry_in memory place entry).value) j
  word_there j lt =
      let long = length-take count (value_words memory place entry) in
      let same = ap length_of value_there in
      sym (ap (λ (v : Option (List ℕ)). slice_index (words_of v) j) value_there ∙ get_or-take count (value_words memory place entry) j 0 (omega arith)
      ∙ word_at memory place entry j (omega arith))
