-- The words that spell an entry are read as that entry, and say no more.
use Rattle.std.proofs.Common.{◌≡◌, ℕ, ◌+◌, ◌/◌, ◌%◌, ◌<◌, ◌≤◌, ◌==◌, ◌||◌, Bool, true, cond, nat_lt, List, [], ◌∷◌, length, take, get_or, refl, ap, ◌∙◌}
use Rattle.std.proofs.Common.{arith, subst, Option, Some, None, ⊎_elim}
use Rattle.std.proofs.lemmas.Bool.{lt-ltb, le-ltb, eq-eqb, ne_eqb, cases_lt, and_from}
use Rattle.std.proofs.lemmas.List.{get_or_past}
use Rattle.clsm_levels.specs.declared.entry.Entry.{Entry}
use Rattle.clsm_law.specs.declared.word.Word.TheVariants.{Entry as EntryWord}
use Rattle.clsm_law.specs.Memory.{Memory}
use Rattle.clsm_law.specs.Places.{value_words, entry_in}
use Rattle.clsm_law.specs.Worlds.{is_length, is_ended, is_canonical}
use Rattle.clsm_law.proofs.Passes.{passes_if}
use Rattle.clsm_runs.specs.Placing.{spelling, value_list}

-- the words of the entry i of the place p spell it
pub record Spells (memory : Memory) (p i : ℕ) (e : Entry) : Type 0 where
  pub key : memory (EntryWord p i 0) ≡ e.key
  pub time : memory (EntryWord p i 1) ≡ spelling e
  pub counted : memory (EntryWord p i 2) ≡ length (value_list e.value)
  pub words : (j : ℕ) → j < 8 → memory (EntryWord p i (3 + j)) ≡ get_or (value_list e.value) j 0
  pub few : length (value_list e.value) ≤ 8

-- a list of at most eight words is the front of eight, 0 behind it
front_of : (words : List ℕ) → length words ≤ 8
    → take (length words) (get_or words 0 0 ∷ get_or words 1 0 ∷ get_or words 2 0 ∷ get_or words 3 0 ∷ get_or words 4 0 ∷ get_or words 5 0 ∷ get_or words 6
    0 ∷ get_or words 7 0 ∷ []) ≡ words
front_of [] few = refl
front_of (a ∷ []) few = refl
front_of (a ∷ b ∷ []) few = refl
front_of (a ∷ b ∷ c ∷ []) few = refl
front_of (a ∷ b ∷ c ∷ d ∷ []) few = refl
front_of (a ∷ b ∷ c ∷ d ∷ e ∷ []) few = refl
front_of (a ∷ b ∷ c ∷ d ∷ e ∷ f ∷ []) few = refl
front_of (a ∷ b ∷ c ∷ d ∷ e ∷ f ∷ g ∷ []) few = refl
front_of (a ∷ b ∷ c ∷ d ∷ e ∷ f ∷ g ∷ h ∷ []) few = refl
front_of (a ∷ b ∷ c ∷ d ∷ e ∷ f ∷ g ∷ h ∷ i ∷ rest) few = absurd (omega arith)

module _ (memory : Memory) (p i : ℕ) where
  words_are : (words : List ℕ) → ((j : ℕ) → j < 8 → memory (EntryWord p i (3 + j)) ≡ get_or words j 0)
      → value_words memory p i
      ≡ get_or words 0 0 ∷ get_or words 1 0 ∷ get_or words 2 0 ∷ get_or words 3 0 ∷ get_or words 4 0 ∷ get_or words 5 0 ∷ get_or words 6 0 ∷ get_or words 7
      0 ∷ []
  words_are words at = rw (
    at 0 (omega arith),
    at 1 (omega arith),
    at 2 (omega arith),
    at 3 (omega arith),
    at 4 (omega arith),
    at 5 (omega arith),
    at 6 (omega arith),
    at 7 (omega arith),
  ) refl

  -- the value that the words spell
  abbrev value_there : Option (List ℕ)
  value_there = cond (memory (EntryWord p i 1) % 2 == 1) None (Some (take (memory (EntryWord p i 2)) (value_words memory p i)))

  value_spelled : (e : Entry) (value : Option (List ℕ)) → e.value ≡ value → Spells memory p i e → value_there ≡ value
  value_spelled e None none s =
      let odd : memory (EntryWord p i 1) % 2 ≡ 1 = let t = s.time ∙ ap (λ (v : Option (List ℕ)). spelling (record e { value = v })) none in omega arith in
      ap (λ (b : Bool). cond b None (Some (take (memory (EntryWord p i 2)) (value_words memory p i)))) (eq-eqb _ 1 odd)
  value_spelled e (Some words) some s =
      let even : memory (EntryWord p i 1) % 2 ≡ 0 = let t = s.time ∙ ap (λ (v : Option (List ℕ)). spelling (record e { value = v })) some in omega arith in
      let same : value_list e.value ≡ words = ap value_list some in
      ap (λ (b : Bool). cond b None (Some (take (memory (EntryWord p i 2)) (value_words memory p i)))) (ne_eqb _ 1 (λ odd. omega arith))
      ∙ ap (λ (n : ℕ). Some (take n (value_words memory p i))) (s.counted ∙ ap (λ (l : List ℕ). length l) same)
      ∙ ap (λ (l : List ℕ). Some (take (length words) l)) (words_are words (λ j lt. s.words j lt ∙ ap (λ (l : List ℕ). get_or l j 0) same))
      ∙ ap (λ (l : List ℕ). Some l) (front_of words (subst (λ (l : List ℕ). length l ≤ 8) same s.few))

  time_spelled : (e : Entry) → Spells memory p i e → memory (EntryWord p i 1) / 2 ≡ e.time
  time_spelled e s = by e.value refl where
    by : (value : Option (List ℕ)) → e.value ≡ value → memory (EntryWord p i 1) / 2 ≡ e.time
    by None none = let t = s.time ∙ ap (λ (v : Option (List ℕ)). spelling (record e { value = v })) none in omega arith
    by (Some words) some = let t = s.time ∙ ap (λ (v : Option (List ℕ)). spelling (record e { value = v })) some in omega arith

  -- they are read as the entry
  pub spelled_entry : (e : Entry) → Spells memory p i e → entry_in memory p i ≡ e
  spelled_entry e s = let k = s.key in let t = time_spelled e s in let v = value_spelled e e.value refl s in λ x. record { key = k x; time = t x; value = v x }

  length_spelled : (e : Entry) (value : Option (List ℕ)) → e.value ≡ value → Spells memory p i e
      → is_length (memory (EntryWord p i 1)) (memory (EntryWord p i 2)) ≡ true
  length_spelled e None none s =
      let odd : memory (EntryWord p i 1) % 2 ≡ 1 = let t = s.time ∙ ap (λ (v : Option (List ℕ)). spelling (record e { value = v })) none in omega arith in
      let zero : memory (EntryWord p i 2) ≡ 0 = s.counted ∙ ap (λ (v : Option (List ℕ)). length (value_list v)) none in
      ap (λ (b : Bool). cond b (memory (EntryWord p i 2) == 0) (nat_lt (memory (EntryWord p i 2)) 9)) (eq-eqb _ 1 odd) ∙ eq-eqb _ 0 zero
  length_spelled e (Some words) some s =
      let even : memory (EntryWord p i 1) % 2 ≡ 0 = let t = s.time ∙ ap (λ (v : Option (List ℕ)). spelling (record e { value = v })) some in omega arith in
      ap (λ (b : Bool). cond b (memory (EntryWord p i 2) == 0) (nat_lt (memory (EntryWord p i 2)) 9)) (ne_eqb _ 1 (λ odd. omega arith))
      ∙ lt-ltb _ 9 (let n = s.counted in let few = s.few in omega arith)

  ended_spelled : (e : Entry) → Spells memory p i e → is_ended memory p i ≡ true
  ended_spelled e s = passes_if (λ j. nat_lt j (memory (EntryWord p i 2)) || memory (EntryWord p i (3 + j)) == 0) 0 8 (λ j from until. ⊎_elim
      (λ (lt : j < memory (EntryWord p i 2)). ap (λ (b : Bool). b || memory (EntryWord p i (3 + j)) == 0) (lt-ltb j _ lt))
      (λ (ge : memory (EntryWord p i 2) ≤ j). ap (λ (b : Bool). b || memory (EntryWord p i (3 + j)) == 0) (le-ltb j _ ge)
      ∙ eq-eqb _ 0 (s.words j until ∙ get_or_past (value_list e.value) j 0 (let n = s.counted in omega arith)))
      (cases_lt j (memory (EntryWord p i 2))))

  -- and no word says more
  pub spelled_canonical : (e : Entry) → Spells memory p i e → is_canonical memory p i ≡ true
  spelled_canonical e s = and_from (is_length (memory (EntryWord p i 1)) (memory (EntryWord p i 2))) (is_ended memory p i) (length_spelled e e.value refl s)
      (ended_spelled e s)
