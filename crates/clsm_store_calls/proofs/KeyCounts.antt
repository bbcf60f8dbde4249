-- What was counted of a held component is the number of a range's rows. These are no more than
-- there are times below, since each has a write; so a word holds their number.
use Rattle.std.proofs.Common.{◌≡◌, ◌≢◌, ℕ, zero, suc, ◌<◌, ◌≤◌, ◌==◌, Bool, true, false, not, cond, List, [], ◌∷◌, length, refl, sym, ap, ◌∙◌, arith}
use Rattle.std.proofs.Common.{inl, inr, true≢false, Option, Some, None}
use Rattle.std.proofs.lemmas.Bool.{cases_lt, eq-eqb, eqb-true, ne_eqb}
use Rattle.std.proofs.lemmas.List.Kept.{IsStrictlySortedBy-filter}
use Rattle.std.proofs.lemmas.Map.Keys.{sorted_tail}
use Rattle.std.specs.List.{filter}
use Rattle.std.specs.Map.{keys_of}
use Rattle.std.specs.Ordering.{nat_cmp}
use Rattle.clsm_model.specs.declared.slot.Slot.{Slot}
use Rattle.clsm_model.specs.declared.slot.Slot.TheVariants.{Nothing, Wrote}
use Rattle.clsm_model.specs.History.{History, left_by, newest, or_else, slot_at, value, write_of}
use Rattle.clsm_model.specs.Right.{Reads, page_deed}
use Rattle.clsm_model.specs.Map.{IsRange, KeysRise, Pair, value_at}
use Rattle.clsm_scan.specs.Collected.{IsCount}
use Rattle.clsm_store_calls.specs.Scanning.{IsKeyCount}
use Rattle.clsm_model.proofs.Pages.{EachKey, each_weaker, rise_first, value_at-here}
use Rattle.clsm_model.proofs.Ranges.{keys_of-filter}

-- ---- all pairs but the one of a key

abbrev without : ℕ → List Pair → List Pair
without key pairs = filter (λ pair. not (pair.0 == key)) pairs

rise_without : (key : ℕ) (pairs : List Pair) → KeysRise pairs → KeysRise (without key pairs)
rise_without key pairs rise = rw (keys_of-filter (λ k. not (k == key)) pairs) (IsStrictlySortedBy-filter nat_cmp (λ k. not (k == key)) _ rise)

each_without : (key : ℕ) (P Q : ℕ → Type 0) → ((k : ℕ) → key ≢ k → P k → Q k) → (pairs : List Pair) → EachKey P pairs → EachKey Q (without key pairs)
each_without key P Q f [] h = tt
each_without key P Q f (x ∷ xs) h =
    elim (x.0 == key) as (λ (b : Bool). (x.0 == key) ≡ b → EachKey Q (cond (not b) (x ∷ without key xs) (without key xs))) [
      | true ↦ λ t. each_without key P Q f xs h.1
      | false ↦ λ t. (f x.0 (λ e. true≢false (sym (eq-eqb x.0 key (sym e)) ∙ t)) h.0, each_without key P Q f xs h.1)
    ] refl

all_kept : (key : ℕ) (pairs : List Pair) → EachKey (λ k. key < k) pairs → length (without key pairs) ≡ length pairs
all_kept key [] h = refl
all_kept key (x ∷ xs) h =
    ap (λ (b : Bool). length (cond (not b) (x ∷ without key xs) (without key xs))) (ne_eqb x.0 key (λ e. let lt = h.0 in omega arith))
    ∙ ap (λ (n : ℕ). suc n) (all_kept key xs h.1)

one_less : (key : ℕ) (pairs : List Pair) → KeysRise pairs → length pairs ≤ suc (length (without key pairs))
one_less key [] rise = omega arith
one_less key (x ∷ xs) rise =
    elim (x.0 == key) as (λ (b : Bool). (x.0 == key) ≡ b → suc (length xs) ≤ suc (length (cond (not b) (x ∷ without key xs) (without key xs)))) [
      | true ↦ λ t. let all = all_kept key xs (later t) in omega arith
      | false ↦ λ t. let rest = one_less key xs (sorted_tail nat_cmp x.0 (keys_of xs) rise) in omega arith
    ] refl
  where
    later : (x.0 == key) ≡ true → EachKey (λ k. key < k) xs
    later t = let same = eqb-true x.0 key t in each_weaker (λ k. x.0 < k) (λ k. key < k) (λ k lt. omega arith) xs (rise_first x xs rise)

-- ---- rows whose keys have a value

abbrev HasValue : History → ℕ → ℕ → Type 0
HasValue h s k = value h k s ≢ None

each_some : (Q : ℕ → Type 0) (pairs : List Pair) → ((k : ℕ) → value_at pairs k ≢ None → Q k) → EachKey Q pairs
each_some Q [] f = tt
each_some Q (x ∷ xs) f = (
  f x.0 (λ none. let some : Some x.1 ≡ None = sym (value_at-here x xs) ∙ none in cc some),
  each_some Q xs (λ k some. f k (λ none. some (none_behind k none))),
)
  where
    none_behind : (k : ℕ) → value_at (x ∷ xs) k ≡ None → value_at xs k ≡ None
    none_behind k = elim (k == x.0) as (λ (b : Bool). cond b (Some x.1) (value_at xs k) ≡ None → value_at xs k ≡ None) [
      | true ↦ λ e. cc e
      | false ↦ λ e. e
    ]

few : (h : History) (s : ℕ) (rows : List Pair) → KeysRise rows → EachKey (HasValue h s) rows → length rows ≤ s
few h zero [] rise has = omega arith
few h zero (x ∷ xs) rise has = absurd (has.0 refl)
few h (suc t) rows rise has = by (slot_at h t) refl (few h t) where
  by : (slot : Slot) → slot_at h t ≡ slot → ((rest : List Pair) → KeysRise rest → EachKey (HasValue h t) rest → length rest ≤ t) → length rows ≤ suc t
  by Nothing is before =
      let le = before rows rise (each_weaker (HasValue h (suc t)) (HasValue h t)
      (λ k some none. some (ap (λ (a : Slot). left_by (or_else (write_of k t a) (newest h k t))) is ∙ none)) rows has) in omega arith
  by (Wrote seat key written) is before =
      let le = before (without key rows) (rise_without key rows rise) (each_without key (HasValue h (suc t)) (HasValue h t)
      (λ k other some none. some (ap (λ (a : Slot). left_by (or_else (write_of k t a) (newest h k t))) is
      ∙ ap (λ (b : Bool). left_by (or_else (cond b (Some (record { time = t; value = written })) None) (newest h k t))) (ne_eqb key k other) ∙ none))
      rows has) in
      let one = one_less key rows rise in omega arith

pub few_rows : (h : History) (s lo hi : ℕ) (rows : List Pair) → IsRange h s lo hi rows → length rows ≤ s
few_rows h s lo hi rows range = few h s rows range.rise (each_some (HasValue h s) rows (λ k some none. elim (cases_lt k lo) [
  | inl low ↦ some (range.below k low)
  | inr from ↦ elim (cases_lt hi k) [
    | inl high ↦ some (range.above k high)
    | inr until ↦ some (range.inside k from until ∙ none)
  ]
]))

-- ---- a count of keys

pub range_counted : (h : History) (s lo hi n : ℕ) (first : Option ℕ) → (is : IsCount (λ key. value h key s) lo hi n first) → IsRange h s lo hi is.rows
range_counted h s lo hi n first is =
    let all = is.all.0 in record { rise = all.rise; inside = all.inside; below = all.below; above = all.above }

abbrev pub key_count : (h : History) (s lo hi n : ℕ) (first : Option ℕ) → s ≤ 18446744073709551615 → IsCount (λ key. value h key s) lo hi n first
    → IsKeyCount h s lo hi n
key_count h s lo hi n first small is =
    let range = range_counted h s lo hi n first is in
    record {
      rows = is.rows;
      all = range;
      counted = let le = few_rows h s lo hi is.rows range in let counted = is.counted in omega arith;
    }

-- a page of no rows has the first of them
pub empty_page : (h : History) (s lo hi n : ℕ) (first : Option ℕ) → IsCount (λ key. value h key s) lo hi n first → Reads h s (page_deed lo hi 0 [] first)
empty_page h s lo hi n first is = (is.rows, range_counted h s lo hi n first is, record { front = refl; next = is.begins })
