-- A range is told by its history: pairs that rise and have the same values are the same.
use Rattle.std.proofs.Common.{◌≡◌, ◌≢◌, ℕ, ◌<◌, ◌≤◌, List, [], ◌∷◌, Some, None, refl, sym, ap, ◌∙◌, ⊎_elim, arith}
use Rattle.std.proofs.lemmas.Bool.{cases_eq, cases_lt}
use Rattle.std.proofs.lemmas.Map.Keys.{sorted_tail}
use Rattle.std.specs.Map.{keys_of}
use Rattle.std.specs.Ordering.{nat_cmp}
use Rattle.clsm_model.specs.History.{History}
use Rattle.clsm_model.specs.Map.{IsRange, KeysRise, Pair, value_at}
use Rattle.clsm_model.proofs.Pages.{EachKey, rise_first, value_at-behind, value_at-here}

-- a key that is not above m has no value among keys above m
none_above : (m k : ℕ) (pairs : List Pair) → k ≤ m → EachKey (λ q. m < q) pairs → value_at pairs k ≡ None
none_above m k [] le above = refl
none_above m k (x ∷ xs) le above = let lt = above.0 in value_at-behind x xs k (λ e. omega arith) ∙ none_above m k xs le above.1

-- a key below the first has no value
none_before : (x : Pair) (xs : List Pair) (k : ℕ) → KeysRise (x ∷ xs) → k < x.0 → value_at (x ∷ xs) k ≡ None
none_before x xs k rise lt = value_at-behind x xs k (λ e. omega arith) ∙ none_above x.0 k xs (omega arith) (rise_first x xs rise)

-- the first of some rising pairs is not below the first of others with the same values
first_not_below : {Q : Type 0} (x y : Pair) (xs ys : List Pair) → KeysRise (y ∷ ys) → value_at (x ∷ xs) x.0 ≡ value_at (y ∷ ys) x.0 → x.0 < y.0 → Q
first_not_below x y xs ys rise same lt = let clash : Some x.1 ≡ None = sym (value_at-here x xs) ∙ same ∙ none_before y ys x.0 rise lt in cc clash

-- behind first pairs with one key the values are the same too
same_behind : (x y : Pair) (xs ys : List Pair) → KeysRise (x ∷ xs) → KeysRise (y ∷ ys) → ((k : ℕ) → value_at (x ∷ xs) k ≡ value_at (y ∷ ys) k) → x.0 ≡ y.0
    → (k : ℕ) → value_at xs k ≡ value_at ys k
same_behind x y xs ys rise rise' same e k =
    ⊎_elim
    (λ (here : k ≡ x.0). none_above x.0 k xs (omega arith) (rise_first x xs rise) ∙ sym (none_above y.0 k ys (omega arith) (rise_first y ys rise')))
    (λ (ne : k ≢ x.0). sym (value_at-behind x xs k ne) ∙ same k ∙ value_at-behind y ys k (λ h. ne (h ∙ sym e)))
    (cases_eq k x.0)

same_words : (x y : Pair) (xs ys : List Pair) → value_at (x ∷ xs) x.0 ≡ value_at (y ∷ ys) x.0 → x.0 ≡ y.0 → x.1 ≡ y.1
same_words x y xs ys same e = let one : Some x.1 ≡ Some y.1 = sym (value_at-here x xs) ∙ same ∙ ap (value_at (y ∷ ys)) e ∙ value_at-here y ys in cc one

same_pairs_with : (x y : Pair) (xs ys : List Pair) → x.0 ≡ y.0 → x.1 ≡ y.1 → xs ≡ ys → x ∷ xs ≡ y ∷ ys
same_pairs_with x y xs ys e f g = λ i. (e i, f i) ∷ g i

pub same_pairs : (xs ys : List Pair) → KeysRise xs → KeysRise ys → ((k : ℕ) → value_at xs k ≡ value_at ys k) → xs ≡ ys
same_pairs [] [] rise rise' same = refl
same_pairs [] (y ∷ ys) rise rise' same = let clash : Some y.1 ≡ None = sym (same y.0 ∙ value_at-here y ys) in cc clash
same_pairs (x ∷ xs) [] rise rise' same = let clash : Some x.1 ≡ None = sym (value_at-here x xs) ∙ same x.0 in cc clash
same_pairs (x ∷ xs) (y ∷ ys) rise rise' same =
    ⊎_elim
    (λ (lt : x.0 < y.0). first_not_below x y xs ys rise' (same x.0) lt)
    (λ (le : y.0 ≤ x.0). ⊎_elim
    (λ (lt : y.0 < x.0). first_not_below y x ys xs rise (sym (same y.0)) lt)
    (λ (ge : x.0 ≤ y.0).
    let e : x.0 ≡ y.0 = omega arith in
    let rest = same_pairs xs ys (sorted_tail nat_cmp x.0 (keys_of xs) rise) (sorted_tail nat_cmp y.0 (keys_of ys) rise')
    (same_behind x y xs ys rise rise' same e) in
    same_pairs_with x y xs ys e (same_words x y xs ys (same x.0) e) rest)
    (cases_lt y.0 x.0))
    (cases_lt x.0 y.0)

pub same_range : (h : History) (s lo hi : ℕ) (xs ys : List Pair) → IsRange h s lo hi xs → IsRange h s lo hi ys → xs ≡ ys
same_range h s lo hi xs ys range range' = same_pairs xs ys range.rise range'.rise (λ k.
    ⊎_elim
    (λ (lt : k < lo). range.below k lt ∙ sym (range'.below k lt))
    (λ (from : lo ≤ k). ⊎_elim
    (λ (lt : hi < k). range.above k lt ∙ sym (range'.above k lt))
    (λ (until : k ≤ hi). range.inside k from until ∙ sym (range'.inside k from until))
    (cases_lt hi k))
    (cases_lt k lo))
