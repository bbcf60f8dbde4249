-- A stable sort by key merges entries.
use Rattle.std.proofs.Common.{◌≡◌, ℕ, ◌<◌, ◌≤◌, ◌==◌, suc, Bool, true, false, cond, List, [], ◌∷◌, length, get_or, None, refl, sym, ap, ◌∙◌, arith, ⊎_elim}
use Rattle.std.proofs.lemmas.Bool.Decides.{nat_tests}
use Rattle.std.proofs.lemmas.Bool.{eq-eqb, cases_lt}
use Rattle.std.proofs.lemmas.List.Elements.{filter_agree}
use Rattle.std.specs.List.{AllByRecursion}
use Rattle.std.specs.List.Sorted.{IsNonDecreasingBy, IsStableByKey, ties}
use Rattle.std.specs.Ordering.{nat_cmp, is_lt}
use Rattle.clsm_levels.specs.declared.entry.Entry.{Entry}
use Rattle.clsm_levels.specs.Entry.{of_key}
use Rattle.clsm_levels.specs.Merge.{merged}
use Rattle.clsm_levels.specs.Pass.{RisesByKey}
use Rattle.clsm_levels.proofs.Every.{every_weaker}
use Rattle.clsm_levels.proofs.Searches.{SameByKey}
use Rattle.clsm_levels.proofs.Merges.{keys_rise-merged, of_key-merged}

pub every_at : (P : Entry → Type 0) (es : List Entry) → ((j : ℕ) (d : Entry) → j < length es → P (get_or es j d)) → AllByRecursion P es
every_at P [] h = tt
every_at P (e ∷ es) h = (h 0 e (omega arith), every_at P es (λ j d lt. h (suc j) d (omega arith)))

keys_rise-sorted : (es : List Entry) → IsNonDecreasingBy (λ e. e.key) es → RisesByKey es
keys_rise-sorted [] h = tt
keys_rise-sorted (e ∷ es) h = (
  every_at (λ x. e.key ≤ x.key) es (λ j d lt. h 0 (suc j) d (omega arith) (omega arith)),
  keys_rise-sorted es (λ i j d le lt. h (suc i) (suc j) d (omega arith) (omega arith)),
)

-- entries tie exactly where their keys are equal
ties_by_key : (k : ℕ) (e : Entry) → ties (λ (x y : Entry). is_lt (nat_cmp x.key y.key)) (record { key = k; time = 0; value = None }) e ≡ (e.key == k)
ties_by_key k e = grind (arith, nat_tests)

of_key-stable : (xs ys : List Entry) → IsStableByKey (λ e. e.key) nat_cmp xs ys → SameByKey ys xs
of_key-stable xs ys stable k =
    let lt : Entry → Entry → Bool = λ x y. is_lt (nat_cmp x.key y.key) in
    let x : Entry = record { key = k; time = 0; value = None } in
    filter_agree (λ (e : Entry). e.key == k) (ties lt x) (λ e. sym (ties_by_key k e)) ys ∙ stable x
    ∙ filter_agree (ties lt x) (λ (e : Entry). e.key == k) (ties_by_key k) xs

none_of_key : (k : ℕ) (es : List Entry) → AllByRecursion (λ e. k < e.key) es → of_key k es ≡ []
none_of_key k [] h = refl
none_of_key k (e ∷ es) h = let lt : k < e.key = h.0 in let r = none_of_key k es h.1 in grind (arith, nat_tests)

of_key_here : (e : Entry) (es : List Entry) → of_key e.key (e ∷ es) ≡ e ∷ of_key e.key es
of_key_here e es = ap (λ (b : Bool). cond b (e ∷ of_key e.key es) (of_key e.key es)) (eq-eqb e.key e.key refl)

-- the first key of one is not below that of the other
first_key : (x y : Entry) (xs ys : List Entry) → RisesByKey (y ∷ ys) → SameByKey (x ∷ xs) (y ∷ ys) → y.key ≤ x.key
first_key x y xs ys rise same = ⊎_elim
    (λ (lt : x.key < y.key).
    let none : of_key x.key (y ∷ ys) ≡ [] = none_of_key x.key (y ∷ ys)
    (lt, every_weaker (λ e. y.key ≤ e.key) (λ e. x.key < e.key) (λ e l. omega arith) ys rise.0) in
    let clash : x ∷ of_key x.key xs ≡ [] = sym (of_key_here x xs) ∙ same x.key ∙ none in
    absurd (cc clash))
    (λ (ge : y.key ≤ x.key). ge)
    (cases_lt x.key y.key)

-- two lists by rising key with the same entries of each key in the same order are equal
pub same_by_key_equal : (xs ys : List Entry) → RisesByKey xs → RisesByKey ys → SameByKey xs ys → xs ≡ ys
same_by_key_equal [] [] r q same = refl
same_by_key_equal [] (y ∷ ys) r q same = let clash : [] ≡ y ∷ of_key y.key ys = same y.key ∙ of_key_here y ys in absurd (cc clash)
same_by_key_equal (x ∷ xs) [] r q same = let clash : x ∷ of_key x.key xs ≡ [] = sym (of_key_here x xs) ∙ same x.key in absurd (cc clash)
same_by_key_equal (x ∷ xs) (y ∷ ys) r q same =
    let up : y.key ≤ x.key = first_key x y xs ys q same in
    let down : x.key ≤ y.key = first_key y x ys xs r (λ k. sym (same k)) in
    let key : y.key ≡ x.key = omega arith in
    let both : x ∷ of_key x.key xs ≡ y ∷ of_key x.key ys = sym (of_key_here x xs) ∙ same x.key
    ∙ ap (λ (b : Bool). cond b (y ∷ of_key x.key ys) (of_key x.key ys)) (eq-eqb y.key x.key key) in
    let first : x ≡ y = cc both in
    let rest : xs ≡ ys = same_by_key_equal xs ys r.1 q.1 (λ k. behind x y xs ys k first (same k)) in
    cc (first, rest) where
      behind : (x y : Entry) (xs ys : List Entry) (k : ℕ) → x ≡ y → of_key k (x ∷ xs) ≡ of_key k (y ∷ ys) → of_key k xs ≡ of_key k ys
      behind x y xs ys k is same =
          let at_x : of_key k (x ∷ xs) ≡ of_key k (x ∷ ys) = same ∙ ap (λ (e : Entry). of_key k (e ∷ ys)) (sym is) in
          elim (x.key == k) as (λ (b : Bool). cond b (x ∷ of_key k xs) (of_key k xs) ≡ cond b (x ∷ of_key k ys) (of_key k ys)
          → of_key k xs ≡ of_key k ys) [ true ↦ λ s. cc s | false ↦ λ s. s ] at_x

-- what a stable sort by key makes
pub sorted_merged : (xs ys : List Entry) → IsNonDecreasingBy (λ e. e.key) ys → IsStableByKey (λ e. e.key) nat_cmp xs ys → ys ≡ merged xs
sorted_merged xs ys sorted stable = same_by_key_equal ys (merged xs) (keys_rise-sorted ys sorted) (keys_rise-merged xs)
    (λ k. of_key-stable xs ys stable k ∙ sym (of_key-merged xs k))
