-- As many keys as there are places for their values, of lists of each.
use Rattle.std.proofs.Common.{◌≡◌, ◌∙◌, ℕ, ◌<◌, ◌≤◌, min, inl, inr, List, [], ◌++◌, ap, append-nil, arith, drop, length, map, subst, sym, take}
use Rattle.std.specs.List.{take-map}
use Rattle.std.proofs.lemmas.Bool.{cases_lt}
use Rattle.std.proofs.lemmas.List.{drop_all, length-take-le, take_all, take_at}

cut_same : {A : Type 0} (xs : List A) (n count : ℕ) → count ≡ min (length xs) n → take count xs ≡ take n xs
cut_same xs n count is = elim (cases_lt (length xs) n) [
  | inl lt ↦ take_all count xs (omega arith) ∙ sym (take_all n xs (omega arith))
  | inr le ↦ let at : count ≡ n = omega arith in ap (λ (m : ℕ). take m xs) at
]

module _ {K V : Type 0} (f : K → ℕ) (keys : List K) (before : List V) (count : ℕ) (is : count ≡ min (length keys) (length before)) where
  keys_cut : map f (take count keys) ≡ take (length before) (map f keys)
  keys_cut = ap (map f) (cut_same keys (length before) count is) ∙ sym (take-map f (length before) keys)

  places_cut : take count before ≡ take (length keys) before
  places_cut = cut_same before (length keys) count (omega arith)

  module _ (new : List V) (same : length new ≡ length (take count before)) where
    long : length new ≡ count
    long = same ∙ length-take-le count before (omega arith)

    front : take (length keys) (new ++ drop count before) ≡ new
    front = elim (cases_lt (length keys) (length before)) [
      | inl lt ↦ take_at new (drop count before) (length keys) (long ∙ (omega arith))
      | inr le ↦ let full = long in ap (λ (behind : List V). take (length keys) (new ++ behind)) (drop_all count before (omega arith))
          ∙ ap (take (length keys)) (append-nil new) ∙ take_all (length keys) new (omega arith)
    ]

    -- what is so of the keys that are passed on, and of their places before and after, is so of all
    pub so_of_all : (Is : List ℕ → List V → List V → Type 0) → Is (map f (take count keys)) (take count before) new
        → Is (take (length before) (map f keys)) (take (length keys) before) (take (length keys) (new ++ drop count before))
    so_of_all Is so =
        subst (Is (take (length before) (map f keys)) (take (length keys) before)) (sym front)
        (subst (λ (places : List V). Is (take (length before) (map f keys)) places new) places_cut
        (subst (λ (asked : List ℕ). Is asked (take count before) new) keys_cut so))
