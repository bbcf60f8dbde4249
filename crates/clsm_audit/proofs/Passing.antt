-- How many records pass two filters, and where they stand.
use Rattle.std.proofs.Common.{◌≡◌, ℕ, ◌<◌, ◌≤◌, zero, suc, Bool, true, false, cond, List, [], ◌∷◌, length, filter, get_or, refl, ap, subst, arith}
use Rattle.clsm_model.specs.declared.record.CallRecord.{CallRecord}
use Rattle.clsm_audit.proofs.Indices.{nobody}
use Rattle.clsm_audit.proofs.OneHistory.{keep}

-- ---- how many

-- those of one record more are no fewer
no_fewer : (p q : CallRecord → Bool) (x : CallRecord) (xs : List CallRecord) → length (filter q (filter p xs)) ≤ length (filter q (filter p (x ∷ xs)))
no_fewer p q x xs = elim (p x) as (λ (b : Bool). length (filter q (filter p xs)) ≤ length (filter q (cond b (x ∷ filter p xs) (filter p xs)))) [
  | true ↦ elim (q x) as (λ (b : Bool). length (filter q (filter p xs)) ≤ length (cond b (x ∷ filter q (filter p xs)) (filter q (filter p xs)))) [
    | true ↦
        omega arith
    | false ↦ omega arith
  ]
  | false ↦ omega arith
]

one_in : (p q : CallRecord → Bool) (xs : List CallRecord) (i : ℕ) → i < length xs → p (get_or xs i nobody) ≡ true → q (get_or xs i nobody) ≡ true
    → 1 ≤ length (filter q (filter p xs))
one_in p q [] i within e f = absurd (omega arith)
one_in p q (x ∷ xs) zero within e f = let kept = ap length (keep p q x xs e f) in omega arith
one_in p q (x ∷ xs) (suc i) within e f = let rest = one_in p q xs i (omega arith) e f in let more = no_fewer p q x xs in omega arith

-- two records that pass are two that are left
pub two_in : (p q : CallRecord → Bool) (xs : List CallRecord) (j i : ℕ) → j < i → i < length xs → p (get_or xs j nobody) ≡ true → q (get_or xs j nobody)
    ≡ true → p (get_or xs i nobody) ≡ true → q (get_or xs i nobody) ≡ true → 2 ≤ length (filter q (filter p xs))
two_in p q [] j i lt within e f e' f' = absurd (omega arith)
two_in p q (x ∷ xs) j zero lt within e f e' f' = absurd (omega arith)
two_in p q (x ∷ xs) zero (suc i) lt within e f e' f' =
    let kept = ap length (keep p q x xs e f) in
    let rest = one_in p q xs i (omega arith) e' f' in
    omega arith
two_in p q (x ∷ xs) (suc j) (suc i) lt within e f e' f' =
    let rest = two_in p q xs j i (omega arith) (omega arith) e f e' f' in
    let more = no_fewer p q x xs in
    omega arith

-- ---- where

-- the record stands in the list, and passes
pub record IsFoundIn (p q : CallRecord → Bool) (xs : List CallRecord) (r : CallRecord) : Type 0 where
  pub index : ℕ
  pub within : index < length xs
  pub is : get_or xs index nobody ≡ r
  pub first : p r ≡ true
  pub second : q r ≡ true

found_later : (p q : CallRecord → Bool) (x : CallRecord) (xs : List CallRecord) (r : CallRecord) → IsFoundIn p q xs r → IsFoundIn p q (x ∷ xs) r
found_later p q x xs r found = record {
  index = suc found.index;
  within = let lt = found.within in omega arith;
  is = found.is;
  first = found.first;
  second = found.second;
}

found_here : (p q : CallRecord → Bool) (x : CallRecord) (xs : List CallRecord) (r : CallRecord) → x ≡ r → p x ≡ true → q x ≡ true → IsFoundIn p q (x ∷ xs) r
found_here p q x xs r same e f = record {
  index = zero;
  within = omega arith;
  is = same;
  first = subst (λ (y : CallRecord). p y ≡ true) same e;
  second = subst (λ (y : CallRecord). q y ≡ true) same f;
}

-- the first one that is left
pub found_in : (p q : CallRecord → Bool) (xs : List CallRecord) (r : CallRecord) (rest : List CallRecord) → filter q (filter p xs) ≡ r ∷ rest
    → IsFoundIn p q xs r
found_in p q [] r rest left = absurd cc
found_in p q (x ∷ xs) r rest left =
    elim (p x) as (λ (b : Bool). p x ≡ b → filter q (cond b (x ∷ filter p xs) (filter p xs)) ≡ r ∷ rest → IsFoundIn p q (x ∷ xs) r) [
      | true ↦ λ e. elim (q x) as (λ (b : Bool). q x ≡ b → cond b (x ∷ filter q (filter p xs)) (filter q (filter p xs)) ≡ r ∷ rest → IsFoundIn p q (x ∷ xs) r) [
        | true ↦ λ f is. found_here p q x xs r (let same : x ≡ r = cc is in same) e f
        | false ↦ λ f is. found_later p q x xs r (found_in p q xs r rest is)
      ] refl
      | false ↦ λ e is. found_later p q x xs r (found_in p q xs r rest is)
    ] refl left
