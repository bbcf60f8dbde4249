-- The test that a time is strictly inside no batch.
use Rattle.std.proofs.Common.{◌≡◌, ℕ, ◌-◌, ◌||◌, true, false, Bool, List, [], ◌∷◌, ap, ⊎_elim, inl, inr, arith, refl}
use Rattle.std.specs.Prelude.{nat_le}
use Rattle.std.proofs.lemmas.Bool.{and_parts, and_from, or_cases, leb-true, le-leb, cases_lt}
use Rattle.clsm_model.specs.declared.batch.Batch.{Batch}
use Rattle.clsm_model.specs.History.{IsInside, IsUncut}
use Rattle.clsm_machine_caller.specs.Settling.{is_outside, are_outside}

or_left : (a b : Bool) → a ≡ true → (a || b) ≡ true
or_left a b e = ap (λ k. k || b) e

or_right : (a b : Bool) → b ≡ true → (a || b) ≡ true
or_right true b e = refl
or_right false b e = e

outside_one : (s : ℕ) (b : Batch) → is_outside s b ≡ true → ¬ IsInside s b
outside_one s b e i = let low = i.0 in let high = i.1 in ⊎_elim
    (λ (a : nat_le s b.first ≡ true). let le = leb-true s b.first a in absurd (omega arith))
    (λ (a : nat_le b.size (s - b.first) ≡ true). let le = leb-true b.size (s - b.first) a in absurd (omega arith))
    (or_cases (nat_le s b.first) (nat_le b.size (s - b.first)) e)

one_outside : (s : ℕ) (b : Batch) → ¬ IsInside s b → is_outside s b ≡ true
one_outside s b not_in = elim (cases_lt b.first s) [
  | inl low ↦ elim (cases_lt (s - b.first) b.size) [
    | inl high ↦ absurd (not_in (low, omega arith))
    | inr le ↦ or_right (nat_le s b.first) (nat_le b.size (s - b.first)) (le-leb b.size (s - b.first) le)
  ]
  | inr le ↦ or_left (nat_le s b.first) (nat_le b.size (s - b.first)) (le-leb s b.first le)
]

pub outside_all : (bs : List Batch) (s : ℕ) → are_outside bs s ≡ true → IsUncut bs s
outside_all [] s e = tt
outside_all (b ∷ bs) s e = let both = and_parts (is_outside s b) (are_outside bs s) e in (outside_one s b both.0, outside_all bs s both.1)

pub all_outside : (bs : List Batch) (s : ℕ) → IsUncut bs s → are_outside bs s ≡ true
all_outside [] s h = refl
all_outside (b ∷ bs) s h = and_from (is_outside s b) (are_outside bs s) (one_outside s b h.0) (all_outside bs s h.1)
