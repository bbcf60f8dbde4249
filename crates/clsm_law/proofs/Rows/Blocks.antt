-- Blocks one behind the other: a place in the row is one place in one block.
use Rattle.std.proofs.Common.{◌≡◌, ℕ, ◌+◌, ◌<◌, ◌≤◌, List, length, get_or, take, sum, arith, inl, inr, refl}
use Rattle.std.proofs.lemmas.Bool.{cases_order}
use Rattle.std.proofs.lemmas.List.{get_or-take, length-take-le, take-take}
use Rattle.std.proofs.lemmas.List.Sums.{sum_by_more_le}

-- a block ends before any later one begins
block_ends : (lengths : List ℕ) (j k : ℕ) → j < k → k ≤ length lengths → sum (take j lengths) + get_or lengths j 0 ≤ sum (take k lengths)
block_ends lengths j k before within =
    let inside : j < length (take k lengths) = omega (arith, length-take-le k lengths within) in
    let e = sum_by_more_le (λ x. x) (take k lengths) j 0 inside in
    rw (← take-take j k lengths (omega arith), ← get_or-take k lengths j 0 before) e

-- a place in a block is in the row
pub block_inside : (lengths : List ℕ) (k x : ℕ) → k < length lengths → x < get_or lengths k 0 → sum (take k lengths) + x < sum lengths
block_inside lengths k x within lt = let e = sum_by_more_le (λ x. x) lengths k 0 within in omega arith

-- one place in the row is in one block
pub same_block : (lengths : List ℕ) (j k x y : ℕ) → j < length lengths → k < length lengths → x < get_or lengths j 0 → y < get_or lengths k 0
    → sum (take j lengths) + x ≡ sum (take k lengths) + y → (j ≡ k) × (x ≡ y)
same_block lengths j k x y p q a b e =
    elim (cases_order j k) [
      | inl same ↦ (same, let f : sum (take j lengths) ≡ sum (take k lengths) = rw same refl in omega arith)
      | inr (inl less) ↦ let f = block_ends lengths j k less (omega arith) in absurd (omega arith)
      | inr (inr more) ↦ let f = block_ends lengths k j more (omega arith) in absurd (omega arith)
    ]
