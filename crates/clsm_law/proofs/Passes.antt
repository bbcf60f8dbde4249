-- A test that passes on a range passes at each of its numbers, and the other way.
use Rattle.std.proofs.Common.{◌≡◌, ℕ, zero, suc, ◌+◌, ◌<◌, ◌≤◌, Bool, true, sym, refl, subst, arith}
use mathlib.Core.Logic.{dite}
use native.Mathlib.Decide.{ℕ_discrete}
use Rattle.std.proofs.lemmas.Bool.{and_parts, and_from}
use Rattle.clsm_law.specs.Worlds.{passes_from}

pub passes_at : (test : ℕ → Bool) (a n k : ℕ) → passes_from test a n ≡ true → a ≤ k → k < a + n → test k ≡ true
passes_at test a zero k e le lt = absurd (omega arith)
passes_at test a (suc n) k e le lt = let p = and_parts (test a) (passes_from test (a + 1) n) e in
    dite (ℕ_discrete k a) (λ same. subst (λ (y : ℕ). test y ≡ true) (sym same) p.0) (λ ne. passes_at test (a + 1) n k p.1 (omega arith) (omega arith))

pub passes_if : (test : ℕ → Bool) (a n : ℕ) → ((k : ℕ) → a ≤ k → k < a + n → test k ≡ true) → passes_from test a n ≡ true
passes_if test a zero h = refl
passes_if test a (suc n) h = and_from (test a) (passes_from test (a + 1) n) (h a (omega arith) (omega arith))
    (passes_if test (a + 1) n (λ k le lt. h k (omega arith) (omega arith)))
