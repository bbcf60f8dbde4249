-- Cases on a test, and on numbers.
use Rattle.std.proofs.Common.{◌≡◌, ◌≢◌, ℕ, zero, suc, ◌<◌, ◌==◌, arith, Bool, true, false, sym, subst, refl, eq-eqb, ne_eqb}
use mathlib.Core.Logic.{dite}
use native.Mathlib.Decide.{ℕ_discrete}

pub by_test : (P : Bool → Type 0) (a b : ℕ) → (a ≡ b → P true) → (a ≢ b → P false) → P (a == b)
by_test P a b hit miss = dite (ℕ_discrete a b) (λ e. subst P (sym (eq-eqb a b e)) (hit e)) (λ ne. subst P (sym (ne_eqb a b ne)) (miss ne))

-- cases on any test
pub by_bool : (P : Bool → Type 0) (b : Bool) → (b ≡ true → P true) → (b ≡ false → P false) → P b
by_bool P true hit miss = hit refl
by_bool P false hit miss = miss refl

-- ---- a fact of each number below n, one by one

abbrev pub OneByOne : (ℕ → Type 0) → ℕ → Type 0
OneByOne P zero = Unit {0}
OneByOne P (suc n) = P 0 × OneByOne (λ k. P (suc k)) n

pub below : (P : ℕ → Type 0) (n : ℕ) → OneByOne P n → (j : ℕ) → j < n → P j
below P zero all j lt = absurd (omega arith)
below P (suc n) all zero lt = all.0
below P (suc n) all (suc j) lt = below (λ k. P (suc k)) n all.1 j (omega arith)
