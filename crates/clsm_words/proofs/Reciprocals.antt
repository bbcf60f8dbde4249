-- A division by a number as a multiplication by its reciprocal: R is W / by, rounded down, or one
-- less.
use Rattle.std.proofs.Common.{◌≡◌, ℕ, suc, ◌+◌, ◌-◌, ◌*◌, ◌/◌, ◌%◌, ◌<◌, ◌≤◌, sym, ap, ◌∙◌, subst, arith}
use Rattle.std.proofs.lemmas.Nat.{mod-mul-add}
use Rattle.std.proofs.Math.Nat.{div-mul-le_self, lt-div-mul-add, mul-le-mul_left, mul-le-mul_right}
use Rattle.std.proofs.Math.Nat.{le_of_mul-le-mul_right, lt_of_mul-lt-mul_left}

-- the quotient that it guesses is not too great
pub guess_fits : (n by R W : ℕ) → 0 < W → R * by ≤ W → (n * R) / W * by ≤ n
guess_fits n by R W pos le =
    let q = (n * R) / W in
    let a : q * W * by ≤ n * R * by = mul-le-mul_right by (div-mul-le_self (n * R) W) in
    let b : n * (R * by) ≤ n * W = mul-le-mul_left n le in
    let c : q * by * W ≤ n * W = omega (a, b, arith) in
    le_of_mul-le-mul_right c pos

-- and at most one too small
pub guess_near : (n by R W : ℕ) → 0 < W → 0 < by → n < W → W ≤ R * by + by → n < (n * R) / W * by + 2 * by
guess_near n by R W pos some small le =
    let q = (n * R) / W in
    let a : n * W ≤ n * (R * by + by) = mul-le-mul_left n le in
    let b : (suc (n * R)) * by ≤ (q * W + W) * by = mul-le-mul_right by (lt-div-mul-add pos) in
    let c : (suc n) * by ≤ W * by = mul-le-mul_right by small in
    let d : W * n < W * (q * by + 2 * by) = omega (a, b, c, some, arith) in
    lt_of_mul-lt-mul_left W d

-- what is left below the number is the rest
rest_of : (n by q r : ℕ) → n ≡ q * by + r → r < by → r ≡ n % by
rest_of n by q r is lt = sym (ap (λ (m : ℕ). m % by) is ∙ mod-mul-add q by r lt)

-- so where the quotient is not too great, and what it leaves is below the number
pub rest_left : (n b by q : ℕ) → b ≡ by → q * by ≤ n → n - q * b < b → n - q * b ≡ n % by
rest_left n b by q same fits lt = let le = subst (λ (d : ℕ). q * d ≤ n) (sym same) fits in
    subst (λ (d : ℕ). n - q * b ≡ n % d) same (rest_of n b q (n - q * b) (omega (le, arith)) lt)

-- and where it is one too small
pub rest_again : (n b by q : ℕ) → b ≡ by → q * by ≤ n → n < q * by + 2 * by → b ≤ n - q * b → n - q * b - b ≡ n % by
rest_again n b by q same fits near more =
    let le = subst (λ (d : ℕ). q * d ≤ n) (sym same) fits in
    let lt = subst (λ (d : ℕ). n < q * d + 2 * d) (sym same) near in
    subst (λ (d : ℕ). n - q * b - b ≡ n % d) same
    (rest_of n b (q + 1) (n - q * b - b) (omega (le, more, arith)) (omega (le, lt, more, arith)))
