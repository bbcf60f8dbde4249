-- To mask with one less than a power of two is to take the rest.
use Rattle.std.proofs.Common.{◌≡◌, ℕ, ◌-◌, ◌^◌, ◌%◌, ap, ◌∙◌, sym, bit_and}
use Rattle.std.proofs.lemmas.Nat.{and_mask}

pub masked : (number by bits : ℕ) → by ≡ 2 ^ bits → bit_and number (by - 1) ≡ number % by
masked number by bits is = ap (λ (n : ℕ). bit_and number (n - 1)) is ∙ and_mask number bits ∙ ap (λ (n : ℕ). number % n) (sym is)
