-- What a test tells, and tests that pass on a range.
use Rattle.std.proofs.Common.{◌≡◌, ℕ, ◌+◌, ◌<◌, ◌≤◌, ◌↔◌, Bool, true, false, sym, refl, ◌∙◌}
use Rattle.std.specs.Bool.{IsTrue}
use Rattle.std.proofs.lemmas.Bool.{true≢false}
use Rattle.clsm_law.specs.Worlds.{passes_from}
use Rattle.clsm_law.proofs.Cases.{by_bool}
use Rattle.clsm_law.proofs.Passes.{passes_at}

-- a test that fails at a number of a range does not pass on the range
pub fails_at : (test : ℕ → Bool) (a n k : ℕ) → a ≤ k → k < a + n → test k ≡ false → passes_from test a n ≡ false
fails_at test a n k le lt fails = by_bool (λ b. passes_from test a n ≡ b → b ≡ false) (passes_from test a n)
    (λ e _. absurd (true≢false (sym (passes_at test a n k e le lt) ∙ fails))) (λ _ _. refl) refl

-- an answer for what holds, and one for what does not
pub yes : {P : Type 0} → P → IsTrue true ↔ P
yes p = (λ _. p, λ _. refl)

pub no : {P : Type 0} → (P → ⊥) → IsTrue false ↔ P
no f = (λ e. absurd (true≢false (sym e)), λ p. absurd (f p))
