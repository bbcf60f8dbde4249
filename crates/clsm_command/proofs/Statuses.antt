-- The exit statuses of the commands.
use Rattle.std.proofs.Common.{◌≢◌, ◌≤◌, ℕ, [], ◌∷◌, arith}
use Rattle.std.proofs.lemmas.List.Elements.{All-cons, All-contains, All-nil}
use Rattle.std.specs.Prelude.{Contains}

-- none is above 3
pub at_most : (status : ℕ) → Contains (0 ∷ 1 ∷ 2 ∷ 3 ∷ []) status → status ≤ 3
at_most status known = All-contains (λ n. n ≤ 3) (0 ∷ 1 ∷ 2 ∷ 3 ∷ []) status
    (All-cons (λ n. n ≤ 3) 0 (1 ∷ 2 ∷ 3 ∷ []) (omega arith)
    (All-cons (λ n. n ≤ 3) 1 (2 ∷ 3 ∷ []) (omega arith)
    (All-cons (λ n. n ≤ 3) 2 (3 ∷ []) (omega arith)
    (All-cons (λ n. n ≤ 3) 3 [] (omega arith) (All-nil (λ n. n ≤ 3)))))) known

-- a script's is no fault
pub script_most : (status : ℕ) → Contains (0 ∷ 1 ∷ 3 ∷ []) status → status ≤ 3
script_most status known = All-contains (λ n. n ≤ 3) (0 ∷ 1 ∷ 3 ∷ []) status
    (All-cons (λ n. n ≤ 3) 0 (1 ∷ 3 ∷ []) (omega arith)
    (All-cons (λ n. n ≤ 3) 1 (3 ∷ []) (omega arith)
    (All-cons (λ n. n ≤ 3) 3 [] (omega arith) (All-nil (λ n. n ≤ 3))))) known

pub no_fault : (status : ℕ) → Contains (0 ∷ 1 ∷ 3 ∷ []) status → status ≢ 2
no_fault status known = All-contains (λ n. n ≢ 2) (0 ∷ 1 ∷ 3 ∷ []) status
    (All-cons (λ n. n ≢ 2) 0 (1 ∷ 3 ∷ []) (λ e. omega arith)
    (All-cons (λ n. n ≢ 2) 1 (3 ∷ []) (λ e. omega arith)
    (All-cons (λ n. n ≢ 2) 3 [] (λ e. omega arith) (All-nil (λ n. n ≢ 2))))) known
