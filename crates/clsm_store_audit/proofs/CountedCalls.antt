-- A function that counts how often it is called.
use Rattle.std.proofs.Common.{◌≡◌, ◌∙◌, ◌+◌, ◌<◌, ℕ, List, [], ◌∷◌, ap, sym, length, min, MutBor, arith}
use Rattle.std.specs.List.{FoldsTo}

-- a call counts one more, as far as a word can hold the count, behind the same reference
abbrev pub CountsOne : MutBor ℕ → MutBor ℕ → Type 0
CountsOne before after = (after.now ≡ min (before.now + 1) 18446744073709551615) × (after.ghost_name ≡ before.ghost_name)

module _ {F A : Type 0} (Calls : F → A → F → Type 0) (count_of : F → MutBor ℕ)
    (one : (b : F) (x : A) (a : F) → Calls b x a → CountsOne (count_of b) (count_of a)) where
  pub calls_counted : (b : F) (xs : List A) (a : F) → (count_of b).now < 18446744073709551616 → FoldsTo Calls b xs a
      → (count_of a).now ≡ min ((count_of b).now + length xs) 18446744073709551615
  calls_counted b [] a lt same = let now = ap (λ (f : F). (count_of f).now) same in omega arith
  calls_counted b (x ∷ xs) a lt folds =
      let first = (one b x folds.0 folds.1).0 in
      let rest = calls_counted folds.0 xs a (omega arith) folds.2 in omega arith

  pub count_stays : (b : F) (xs : List A) (a : F) → FoldsTo Calls b xs a → (count_of a).ghost_name ≡ (count_of b).ghost_name
  count_stays b [] a same = sym (ap (λ (f : F). (count_of f).ghost_name) same)
  count_stays b (x ∷ xs) a folds = count_stays folds.0 xs a folds.2 ∙ (one b x folds.0 folds.1).1
