-- Two runs with the same entries are equal.
use Rattle.std.proofs.Common.{◌≡◌, List, [], ◌∷◌, refl, sym, subst, arith, ⊎_elim}
use Rattle.std.specs.List.{AllByRecursion, Contains}
use Rattle.clsm_levels.specs.declared.entry.Entry.{Entry}
use Rattle.clsm_levels.specs.Run.{ComesBefore, IsRun}
use Rattle.clsm_levels.proofs.Every.{every_contains, contains_here, contains_later, contains_cases, contains_none}

not_before_itself : (x : Entry) → ComesBefore x x → ⊥
not_before_itself x b = grind arith

not_both_before : (x y : Entry) → ComesBefore x y → ComesBefore y x → ⊥
not_both_before x y b c = grind arith

same_first : (x y : Entry) (xs ys : List Entry) → AllByRecursion (ComesBefore x) xs → AllByRecursion (ComesBefore y) ys → Contains (y ∷ ys) x
    → Contains (x ∷ xs) y → x ≡ y
same_first x y xs ys before_x before_y c d = ⊎_elim (λ (e : y ≡ x). sym e)
    (λ (x_behind : Contains ys x). ⊎_elim (λ (e : x ≡ y). e)
    (λ (y_behind : Contains xs y). absurd (not_both_before x y (every_contains (ComesBefore x) xs y before_x y_behind)
    (every_contains (ComesBefore y) ys x before_y x_behind)))
    (contains_cases x y xs d))
    (contains_cases y x ys c)

-- what stands behind the first is no less in the other run behind its first
behind_first : (x : Entry) (xs ys : List Entry) → AllByRecursion (ComesBefore x) xs → ((e : Entry) → Contains (x ∷ xs) e → Contains (x ∷ ys) e)
    → (e : Entry) → Contains xs e → Contains ys e
behind_first x xs ys before into e c = ⊎_elim
    (λ (same : x ≡ e). absurd (not_before_itself x (subst (ComesBefore x) (sym same) (every_contains (ComesBefore x) xs e before c))))
    (λ (later : Contains ys e). later)
    (contains_cases x e ys (into e (contains_later x e xs c)))

-- two runs with the same entries are equal
pub same_runs : (xs ys : List Entry) → IsRun xs → IsRun ys → ((e : Entry) → Contains xs e → Contains ys e) → ((e : Entry) → Contains ys e → Contains xs e)
    → xs ≡ ys
same_runs [] [] r q into back = refl
same_runs [] (y ∷ ys) r q into back = absurd (contains_none y (back y (contains_here y ys)))
same_runs (x ∷ xs) [] r q into back = absurd (contains_none x (into x (contains_here x xs)))
same_runs (x ∷ xs) (y ∷ ys) r q into back =
    let first : x ≡ y = same_first x y xs ys r.0 q.0 (into x (contains_here x xs)) (back y (contains_here y ys)) in
    let before_x : AllByRecursion (ComesBefore x) ys = subst (λ (w : Entry). AllByRecursion (ComesBefore w) ys) (sym first) q.0 in
    let rest : xs ≡ ys = same_runs xs ys r.1 q.1
    (behind_first x xs ys r.0 (λ e c. subst (λ (w : Entry). Contains (w ∷ ys) e) (sym first) (into e c)))
    (behind_first x ys xs before_x (λ e c. back e (subst (λ (w : Entry). Contains (w ∷ ys) e) first c))) in
    cc (first, rest)
