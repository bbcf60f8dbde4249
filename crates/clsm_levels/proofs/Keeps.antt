-- What a merge keeps answers as before at and above the floor.
use Rattle.std.proofs.Common.{◌≡◌, ℕ, ◌<◌, ◌≤◌, ◌==◌, nat_lt, nat_le, ◌&&◌, not, Bool, true, false, cond, suc, List, [], ◌∷◌, ◌++◌, length, filter, Option}
use Rattle.std.proofs.Common.{Some, None, is_none, refl, sym, ap, ◌∙◌, arith, subst}
use Rattle.std.proofs.lemmas.Bool.{leb-false, eqb-true, eqb-false}
use Rattle.std.proofs.lemmas.Bool.Decides.{nat_tests}
use Rattle.std.specs.List.{AllByRecursion}
use Rattle.clsm_levels.specs.declared.entry.Entry.{Entry}
use Rattle.clsm_levels.specs.Entry.{is_removal, of_key, first_below, value_of, TimesFall}
use Rattle.clsm_levels.specs.Run.{ComesBefore, IsRun}
use Rattle.clsm_levels.specs.Merge.{without_below, kept}
use Rattle.clsm_levels.proofs.Every.{every-append, every_weaker, every-cond, every-filter}
use Rattle.clsm_levels.proofs.Searches.{first_below_here, first_below_other}
use Rattle.clsm_levels.proofs.Orders.{run-filter, times_fall_rest, older_behind}

-- the entry, unless it is a removal that goes to level 1
abbrev pub unless_dropped : Bool → Entry → List Entry
unless_dropped one e = cond (one && is_removal e) [] (e ∷ [])

-- what holds of each entry holds of each that is kept
pub every-kept : (P : Entry → Type 0) (f : ℕ) (one : Bool) (xs : List Entry) → AllByRecursion P xs → AllByRecursion P (kept f one xs)
every-kept P f one [] h = tt
every-kept P f one (e ∷ es) h = every-cond P (nat_le f e.time) _ _ (λ t. (h.0, every-kept P f one es h.1))
    (λ t. every-append P (unless_dropped one e) _ (every-cond P (one && is_removal e) _ _ (λ t. tt) (λ t. (h.0, tt)))
    (every-filter P (λ x. not (x.key == e.key && nat_lt x.time f)) _ (every-kept P f one es h.1)))

-- what is kept of a run is a run
pub run-kept : (f : ℕ) (one : Bool) (xs : List Entry) → IsRun xs → IsRun (kept f one xs)
run-kept f one [] r = tt
run-kept f one (e ∷ es) r =
    let hidden : Entry → Bool = λ x. not (x.key == e.key && nat_lt x.time f) in
    let rest : AllByRecursion (ComesBefore e) (kept f one es) = every-kept (ComesBefore e) f one es r.0 in
    let run : IsRun (without_below e.key f (kept f one es)) = run-filter hidden (kept f one es) (run-kept f one es r.1) in
    elim (nat_le f e.time) as (λ (t : Bool). IsRun (cond t (e ∷ kept f one es) (unless_dropped one e ++ without_below e.key f (kept f one es)))) [
      | true ↦ (rest, run-kept f one es r.1)
      | false ↦ elim (one && is_removal e) as (λ (t : Bool). IsRun (cond t [] (e ∷ []) ++ without_below e.key f (kept f one es))) [
        | true ↦ run
        | false ↦ (every-filter (ComesBefore e) hidden (kept f one es) rest, run)
      ]
    ]

length-filter-le : (p : Entry → Bool) (xs : List Entry) → length (filter p xs) ≤ length xs
length-filter-le p [] = omega arith
length-filter-le p (x ∷ xs) = let h = length-filter-le p xs in elim (p x) as
    (λ (t : Bool). length (cond t (x ∷ filter p xs) (filter p xs)) ≤ suc (length xs)) [ true ↦ omega arith | false ↦ omega arith ]

-- no more is kept than there was
pub length-kept : (f : ℕ) (one : Bool) (xs : List Entry) → length (kept f one xs) ≤ length xs
length-kept f one [] = omega arith
length-kept f one (e ∷ es) =
    let h = length-kept f one es in
    let hidden : Entry → Bool = λ x. not (x.key == e.key && nat_lt x.time f) in
    let fewer = length-filter-le hidden (kept f one es) in
    elim (nat_le f e.time) as (λ (t : Bool). length (cond t (e ∷ kept f one es) (unless_dropped one e ++ without_below e.key f (kept f one es))) ≤ suc
    (length es)) [
      | true ↦ omega arith
      | false ↦ elim (one && is_removal e) as (λ (t : Bool). length (cond t [] (e ∷ []) ++ without_below e.key f (kept f one es)) ≤ suc
          (length es)) [ true ↦ omega arith | false ↦ omega arith ]
    ]

-- ---- what is kept answers as before

-- where all entries of the key are below the floor, none of them is left
first_below_hidden : (k f s : ℕ) (xs : List Entry) → AllByRecursion (λ x. x.key ≡ k → x.time < f) xs → first_below (without_below k f xs) k s ≡ None
first_below_hidden k f s [] h = refl
first_below_hidden k f s (x ∷ xs) h = let r = first_below_hidden k f s xs h.1 in let here : x.key ≡ k → x.time < f = h.0 in grind (arith, nat_tests)

-- the entries of another key hide nothing
first_below_beside : (j k f s : ℕ) (xs : List Entry) → (j ≡ k → ⊥) → first_below (without_below j f xs) k s ≡ first_below xs k s
first_below_beside j k f s [] ne = refl
first_below_beside j k f s (x ∷ xs) ne = let r = first_below_beside j k f s xs ne in grind (arith, nat_tests)

first_below_unless : (one : Bool) (e : Entry) (xs : List Entry) (k s : ℕ) → (e.key == k) ≡ false → first_below (unless_dropped one e ++ xs) k s
    ≡ first_below xs k s
first_below_unless one e xs k s t =
    elim (one && is_removal e) as (λ (b : Bool). first_below (cond b [] (e ∷ []) ++ xs) k s ≡ first_below xs k s) [
      | true ↦ refl
      | false ↦ first_below_other e xs k s t
    ]

-- behind an entry below the floor all of its key are below the floor, so it hides them
nothing_left : (one : Bool) (k f s : ℕ) (e : Entry) (es : List Entry) → TimesFall (of_key k (e ∷ es)) → e.key ≡ k → e.time < f
    → first_below (without_below e.key f (kept f one es)) k s ≡ None
nothing_left one k f s e es h is low =
    let P : Entry → Type 0 = λ x. x.key ≡ e.key → x.time < f in
    let falls : TimesFall (of_key e.key (e ∷ es)) = subst (λ (j : ℕ). TimesFall (of_key j (e ∷ es))) (sym is) h in
    let older : AllByRecursion P es = every_weaker (λ x. x.key ≡ e.key → x.time < e.time) P (λ x l i. let lt = l i in omega arith) es
    (older_behind e es falls) in
    subst (λ (j : ℕ). first_below (without_below e.key f (kept f one es)) j s ≡ None) is
    (first_below_hidden e.key f s (kept f one es) (every-kept P f one es older))

-- Who takes a removal that is not kept for nothing finds the same at and above the floor.
module _ (B : Type 0) (F : Option Entry → B) (f s k : ℕ) (one : Bool) (le : f ≤ s)
    (same : (e : Entry) → (one && is_removal e) ≡ true → F None ≡ F (Some e)) where
  kept_reads : (xs : List Entry) → TimesFall (of_key k xs) → F (first_below (kept f one xs) k s) ≡ F (first_below xs k s)
  kept_reads [] h = refl
  kept_reads (e ∷ es) h =
      let rest = kept f one es in
      let again : F (first_below rest k s) ≡ F (first_below es k s) = kept_reads es (times_fall_rest k e es h) in
      let hiding : List Entry = without_below e.key f rest in
      elim (nat_le f e.time) as (λ (u : Bool). nat_le f e.time ≡ u → F (first_below (cond u (e ∷ rest) (unless_dropped one e ++ hiding)) k s) ≡ F
      (first_below (e ∷ es) k s)) [
        | true ↦ λ u. elim (e.key == k && nat_lt e.time s) as (λ (v : Bool). F (cond v (Some e) (first_below rest k s)) ≡ F
            (cond v (Some e) (first_below es k s))) [ true ↦ refl | false ↦ again ]
        | false ↦ λ u. let low = leb-false f e.time u in elim (e.key == k) as
            (λ (v : Bool). (e.key == k) ≡ v → F (first_below (unless_dropped one e ++ hiding) k s) ≡ F (first_below (e ∷ es) k s)) [
              | true ↦ λ v. elim (one && is_removal e) as (λ (w : Bool). (one && is_removal e) ≡ w
                  → F (first_below (cond w [] (e ∷ []) ++ hiding) k s) ≡ F (first_below (e ∷ es) k s)) [
                    | true ↦ λ w. ap F (nothing_left one k f s e es h (eqb-true e.key k v) low)
                        ∙ same e w ∙ ap F (sym (first_below_here e es k s v (omega arith)))
                    | false ↦ λ w. ap F (first_below_here e hiding k s v (omega arith) ∙ sym (first_below_here e es k s v (omega arith)))
                  ] refl
              | false ↦ λ v. ap F (first_below_unless one e hiding k s v ∙ first_below_beside e.key k f s rest (eqb-false e.key k v)) ∙ again
                  ∙ ap F (sym (first_below_other e es k s v))
            ] refl
      ] refl

removal_says : (e : Entry) → is_removal e ≡ true → value_of None ≡ value_of (Some e)
removal_says e t = removed e.value t where
  removed : (v : Option (List ℕ)) → is_none v ≡ true → None ≡ v
  removed None t = refl
  removed (Some x) t = absurd (cc t)

pub value_of-kept : (f s k : ℕ) (xs : List Entry) → f ≤ s → TimesFall (of_key k xs) → value_of (first_below (kept f true xs) k s)
    ≡ value_of (first_below xs k s)
value_of-kept f s k xs le h = kept_reads (Option (List ℕ)) value_of f s k true le removal_says xs h

pub first_below-kept : (f s k : ℕ) (xs : List Entry) → f ≤ s → TimesFall (of_key k xs) → first_below (kept f false xs) k s ≡ first_below xs k s
first_below-kept f s k xs le h = kept_reads (Option Entry) (λ o. o) f s k false le (λ e t. absurd (cc t)) xs h
