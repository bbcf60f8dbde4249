-- What is kept, in the words of the rule.
use Rattle.std.proofs.Common.{◌≡◌, ℕ, ◌<◌, ◌≤◌, ◌==◌, ◌↔◌, nat_lt, nat_le, ◌&&◌, not, ◌⊎◌, Bool, true, false, cond, List, [], ◌∷◌, ◌++◌, filter, Some, refl}
use Rattle.std.proofs.Common.{sym, ap, ◌∙◌, arith, ⊎_elim, subst, inl, inr}
use Rattle.std.proofs.lemmas.Bool.Decides.{nat_tests}
use Rattle.std.proofs.lemmas.Bool.{leb-true, leb-false, ltb-true, lt-ltb, eq-eqb, and_from, eqb-true, and_left, and_right, and_cases, and_parts, true≢false}
use Rattle.std.proofs.lemmas.List.Elements.{Contains-append_left, Contains-append_right}
use Rattle.std.specs.List.{AllByRecursion, Contains}
use Rattle.clsm_levels.specs.declared.entry.Entry.{Entry}
use Rattle.clsm_levels.specs.Entry.{is_removal, of_key, first_below, TimesFall, TimesFallByKey}
use Rattle.clsm_levels.specs.Run.{all_of}
use Rattle.clsm_levels.specs.Merge.{insert_entry, merged, without_below, kept, is_to_level_one, wanted}
use Rattle.clsm_levels.specs.Rule.{IsNeeded, Stays, KeepsByRule}
use Rattle.clsm_levels.proofs.Every.{every-append, every_weaker, every_both, every-cond, every-filter, every_contains, contains_here, contains_later}
use Rattle.clsm_levels.proofs.Every.{contains_cases, contains_none, every_contained}
use Rattle.clsm_levels.proofs.Searches.{first_below_here, first_below_other, first_below_newer, first_below-same}
use Rattle.clsm_levels.proofs.Merges.{every-merged, of_key-merged}
use Rattle.clsm_levels.proofs.Orders.{times_fall_rest, older_behind}
use Rattle.clsm_levels.proofs.Keeps.{unless_dropped, every-kept}

-- ---- by the search: what is kept below the floor is what a search at the floor finds

-- at or above the floor, or what a search at the floor finds and not dropped
abbrev IsFound : ℕ → Bool → List Entry → Entry → Type 0
IsFound f one es e = (f ≤ e.time) ⊎ ((first_below es e.key f ≡ Some e) × ((one && is_removal e) ≡ false))

found_below : (es : List Entry) (e : Entry) (k f : ℕ) → first_below es k f ≡ Some e → e.time < f
found_below [] e k f is = absurd (cc is)
found_below (x ∷ es) e k f is = elim (x.key == k && nat_lt x.time f) as
    (λ (b : Bool). (x.key == k && nat_lt x.time f) ≡ b → cond b (Some x) (first_below es k f) ≡ Some e → e.time < f) [
      | true ↦ λ t s. let same : x ≡ e = cc in let lt : x.time < f = grind (arith, nat_tests) in subst (λ (y : Entry). y.time < f) same lt
      | false ↦ λ t s. found_below es e k f s
    ] refl is

contains-filter : (p : Entry → Bool) (xs : List Entry) (e : Entry) → Contains xs e → p e ≡ true → Contains (filter p xs) e
contains-filter p [] e c t = c
contains-filter p (x ∷ xs) e c t = ⊎_elim
    (λ (s : x ≡ e). subst (λ (b : Bool). Contains (cond b (x ∷ filter p xs) (filter p xs)) e) (sym (ap p s ∙ t))
    (subst (Contains (x ∷ filter p xs)) s (contains_here x (filter p xs))))
    (λ (r : Contains xs e). let later = contains-filter p xs e r t in elim (p x) as
    (λ (b : Bool). Contains (cond b (x ∷ filter p xs) (filter p xs)) e) [ true ↦ contains_later x e (filter p xs) later | false ↦ later ])
    (contains_cases x e xs c)

passes-filter : (p : Entry → Bool) (xs : List Entry) → AllByRecursion (λ e. p e ≡ true) (filter p xs)
passes-filter p [] = tt
passes-filter p (x ∷ xs) = every-cond (λ e. p e ≡ true) (p x) _ _ (λ t. (t, passes-filter p xs)) (λ t. passes-filter p xs)

-- each that is kept is found
kept_found : (f : ℕ) (one : Bool) (es : List Entry) → AllByRecursion (IsFound f one es) (kept f one es)
kept_found f one [] = tt
kept_found f one (x ∷ es) =
    let all : List Entry = x ∷ es in
    let rest = kept_found f one es in
    let passes : Entry → Bool = λ y. not (y.key == x.key && nat_lt y.time f) in
    every-cond (IsFound f one all) (nat_le f x.time) _ _
    (λ t.
    let high = leb-true f x.time t in
    (inl high, every_weaker (IsFound f one es) (IsFound f one all) (λ e. newer_first x es e high) (kept f one es) rest))
    (λ t.
    let low = leb-false f x.time t in
    every-append (IsFound f one all) (unless_dropped one x) (without_below x.key f (kept f one es))
    (every-cond (IsFound f one all) (one && is_removal x) _ _ (λ u. tt) (λ u. (inr (first_below_here x es x.key f (itself x.key) low, u), tt)))
    (every_weaker (λ e. IsFound f one es e × (passes e ≡ true)) (IsFound f one all) (λ e both. hides_others x es e both.0 both.1)
    (without_below x.key f (kept f one es))
    (every_both (IsFound f one es) (λ e. passes e ≡ true) (filter passes (kept f one es)) (every-filter (IsFound f one es) passes (kept f one es) rest)
    (passes-filter passes (kept f one es))))) where
      itself : (k : ℕ) → (k == k) ≡ true
      itself k = grind (arith, nat_tests)

      newer_first : (x : Entry) (es : List Entry) (e : Entry) → f ≤ x.time → IsFound f one es e → IsFound f one (x ∷ es) e
      newer_first x es e high found = ⊎_elim (λ (above : f ≤ e.time). inl above) (λ below. inr (first_below_newer x es e.key f high ∙ below.0, below.1)) found

      hides_others : (x : Entry) (es : List Entry) (e : Entry) → IsFound f one es e → not (e.key == x.key && nat_lt e.time f) ≡ true → IsFound f one (x ∷ es) e
      hides_others x es e found seen = ⊎_elim
          (λ (above : f ≤ e.time). inl above)
          (λ below.
          let lt = found_below es e e.key f below.0 in
          let other : (x.key == e.key) ≡ false = grind (arith, nat_tests) in
          inr (first_below_other x es e.key f other ∙ below.0, below.1))
          found

-- all at or above the floor are kept
above_kept : (f : ℕ) (one : Bool) (es : List Entry) (e : Entry) → f ≤ e.time → Contains es e → Contains (kept f one es) e
above_kept f one [] e high c = c
above_kept f one (x ∷ es) e high c =
    let rest = kept f one es in
    let passes : Entry → Bool = λ y. not (y.key == x.key && nat_lt y.time f) in
    let seen : passes e ≡ true = grind (arith, nat_tests) in
    elim (nat_le f x.time) as (λ (t : Bool). nat_le f x.time ≡ t → Contains (cond t (x ∷ rest) (unless_dropped one x ++ without_below x.key f rest)) e) [
      | true ↦ λ t. ⊎_elim (λ (s : x ≡ e). subst (Contains (x ∷ rest)) s (contains_here x rest))
          (λ (later : Contains es e). contains_later x e rest (above_kept f one es e high later)) (contains_cases x e es c)
      | false ↦ λ t.
          let low = leb-false f x.time t in
          ⊎_elim (λ (s : x ≡ e). let same : x.time ≡ e.time = ap (λ (y : Entry). y.time) s in absurd (omega arith))
          (λ (later : Contains es e). Contains-append_right (unless_dropped one x) (without_below x.key f rest) e
          (contains-filter passes rest e (above_kept f one es e high later) seen)) (contains_cases x e es c)
    ] refl

-- and what a search at the floor finds, unless it is dropped
below_kept : (f : ℕ) (one : Bool) (es : List Entry) (e : Entry) → first_below es e.key f ≡ Some e → (one && is_removal e) ≡ false → Contains (kept f one es) e
below_kept f one [] e is stays = absurd (cc is)
below_kept f one (x ∷ es) e is stays =
    let rest = kept f one es in
    let passes : Entry → Bool = λ y. not (y.key == x.key && nat_lt y.time f) in
    elim (nat_le f x.time) as (λ (t : Bool). nat_le f x.time ≡ t → Contains (cond t (x ∷ rest) (unless_dropped one x ++ without_below x.key f rest)) e) [
      | true ↦ λ t. contains_later x e rest (below_kept f one es e (sym (first_below_newer x es e.key f (leb-true f x.time t)) ∙ is) stays)
      | false ↦ λ t.
          let low = leb-false f x.time t in
          elim (x.key == e.key) as (λ (u : Bool). (x.key == e.key) ≡ u → Contains (unless_dropped one x ++ without_below x.key f rest) e) [
            | true ↦ λ u.
                let some : Some x ≡ Some e = sym (first_below_here x es e.key f u low) ∙ is in
                let same : x ≡ e = cc some in
                let here : Contains (unless_dropped one x) e = subst (λ (b : Bool). Contains (cond b [] (x ∷ [])) e)
                (sym (ap (λ (y : Entry). one && is_removal y) same ∙ stays)) (subst (Contains (x ∷ [])) same (contains_here x [])) in
                Contains-append_left (unless_dropped one x) (without_below x.key f rest) e here
            | false ↦ λ u.
                let seen : passes e ≡ true = grind (arith, nat_tests) in
                Contains-append_right (unless_dropped one x) (without_below x.key f rest) e
                (contains-filter passes rest e (below_kept f one es e (sym (first_below_other x es e.key f u) ∙ is) stays) seen)
          ] refl
    ] refl

-- ---- the newest below the floor is what a search at the floor finds

-- the key of x and a time below f
abbrev is_candidate : ℕ → ℕ → Entry → Bool
is_candidate k f x = x.key == k && nat_lt x.time f

candidate_tells : (k f : ℕ) (x : Entry) → is_candidate k f x ≡ true → (x.key ≡ k) × (x.time < f)
candidate_tells k f x t = let parts = and_parts (x.key == k) (nat_lt x.time f) t in (eqb-true x.key k parts.0, ltb-true x.time f parts.1)

candidate_from : (k f : ℕ) (x : Entry) → x.key ≡ k → x.time < f → is_candidate k f x ≡ true
candidate_from k f x is lt = and_from (x.key == k) (nat_lt x.time f) (eq-eqb x.key k is) (lt-ltb x.time f lt)

-- behind an entry of the key those of the key are older
older_of_key : (k : ℕ) (x : Entry) (es : List Entry) → x.key ≡ k → TimesFall (of_key k (x ∷ es)) → AllByRecursion (λ y. y.key ≡ k → y.time < x.time) es
older_of_key k x es is falls = subst (λ (j : ℕ). AllByRecursion (λ y. y.key ≡ j → y.time < x.time) es) is
    (older_behind x es (subst (λ (j : ℕ). TimesFall (of_key j (x ∷ es))) (sym is) falls))

found_is_newest : (es : List Entry) (e : Entry) (f : ℕ) → TimesFall (of_key e.key es) → first_below es e.key f ≡ Some e
    → AllByRecursion (λ x. x.key ≡ e.key → x.time < f → x.time ≤ e.time) es
found_is_newest [] e f falls is = tt
found_is_newest (x ∷ es) e f falls is = elim (is_candidate e.key f x) as
    (λ (b : Bool). is_candidate e.key f x ≡ b → cond b (Some x) (first_below es e.key f) ≡ Some e
    → AllByRecursion (λ y. y.key ≡ e.key → y.time < f → y.time ≤ e.time) (x ∷ es)) [
      | true ↦ λ t s.
          let same : x ≡ e = cc s in
          let when : x.time ≡ e.time = ap (λ (y : Entry). y.time) same in
          let key = candidate_tells e.key f x t in (
            λ i l. omega arith,
            every_weaker (λ y. y.key ≡ e.key → y.time < x.time) (λ y. y.key ≡ e.key → y.time < f → y.time ≤ e.time)
                (λ y older i l. let lt = older i in omega arith) es (older_of_key e.key x es key.0 falls),
          )
      | false ↦ λ t s. (λ i l. absurd (true≢false (sym (candidate_from e.key f x i l) ∙ t)), found_is_newest es e f (times_fall_rest e.key x es falls) s)
    ] refl is

newest_is_found : (es : List Entry) (e : Entry) (f : ℕ) → TimesFall (of_key e.key es) → Contains es e → e.time < f
    → AllByRecursion (λ x. x.key ≡ e.key → x.time < f → x.time ≤ e.time) es → first_below es e.key f ≡ Some e
newest_is_found [] e f falls c low newest = absurd (contains_none e c)
newest_is_found (x ∷ es) e f falls c low newest = elim (is_candidate e.key f x) as
    (λ (b : Bool). is_candidate e.key f x ≡ b → cond b (Some x) (first_below es e.key f) ≡ Some e) [
      | true ↦ λ t.
          let key = candidate_tells e.key f x t in
          ⊎_elim (λ (s : x ≡ e). ap Some s)
          (λ (later : Contains es e).
          let older : e.time < x.time = every_contains (λ (y : Entry). y.key ≡ e.key → y.time < x.time) es e (older_of_key e.key x es key.0 falls) later refl in
          let least : x.time ≤ e.time = newest.0 key.0 key.1 in
          absurd (omega arith))
          (contains_cases x e es c)
      | false ↦ λ t. ⊎_elim
          (λ (s : x ≡ e). absurd (true≢false (sym
          (candidate_from e.key f x (ap (λ (y : Entry). y.key) s) (subst (λ (y : Entry). y.time < f) (sym s) low)) ∙ t)))
          (λ (later : Contains es e). newest_is_found es e f (times_fall_rest e.key x es falls) later low newest.1)
          (contains_cases x e es c)
    ] refl

-- ---- merged entries are the same entries

contains-insert : (e : Entry) (xs : List Entry) (x : Entry) → Contains (e ∷ xs) x → Contains (insert_entry e xs) x
contains-insert e [] x c = c
contains-insert e (y ∷ xs) x c = elim (nat_lt y.key e.key) as (λ (t : Bool). Contains (cond t (y ∷ insert_entry e xs) (e ∷ y ∷ xs)) x) [
  | true ↦ ⊎_elim (λ (s : e ≡ x). contains_later y x (insert_entry e xs) (contains-insert e xs x (subst (Contains (e ∷ xs)) s (contains_here e xs))))
      (λ (later : Contains (y ∷ xs) x). ⊎_elim (λ (s : y ≡ x). subst (Contains (y ∷ insert_entry e xs)) s (contains_here y (insert_entry e xs)))
      (λ (last : Contains xs x). contains_later y x (insert_entry e xs) (contains-insert e xs x (contains_later e x xs last)))
      (contains_cases y x xs later)) (contains_cases e x (y ∷ xs) c)
  | false ↦ c
]

pub contains-merged : (xs : List Entry) (x : Entry) → Contains xs x → Contains (merged xs) x
contains-merged [] x c = c
contains-merged (e ∷ es) x c =
    contains-insert e (merged es) x (⊎_elim (λ (s : e ≡ x). subst (Contains (e ∷ merged es)) s (contains_here e (merged es)))
    (λ (later : Contains es x). contains_later e x (merged es) (contains-merged es x later)) (contains_cases e x es c))

pub contained-merged : (xs : List Entry) (x : Entry) → Contains (merged xs) x → Contains xs x
contained-merged xs x c = every_contains (Contains xs) (merged xs) x (every-merged (Contains xs) xs (every_contained xs)) c

-- ---- the rule

dropped_from_needed : (one : Bool) (e : Entry) → IsNeeded one e → (one && is_removal e) ≡ false
dropped_from_needed one e needed = ⊎_elim (λ (zero : one ≡ false). and_left one (is_removal e) zero)
    (λ (value : is_removal e ≡ false). and_right one (is_removal e) value) needed

-- of entries that fall in each key, exactly those that stay are kept
pub kept_by_rule : (f : ℕ) (one : Bool) (es : List Entry) → TimesFallByKey es → (e : Entry)
    → Contains (kept f one (merged es)) e ↔ (Contains es e × Stays f one es e)
kept_by_rule f one es falls e = (forth, back) where
  same : (k : ℕ) → first_below (merged es) k f ≡ first_below es k f
  same k = first_below-same (merged es) es k f (of_key-merged es)

  stays : IsFound f one (merged es) e → Stays f one es e
  stays found = ⊎_elim
      (λ (above : f ≤ e.time). inl above)
      (λ below.
      let is : first_below es e.key f ≡ Some e = sym (same e.key) ∙ below.0 in
      inr (record { below = found_below es e e.key f is; newest = found_is_newest es e f (falls e.key) is }, and_cases one (is_removal e) below.1))
      found

  forth : Contains (kept f one (merged es)) e → Contains es e × Stays f one es e
  forth c = (
    contained-merged es e (every_contains (Contains (merged es)) (kept f one (merged es)) e
        (every-kept (Contains (merged es)) f one (merged es) (every_contained (merged es))) c),
    stays (every_contains (IsFound f one (merged es)) (kept f one (merged es)) e (kept_found f one (merged es)) c),
  )

  back : Contains es e × Stays f one es e → Contains (kept f one (merged es)) e
  back both = ⊎_elim
      (λ (above : f ≤ e.time). above_kept f one (merged es) e above (contains-merged es e both.0))
      (λ below.
      let newest = below.0 in
      below_kept f one (merged es) e (same e.key ∙ newest_is_found es e f (falls e.key) both.0 newest.below newest.newest) (dropped_from_needed one e below.1))
      both.1

-- a merge writes exactly the entries that stay
pub wanted_by_rule : (m floor : ℕ) (epoch : List Entry) (runs : List (List Entry)) → KeepsByRule m floor epoch runs (wanted m floor epoch runs)
wanted_by_rule m floor epoch runs = by_level (is_to_level_one m) where
  by_level : (b : Bool) → TimesFallByKey (cond b (all_of (epoch ∷ runs)) epoch) → (e : Entry)
      → Contains (cond b (kept floor true (merged (all_of (epoch ∷ runs)))) (kept floor false (merged epoch)))
      e ↔ (Contains (cond b (all_of (epoch ∷ runs)) epoch) e × Stays floor b (cond b (all_of (epoch ∷ runs)) epoch) e)
  by_level true falls e = kept_by_rule floor true (all_of (epoch ∷ runs)) falls e
  by_level false falls e = kept_by_rule floor false epoch falls e
