-- The one pass over entries by rising key finds what is kept.
use Rattle.std.proofs.Common.{◌≡◌, ℕ, ◌<◌, ◌≤◌, ◌==◌, nat_lt, nat_le, ◌&&◌, not, Bool, true, false, cond, List, [], ◌∷◌, ◌++◌, Option, Some, None, refl}
use Rattle.std.proofs.Common.{sym, ap, ◌∙◌, arith, subst}
use Rattle.std.proofs.lemmas.Bool.Decides.{nat_tests}
use Rattle.std.proofs.lemmas.Bool.{leb-true, leb-false, eqb-true, eqb-false}
use Rattle.std.proofs.lemmas.List.Elements.{filter-append}
use Rattle.std.specs.List.{AllByRecursion}
use Rattle.clsm_levels.specs.declared.entry.Entry.{Entry}
use Rattle.clsm_levels.specs.Entry.{is_removal}
use Rattle.clsm_levels.specs.Merge.{without_below, kept}
use Rattle.clsm_levels.specs.Pass.{RisesByKey, is_key, kept_after}
use Rattle.clsm_levels.proofs.Every.{every_weaker, every-filter}
use Rattle.clsm_levels.proofs.Keeps.{unless_dropped, every-kept}

-- the entries that an entry below the floor of this key does not hide
abbrev unhidden : Option ℕ → ℕ → List Entry → List Entry
unhidden None f es = es
unhidden (Some k) f es = without_below k f es

-- no key is below the settled one
abbrev IsAtLeast : Option ℕ → List Entry → Type 0
IsAtLeast None es = Unit {0}
IsAtLeast (Some k) es = AllByRecursion (λ e. k ≤ e.key) es

-- what is above a key is not hidden by it
without_lower : (k f : ℕ) (es : List Entry) → AllByRecursion (λ e. k < e.key) es → without_below k f es ≡ es
without_lower k f [] h = refl
without_lower k f (e ∷ es) h = let lt : k < e.key = h.0 in let r = without_lower k f es h.1 in grind (arith, nat_tests)

without_twice : (k f : ℕ) (es : List Entry) → without_below k f (without_below k f es) ≡ without_below k f es
without_twice k f [] = refl
without_twice k f (e ∷ es) = let r = without_twice k f es in let p : Entry → Bool = λ x. not (x.key == k && nat_lt x.time f) in
    elim (p e) as (λ (b : Bool). p e ≡ b → without_below k f (cond b (e ∷ without_below k f es) (without_below k f es)) ≡ cond b (e ∷ without_below k f es)
    (without_below k f es)) [
      | true ↦ λ t. ap (λ (b : Bool). cond b (e ∷ without_below k f (without_below k f es)) (without_below k f (without_below k f es))) t
          ∙ ap (λ (l : List Entry). e ∷ l) r
      | false ↦ λ t. r
    ] refl

hidden_itself : (one : Bool) (e : Entry) (k f : ℕ) → e.key ≡ k → e.time < f → without_below k f (unless_dropped one e) ≡ []
hidden_itself one e k f is low = elim (one && is_removal e) as (λ (b : Bool). without_below k f (cond b [] (e ∷ [])) ≡ []) [
  | true ↦ refl
  | false ↦ grind (arith, nat_tests)
]

seen_beside : (one : Bool) (e : Entry) (k f : ℕ) → (k ≡ e.key → ⊥) → without_below k f (unless_dropped one e) ≡ unless_dropped one e
seen_beside one e k f ne = elim (one && is_removal e) as (λ (b : Bool). without_below k f (cond b [] (e ∷ [])) ≡ cond b [] (e ∷ [])) [
  | true ↦ refl
  | false ↦ grind (arith, nat_tests)
]

-- an entry of the settled key is hidden
settled_hides : (f : ℕ) (one : Bool) (e : Entry) (rest : List Entry) (settled : Option ℕ) → is_key settled e.key ≡ true → e.time < f
    → unhidden settled f (unless_dropped one e ++ without_below e.key f rest) ≡ without_below e.key f rest
settled_hides f one e rest None is low = absurd (cc is)
settled_hides f one e rest (Some k) is low =
    let key : k ≡ e.key = eqb-true k e.key is in
    let again : without_below k f (without_below e.key f rest) ≡ without_below e.key f rest =
    subst (λ (j : ℕ). without_below j f (without_below e.key f rest) ≡ without_below e.key f rest) (sym key) (without_twice e.key f rest) in
    filter-append (λ (x : Entry). not (x.key == k && nat_lt x.time f)) (unless_dropped one e) (without_below e.key f rest)
    ∙ ap (λ (l : List Entry). l ++ without_below k f (without_below e.key f rest)) (hidden_itself one e k f (sym key) low) ∙ again

-- an entry of another key is not, nor what it does not hide itself
settled_passes : (f : ℕ) (one : Bool) (e : Entry) (rest : List Entry) (settled : Option ℕ) → is_key settled e.key ≡ false
    → AllByRecursion (λ x. e.key ≤ x.key) rest → IsAtLeast settled (e ∷ rest) → unhidden settled f (unless_dropped one e ++ without_below e.key f rest)
    ≡ unless_dropped one e ++ without_below e.key f rest
settled_passes f one e rest None ne above least = refl
settled_passes f one e rest (Some k) ne above least =
    let other : k ≡ e.key → ⊥ = eqb-false k e.key ne in
    let low : k ≤ e.key = least.0 in
    let higher : AllByRecursion (λ x. k < x.key) (without_below e.key f rest) =
    every-filter (λ x. k < x.key) (λ x. not (x.key == e.key && nat_lt x.time f)) rest
    (every_weaker (λ x. e.key ≤ x.key) (λ x. k < x.key) (λ x l. omega arith) rest above) in
    filter-append (λ (x : Entry). not (x.key == k && nat_lt x.time f)) (unless_dropped one e) (without_below e.key f rest)
    ∙ ap (λ (l : List Entry). l ++ without_below k f (without_below e.key f rest)) (seen_beside one e k f other)
    ∙ ap (λ (l : List Entry). unless_dropped one e ++ l) (without_lower k f (without_below e.key f rest) higher)

unhidden_above : (f : ℕ) (e : Entry) (rest : List Entry) (settled : Option ℕ) → f ≤ e.time → unhidden settled f (e ∷ rest) ≡ e ∷ unhidden settled f rest
unhidden_above f e rest None high = refl
unhidden_above f e rest (Some k) high = grind (arith, nat_tests)

least_rest : (settled : Option ℕ) (e : Entry) (es : List Entry) → IsAtLeast settled (e ∷ es) → IsAtLeast settled es
least_rest None e es h = tt
least_rest (Some k) e es h = h.1

least_kept : (settled : Option ℕ) (f : ℕ) (one : Bool) (e : Entry) (es : List Entry) → IsAtLeast settled (e ∷ es) → IsAtLeast settled (e ∷ kept f one es)
least_kept None f one e es h = tt
least_kept (Some k) f one e es h = (h.0, every-kept (λ x. k ≤ x.key) f one es h.1)

kept_after_settled : (settled : Option ℕ) (f : ℕ) (one : Bool) (es : List Entry) → RisesByKey es → IsAtLeast settled es → kept_after settled f one es
    ≡ unhidden settled f (kept f one es)
kept_after_settled None f one [] rise least = refl
kept_after_settled (Some k) f one [] rise least = refl
kept_after_settled settled f one (e ∷ es) rise least =
    let rest = kept f one es in
    let below = unless_dropped one e ++ without_below e.key f rest in
    let next : kept_after (Some e.key) f one es ≡ without_below e.key f rest = kept_after_settled (Some e.key) f one es rise.1 rise.0 in
    elim (nat_le f e.time) as (λ (t : Bool). nat_le f e.time ≡ t → cond t (e ∷ kept_after settled f one es)
    (cond (is_key settled e.key) [] (unless_dropped one e) ++ kept_after (Some e.key) f one es) ≡ unhidden settled f (cond t (e ∷ rest) below)) [
      | true ↦ λ t. ap (λ (l : List Entry). e ∷ l) (kept_after_settled settled f one es rise.1 (least_rest settled e es least))
          ∙ sym (unhidden_above f e rest settled (leb-true f e.time t))
      | false ↦ λ t. elim (is_key settled e.key) as (λ (u : Bool). is_key settled e.key ≡ u
          → cond u [] (unless_dropped one e) ++ kept_after (Some e.key) f one es ≡ unhidden settled f below) [
            | true ↦ λ u. next ∙ sym (settled_hides f one e rest settled u (leb-false f e.time t))
            | false ↦ λ u. ap (λ (l : List Entry). unless_dropped one e ++ l) next
                ∙ sym (settled_passes f one e rest settled u (every-kept (λ x. e.key ≤ x.key) f one es rise.0) (least_kept settled f one e es least))
          ] refl
    ] refl

-- with nothing settled, one pass over entries by rising key finds what is kept
pub kept_after-none : (f : ℕ) (one : Bool) (es : List Entry) → RisesByKey es → kept_after None f one es ≡ kept f one es
kept_after-none f one es rise = kept_after_settled None f one es rise tt
