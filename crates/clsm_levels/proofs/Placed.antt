-- The places of the next component, and that no reader of this one uses the place that is written.
use Rattle.std.proofs.Common.{◌≡◌, ◌≢◌, ℕ, ◌+◌, ◌-◌, ◌/◌, ◌%◌, ◌<◌, ◌≤◌, zero, suc, Bool, cond, List, [], ◌∷◌, ◌++◌, refl, sym, ap, ◌∙◌, arith, subst, ⊎_elim}
use Rattle.std.proofs.lemmas.Bool.{eq-eqb, ne_eqb, cases_eq}
use Rattle.std.specs.List.{Contains}
use Rattle.clsm_levels.specs.declared.place.Place.{Place}
use Rattle.clsm_levels.specs.declared.place.Place.TheVariants.{LevelZero, LevelOne}
use Rattle.clsm_levels.specs.Place.{level_zero_places, places, target, staying, IsFree}
use Rattle.clsm_levels.proofs.Every.{every_contains}

-- the newest of the places of level 0 stands first
pub level_zero_last : (j : ℕ) → 0 < j → level_zero_places j ≡ LevelZero (j - 1) ∷ level_zero_places (j - 1)
level_zero_last zero lt = absurd (omega arith)
level_zero_last (suc j) lt = let same : suc j - 1 ≡ j = omega arith in rw same refl

pub target_one : (m : ℕ) → m % 4 ≡ 3 → target m ≡ LevelOne ((m / 4 + 1) % 2)
target_one m e = ap (λ (b : Bool). cond b (LevelOne ((m / 4 + 1) % 2)) (LevelZero (m % 4))) (eq-eqb (m % 4) 3 e)

pub target_zero : (m : ℕ) → (m % 4 ≡ 3 → ⊥) → target m ≡ LevelZero (m % 4)
target_zero m ne = ap (λ (b : Bool). cond b (LevelOne ((m / 4 + 1) % 2)) (LevelZero (m % 4))) (ne_eqb (m % 4) 3 ne)

pub staying_none : (m : ℕ) → m % 4 ≡ 3 → staying m ≡ []
staying_none m e = ap (λ (b : Bool). cond b [] (places m)) (eq-eqb (m % 4) 3 e)

pub staying_all : (m : ℕ) → (m % 4 ≡ 3 → ⊥) → staying m ≡ places m
staying_all m ne = ap (λ (b : Bool). cond b [] (places m)) (ne_eqb (m % 4) 3 ne)

-- after the merge the place that it wrote is searched first, and then what stayed
pub places_next : (m : ℕ) → places (m + 1) ≡ target m ∷ staying m
places_next m = ⊎_elim
    (λ (e : m % 4 ≡ 3).
    let r : (m + 1) % 4 ≡ 0 = omega arith in
    let q : (m + 1) / 4 ≡ m / 4 + 1 = omega arith in
    ap (λ (j : ℕ). level_zero_places j ++ LevelOne ((m + 1) / 4 % 2) ∷ []) r ∙ ap (λ (n : ℕ). LevelOne (n % 2) ∷ []) q ∙ cc (target_one m e, staying_none m e))
    (λ (ne : m % 4 ≡ 3 → ⊥).
    let r : (m + 1) % 4 ≡ suc (m % 4) = omega arith in
    let q : (m + 1) / 4 ≡ m / 4 = omega arith in
    ap (λ (j : ℕ). level_zero_places j ++ LevelOne ((m + 1) / 4 % 2) ∷ []) r
    ∙ ap (λ (n : ℕ). LevelZero (m % 4) ∷ (level_zero_places (m % 4) ++ LevelOne (n % 2) ∷ [])) q ∙ cc (target_zero m ne, staying_all m ne))
    (cases_eq (m % 4) 3)

pub level_zero_free : (j i q : ℕ) → j ≤ i → IsFree (LevelZero i) (level_zero_places j ++ LevelOne q ∷ [])
level_zero_free zero i q le = (λ e. cc, tt)
level_zero_free (suc j) i q le = (λ (e : LevelZero j ≡ LevelZero i). let f : j ≡ i = cc in omega arith, level_zero_free j i q (omega arith))

pub level_one_free : (j p q : ℕ) → (q ≡ p → ⊥) → IsFree (LevelOne p) (level_zero_places j ++ LevelOne q ∷ [])
level_one_free zero p q ne = (λ (e : LevelOne q ≡ LevelOne p). ne cc, tt)
level_one_free (suc j) p q ne = (λ e. cc, level_one_free j p q ne)

-- the place to be written is none that m names
pub target_free : (m : ℕ) → IsFree (target m) (places m)
target_free m = ⊎_elim
    (λ (e : m % 4 ≡ 3). subst (λ (t : Place). IsFree t (places m)) (sym (target_one m e))
    (level_one_free (m % 4) ((m / 4 + 1) % 2) (m / 4 % 2) (λ x. omega arith)))
    (λ (ne : m % 4 ≡ 3 → ⊥). subst (λ (t : Place). IsFree t (places m)) (sym (target_zero m ne)) (level_zero_free (m % 4) (m % 4) (m / 4 % 2) (omega arith)))
    (cases_eq (m % 4) 3)

-- nor one that the component before it names, but where m + 1 is the first after a merge into level
-- 1
pub target_free_before : (m : ℕ) → ((m + 1) % 4 ≡ 0 → ⊥) → IsFree (target (m + 1)) (places m)
target_free_before m first = ⊎_elim
    (λ (e : (m + 1) % 4 ≡ 3). subst (λ (t : Place). IsFree t (places m)) (sym (target_one (m + 1) e))
    (level_one_free (m % 4) (((m + 1) / 4 + 1) % 2) (m / 4 % 2) (λ x. omega arith)))
    (λ (ne : (m + 1) % 4 ≡ 3 → ⊥). subst (λ (t : Place). IsFree t (places m)) (sym (target_zero (m + 1) ne))
    (level_zero_free (m % 4) ((m + 1) % 4) (m / 4 % 2) (omega arith)))
    (cases_eq ((m + 1) % 4) 3)

-- a place among others is not one that is free of them
pub named_not_free : (place named : Place) (ps : List Place) → IsFree place ps → Contains ps named → named ≢ place
named_not_free place named ps free names = every_contains (λ (p : Place). p ≢ place) ps named free names
