-- A run is in the order of its keys, and the entries of each key fall in time.
use Rattle.std.proofs.Common.{◌≡◌, ℕ, ◌<◌, ◌≤◌, ◌==◌, Bool, true, false, cond, List, [], ◌∷◌, ◌++◌, filter, refl, sym, ◌∙◌, arith, subst, ⊎_elim, inl, inr}
use Rattle.std.proofs.lemmas.Bool.{eq-eqb, eqb-true, eqb-false, cases_eq}
use Rattle.std.specs.List.{AllByRecursion}
use Rattle.clsm_levels.specs.declared.entry.Entry.{Entry}
use Rattle.clsm_levels.specs.Entry.{of_key, AreBelow, TimesFall, TimesFallByKey}
use Rattle.clsm_levels.specs.Run.{ComesBefore, IsRun}
use Rattle.clsm_levels.specs.Merge.{merged}
use Rattle.clsm_levels.specs.Pass.{RisesByKey}
use Rattle.clsm_levels.proofs.Every.{every-append, every_weaker, every_both, every-cond, every-filter}
use Rattle.clsm_levels.proofs.Searches.{of_key-append}
use Rattle.clsm_levels.proofs.Merges.{keys_rise-merged, of_key-merged}

comes_before_key : (x y : Entry) → ComesBefore x y → x.key ≤ y.key
comes_before_key x y b = grind arith

comes_before_time : (x y : Entry) → ComesBefore x y → x.key ≡ y.key → y.time < x.time
comes_before_time x y b e = grind arith

comes_before_from : (x y : Entry) → x.key ≤ y.key → (y.key ≡ x.key → y.time < x.time) → ComesBefore x y
comes_before_from x y le f = ⊎_elim (λ (e : y.key ≡ x.key). inr (sym e, f e)) (λ (ne : y.key ≡ x.key → ⊥). inl (omega arith)) (cases_eq y.key x.key)

pub keys_rise-run : (xs : List Entry) → IsRun xs → RisesByKey xs
keys_rise-run [] r = tt
keys_rise-run (x ∷ xs) r = (every_weaker (ComesBefore x) (λ y. x.key ≤ y.key) (λ y b. comes_before_key x y b) xs r.0, keys_rise-run xs r.1)

-- what holds of the entries of one key, said of all
of_key_all : (P : Entry → Type 0) (k : ℕ) (xs : List Entry) → AllByRecursion P (of_key k xs) → AllByRecursion (λ y. y.key ≡ k → P y) xs
of_key_all P k [] h = tt
of_key_all P k (x ∷ xs) h = elim (x.key == k) as (λ (t : Bool). (x.key == k) ≡ t → AllByRecursion P (cond t (x ∷ of_key k xs) (of_key k xs))
    → (x.key ≡ k → P x) × AllByRecursion (λ y. y.key ≡ k → P y) xs) [
      | true ↦ λ t g. (λ e. g.0, of_key_all P k xs g.1)
      | false ↦ λ t g. (λ e. absurd (eqb-false x.key k t e), of_key_all P k xs g)
    ] refl h

all_of_key : (P : Entry → Type 0) (k : ℕ) (xs : List Entry) → AllByRecursion (λ y. y.key ≡ k → P y) xs → AllByRecursion P (of_key k xs)
all_of_key P k [] h = tt
all_of_key P k (x ∷ xs) h = every-cond P (x.key == k) _ _ (λ t. (h.0 (eqb-true x.key k t), all_of_key P k xs h.1)) (λ t. all_of_key P k xs h.1)

pub times_fall_rest : (k : ℕ) (x : Entry) (xs : List Entry) → TimesFall (of_key k (x ∷ xs)) → TimesFall (of_key k xs)
times_fall_rest k x xs f = elim (x.key == k) as (λ (t : Bool). TimesFall (cond t (x ∷ of_key k xs) (of_key k xs))
    → TimesFall (of_key k xs)) [ true ↦ λ g. g.1 | false ↦ λ g. g ] f

-- behind an entry those of its key are older
pub older_behind : (x : Entry) (xs : List Entry) → TimesFall (of_key x.key (x ∷ xs)) → AllByRecursion (λ y. y.key ≡ x.key → y.time < x.time) xs
older_behind x xs f =
    let mine : TimesFall (x ∷ of_key x.key xs) = subst (λ (t : Bool). TimesFall (cond t (x ∷ of_key x.key xs) (of_key x.key xs))) (eq-eqb x.key x.key refl) f in
    of_key_all (λ y. y.time < x.time) x.key xs mine.0

-- rising keys and falling times in each key make a run
pub run_from_keys : (xs : List Entry) → RisesByKey xs → TimesFallByKey xs → IsRun xs
run_from_keys [] r f = tt
run_from_keys (x ∷ xs) r f = (
  every_weaker (λ y. (x.key ≤ y.key) × (y.key ≡ x.key → y.time < x.time)) (ComesBefore x) (λ y b. comes_before_from x y b.0 b.1) xs
      (every_both (λ y. x.key ≤ y.key) (λ y. y.key ≡ x.key → y.time < x.time) xs r.0 (older_behind x xs (f x.key))),
  run_from_keys xs r.1 (λ k. times_fall_rest k x xs (f k)),
)

pub times_fall-run : (xs : List Entry) → IsRun xs → TimesFallByKey xs
times_fall-run [] r k = tt
times_fall-run (x ∷ xs) r k = elim (x.key == k) as (λ (t : Bool). (x.key == k) ≡ t → TimesFall (cond t (x ∷ of_key k xs) (of_key k xs))) [
  | true ↦ λ t. let e = eqb-true x.key k t in (
    all_of_key (λ y. y.time < x.time) k xs (every_weaker (ComesBefore x) (λ y. y.key ≡ k → y.time < x.time)
        (λ y b i. comes_before_time x y b (e ∙ sym i)) xs r.0),
    times_fall-run xs r.1 k,
  )
  | false ↦ λ t. times_fall-run xs r.1 k
] refl

-- a part of a run is a run
pub run-filter : (p : Entry → Bool) (xs : List Entry) → IsRun xs → IsRun (filter p xs)
run-filter p [] r = tt
run-filter p (x ∷ xs) r = elim (p x) as (λ (t : Bool). IsRun (cond t (x ∷ filter p xs) (filter p xs))) [
  | true ↦
      (every-filter (ComesBefore x) p xs r.0, run-filter p xs r.1)
  | false ↦ run-filter p xs r.1
]

-- what falls in time falls in each key
pub times_fall-of_key : (xs : List Entry) → TimesFall xs → TimesFallByKey xs
times_fall-of_key [] f k = tt
times_fall-of_key (x ∷ xs) f k =
    elim (x.key == k) as (λ (t : Bool). TimesFall (cond t (x ∷ of_key k xs) (of_key k xs))) [
      | true ↦
          (every-filter (λ e. e.time < x.time) (λ e. e.key == k) xs f.0, times_fall-of_key xs f.1 k)
      | false ↦ times_fall-of_key xs f.1 k
    ]

-- newer entries before older ones
times_fall-append : (a : ℕ) (xs ys : List Entry) → TimesFall xs → TimesFall ys → AllByRecursion (λ e. a ≤ e.time) xs → AreBelow a ys → TimesFall (xs ++ ys)
times_fall-append a [] ys f g h i = g
times_fall-append a (x ∷ xs) ys f g h i = (
  every-append (λ e. e.time < x.time) xs ys f.0 (every_weaker (λ e. e.time < a) (λ e. e.time < x.time) (λ e l. later x e h.0 l) ys i),
  times_fall-append a xs ys f.1 g h.1 i,
) where
  later : (x e : Entry) → a ≤ x.time → e.time < a → e.time < x.time
  later x e h l = omega arith

pub times_fall_by_key-append : (a : ℕ) (xs ys : List Entry) → TimesFallByKey xs → TimesFallByKey ys → AllByRecursion (λ e. a ≤ e.time) xs → AreBelow a ys
    → TimesFallByKey (xs ++ ys)
times_fall_by_key-append a xs ys f g h i k =
    subst TimesFall (sym (of_key-append k xs ys)) (times_fall-append a (of_key k xs) (of_key k ys) (f k) (g k)
    (every-filter (λ e. a ≤ e.time) (λ e. e.key == k) xs h) (every-filter (λ e. e.time < a) (λ e. e.key == k) ys i))

-- entries of which those of each key fall in time are merged to a run
pub times_fall-merged : (xs : List Entry) → TimesFallByKey xs → TimesFallByKey (merged xs)
times_fall-merged xs f k = subst TimesFall (sym (of_key-merged xs k)) (f k)

pub run-merged : (xs : List Entry) → TimesFallByKey xs → IsRun (merged xs)
run-merged xs f = run_from_keys (merged xs) (keys_rise-merged xs) (times_fall-merged xs f)
