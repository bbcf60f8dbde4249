-- Entries by rising key: those of each key stay as they were.
use Rattle.std.proofs.Common.{◌≡◌, ℕ, ◌≤◌, ◌==◌, nat_lt, Bool, true, false, cond, suc, List, [], ◌∷◌, ◌++◌, map, length, refl, sym, ap, ◌∙◌, arith}
use Rattle.std.proofs.Common.{append-nil, append_assoc}
use Rattle.std.proofs.lemmas.Bool.Decides.{nat_tests}
use Rattle.std.proofs.lemmas.Bool.{ltb-true, ltb-false}
use Rattle.std.specs.List.{AllByRecursion}
use Rattle.clsm_levels.specs.declared.entry.Entry.{Entry}
use Rattle.clsm_levels.specs.Entry.{of_key}
use Rattle.clsm_levels.specs.Merge.{insert_entry, merged, kept, is_to_level_one, wanted}
use Rattle.clsm_levels.specs.Rule.{sources}
use Rattle.clsm_levels.specs.Run.{all_of}
use Rattle.clsm_levels.specs.Pass.{RisesByKey}
use Rattle.clsm_levels.proofs.Every.{every_weaker, every-cond}
use Rattle.clsm_levels.proofs.Searches.{SameByKey}

of_key-insert : (k : ℕ) (e : Entry) (xs : List Entry) → of_key k (insert_entry e xs) ≡ of_key k (e ∷ xs)
of_key-insert k e [] = refl
of_key-insert k e (x ∷ xs) = let h = of_key-insert k e xs in grind (arith, nat_tests)

pub of_key-merged : (xs : List Entry) → SameByKey (merged xs) xs
of_key-merged [] k = refl
of_key-merged (e ∷ es) k = of_key-insert k e (merged es) ∙ ap (λ (l : List Entry). cond (e.key == k) (e ∷ l) l) (of_key-merged es k)

every-insert : (P : Entry → Type 0) (e : Entry) (xs : List Entry) → P e → AllByRecursion P xs → AllByRecursion P (insert_entry e xs)
every-insert P e [] p h = (p, tt)
every-insert P e (x ∷ xs) p h = every-cond P (nat_lt x.key e.key) _ _ (λ t. (h.0, every-insert P e xs p h.1)) (λ t. (p, (h.0, h.1)))

-- what holds of each entry holds of each that is merged
pub every-merged : (P : Entry → Type 0) (xs : List Entry) → AllByRecursion P xs → AllByRecursion P (merged xs)
every-merged P [] h = tt
every-merged P (e ∷ es) h = every-insert P e (merged es) h.0 (every-merged P es h.1)

keys_rise-insert : (e : Entry) (xs : List Entry) → RisesByKey xs → RisesByKey (insert_entry e xs)
keys_rise-insert e [] h = (tt, tt)
keys_rise-insert e (x ∷ xs) h = elim (nat_lt x.key e.key) as (λ (t : Bool). nat_lt x.key e.key ≡ t → RisesByKey (cond t (x ∷ insert_entry e xs) (e ∷ x ∷ xs))) [
  | true ↦ λ t. let lt = ltb-true x.key e.key t in (every-insert (λ y. x.key ≤ y.key) e xs (omega arith) h.0, keys_rise-insert e xs h.1)
  | false ↦ λ t. let le = ltb-false x.key e.key t in ((le, every_weaker (λ y. x.key ≤ y.key) (λ y. e.key ≤ y.key) (λ y l. omega arith) xs h.0), (h.0, h.1))
] refl

pub keys_rise-merged : (xs : List Entry) → RisesByKey (merged xs)
keys_rise-merged [] = tt
keys_rise-merged (e ∷ es) = keys_rise-insert e (merged es) (keys_rise-merged es)

length-insert_entry : (e : Entry) (xs : List Entry) → length (insert_entry e xs) ≡ suc (length xs)
length-insert_entry e [] = refl
length-insert_entry e (x ∷ xs) =
    elim (nat_lt x.key e.key) as (λ (t : Bool). length (cond t (x ∷ insert_entry e xs) (e ∷ x ∷ xs)) ≡ suc (suc (length xs))) [
      | true ↦ ap suc
          (length-insert_entry e xs)
      | false ↦ refl
    ]

pub length-merged : (xs : List Entry) → length (merged xs) ≡ length xs
length-merged [] = refl
length-merged (e ∷ es) = length-insert_entry e (merged es) ∙ ap suc (length-merged es)

-- ---- what a merge reads

-- one run more stands behind the others
pub all_of-push : {V : Type 0} (entries : V → List Entry) (runs : List V) (run : V) → all_of (map entries (runs ++ run ∷ []))
    ≡ all_of (map entries runs) ++ entries run
all_of-push entries [] run = append-nil (entries run)
all_of-push entries (first ∷ runs) run = ap (λ (l : List Entry). entries first ++ l) (all_of-push entries runs run)
    ∙ sym (append_assoc (entries first) (all_of (map entries runs)) (entries run))

-- what is kept of the sources by rising key is what is wanted
pub wanted_from_sources : (m floor : ℕ) (epoch : List Entry) (runs : List (List Entry)) (es run : List Entry) → es ≡ merged (sources m epoch runs) → run
    ≡ kept floor (is_to_level_one m) es → run ≡ wanted m floor epoch runs
wanted_from_sources m floor epoch runs es run sorted made =
    let all = all_of (epoch ∷ runs) in
    let both : kept floor (is_to_level_one m) (merged (sources m epoch runs)) ≡ wanted m floor epoch runs =
    elim (is_to_level_one m) as (λ (b : Bool). kept floor b (merged (cond b all epoch)) ≡ cond b (kept floor true (merged all))
    (kept floor false (merged epoch))) [ true ↦ refl | false ↦ refl ] in
    made ∙ ap (kept floor (is_to_level_one m)) sorted ∙ both
