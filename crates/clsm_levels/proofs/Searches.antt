-- The search of entries: joined lists, one key, and times.
use Rattle.std.proofs.Common.{◌≡◌, ℕ, ◌<◌, ◌≤◌, ◌==◌, nat_lt, ◌&&◌, Bool, true, false, cond, List, [], ◌∷◌, ◌++◌, Some, None, refl, sym, ap, ◌∙◌, arith}
use Rattle.std.proofs.lemmas.Bool.Decides.{nat_tests}
use Rattle.std.proofs.lemmas.Bool.{lt-ltb, and_left, and_from}
use Rattle.std.proofs.lemmas.List.Elements.{filter-append}
use Rattle.std.specs.List.{AllByRecursion}
use Rattle.clsm_model.specs.History.{or_else}
use Rattle.clsm_levels.specs.declared.entry.Entry.{Entry}
use Rattle.clsm_levels.specs.Entry.{of_key, first_below, AreBelow}
use Rattle.clsm_levels.specs.Run.{all_of, first_in_runs}

-- the same entries of each key in the same order
abbrev pub SameByKey : List Entry → List Entry → Type 0
SameByKey xs ys = (k : ℕ) → of_key k xs ≡ of_key k ys

pub first_below-append : (xs ys : List Entry) (k s : ℕ) → first_below (xs ++ ys) k s ≡ or_else (first_below xs k s) (first_below ys k s)
first_below-append [] ys k s = refl
first_below-append (e ∷ es) ys k s =
    elim (e.key == k && nat_lt e.time s) as (λ (b : Bool). cond b (Some e) (first_below (es ++ ys) k s) ≡ or_else (cond b (Some e) (first_below es k s))
    (first_below ys k s)) [ true ↦ refl | false ↦ first_below-append es ys k s ]

-- a search of several runs is one of all their entries
pub first_in_runs-all_of : (runs : List (List Entry)) (k s : ℕ) → first_in_runs runs k s ≡ first_below (all_of runs) k s
first_in_runs-all_of [] k s = refl
first_in_runs-all_of (run ∷ runs) k s = ap (or_else (first_below run k s)) (first_in_runs-all_of runs k s) ∙ sym (first_below-append run (all_of runs) k s)

pub first_below_here : (e : Entry) (es : List Entry) (k s : ℕ) → (e.key == k) ≡ true → e.time < s → first_below (e ∷ es) k s ≡ Some e
first_below_here e es k s is lt = ap (λ (b : Bool). cond b (Some e) (first_below es k s)) (and_from (e.key == k) (nat_lt e.time s) is (lt-ltb e.time s lt))

pub first_below_other : (e : Entry) (es : List Entry) (k s : ℕ) → (e.key == k) ≡ false → first_below (e ∷ es) k s ≡ first_below es k s
first_below_other e es k s is = ap (λ (b : Bool). cond b (Some e) (first_below es k s)) (and_left (e.key == k) (nat_lt e.time s) is)

pub first_below_newer : (e : Entry) (es : List Entry) (k s : ℕ) → s ≤ e.time → first_below (e ∷ es) k s ≡ first_below es k s
first_below_newer e es k s le = grind (arith, nat_tests)

-- only the entries of the key count
pub first_below-of_key : (xs : List Entry) (k s : ℕ) → first_below xs k s ≡ first_below (of_key k xs) k s
first_below-of_key [] k s = refl
first_below-of_key (e ∷ es) k s = let h = first_below-of_key es k s in grind (arith, nat_tests)

pub first_below-same : (xs ys : List Entry) (k s : ℕ) → SameByKey xs ys → first_below xs k s ≡ first_below ys k s
first_below-same xs ys k s same = first_below-of_key xs k s ∙ ap (λ (l : List Entry). first_below l k s) (same k) ∙ sym (first_below-of_key ys k s)

-- where no time is at or above a, a search above a finds what a search at a finds
pub first_below-above : (xs : List Entry) (k a s : ℕ) → AreBelow a xs → a ≤ s → first_below xs k s ≡ first_below xs k a
first_below-above [] k a s h le = refl
first_below-above (e ∷ es) k a s h le = let lt : e.time < a = h.0 in let r = first_below-above es k a s h.1 le in grind (arith, nat_tests)

-- nothing is found where no time is below s
pub first_below_none : (xs : List Entry) (k s : ℕ) → AllByRecursion (λ e. s ≤ e.time) xs → first_below xs k s ≡ None
first_below_none [] k s h = refl
first_below_none (e ∷ es) k s h = let le : s ≤ e.time = h.0 in let r = first_below_none es k s h.1 in grind (arith, nat_tests)

-- ---- the entries of one key

pub of_key-append : (k : ℕ) (xs ys : List Entry) → of_key k (xs ++ ys) ≡ of_key k xs ++ of_key k ys
of_key-append k xs ys = filter-append (λ (e : Entry). e.key == k) xs ys

pub same_in_front : (xs xs' ys : List Entry) → SameByKey xs xs' → SameByKey (xs ++ ys) (xs' ++ ys)
same_in_front xs xs' ys same k = of_key-append k xs ys ∙ ap (λ (l : List Entry). l ++ of_key k ys) (same k) ∙ sym (of_key-append k xs' ys)
