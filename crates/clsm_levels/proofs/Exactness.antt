-- What a merge leaves is exact from its floor.
use Rattle.std.proofs.Common.{◌≡◌, ℕ, ◌<◌, ◌≤◌, true, false, List, [], ◌∷◌, Option, Some, None, refl, sym, ap, ◌∙◌, arith, ⊎_elim, append-nil}
use Rattle.std.proofs.lemmas.Bool.{cases_lt}
use Rattle.clsm_model.specs.History.{History, or_else, value}
use Rattle.clsm_levels.specs.declared.entry.Entry.{Entry}
use Rattle.clsm_levels.specs.Entry.{entries_of, first_below, value_of, AreBelow, TimesFallByKey}
use Rattle.clsm_levels.specs.Run.{all_of, first_in_runs, IsExact}
use Rattle.clsm_levels.specs.Merge.{kept, merged}
use Rattle.clsm_levels.proofs.Every.{every_weaker}
use Rattle.clsm_levels.proofs.Searches.{first_below-append, first_below-same, first_below-above, first_below_none, first_in_runs-all_of}
use Rattle.clsm_levels.proofs.Histories.{entries_split, entries_from, entries_below, first_below-entries, value-entries}
use Rattle.clsm_levels.proofs.Merges.{of_key-merged}
use Rattle.clsm_levels.proofs.Orders.{times_fall-merged}
use Rattle.clsm_levels.proofs.Keeps.{value_of-kept, first_below-kept}

value_of-or_else : (o p q : Option Entry) → value_of p ≡ value_of q → value_of (or_else o p) ≡ value_of (or_else o q)
value_of-or_else (Some e) p q h = refl
value_of-or_else None p q h = h

-- the value at a time s from a on is that of the writes from a to s, or else that at a
pub value_above : (h : History) (k a s : ℕ) (older : Option Entry) → a ≤ s → value_of older ≡ value h k a
    → value_of (or_else (first_below (entries_of h.slots a s) k s) older) ≡ value h k s
value_above h k a s older le is =
    let recent = first_below (entries_of h.slots a s) k s in
    let before = first_below (entries_of h.slots 0 a) k a in
    let all : first_below (entries_of h.slots 0 s) k s ≡ or_else recent before = ap (λ (l : List Entry). first_below l k s) (entries_split h.slots a s le)
    ∙ first_below-append (entries_of h.slots a s) (entries_of h.slots 0 a) k s
    ∙ ap (or_else recent) (first_below-above (entries_of h.slots 0 a) k a s (entries_below h.slots 0 a) le) in
    value_of-or_else recent older before (is ∙ value-entries h k a) ∙ ap value_of (sym all) ∙ sym (value-entries h k s)

-- where all entries are older than a, a search above a finds what one at a finds
pub first_in_runs-above : (runs : List (List Entry)) (k a s : ℕ) → AreBelow a (all_of runs) → a ≤ s → first_in_runs runs k s ≡ first_in_runs runs k a
first_in_runs-above runs k a s older le = first_in_runs-all_of runs k s ∙ first_below-above (all_of runs) k a s older le ∙ sym (first_in_runs-all_of runs k a)

-- runs that are exact up to a, all older than a, and the writes from a to b before them are exact
-- up to b
exact_with_epoch : (h : History) (runs : List (List Entry)) (f a b : ℕ) → f ≤ a → a ≤ b → AreBelow a (all_of runs) → IsExact runs h f a
    → IsExact (entries_of h.slots a b ∷ runs) h f b
exact_with_epoch h runs f a b fa ab older exact k s fs sb =
    let epoch = entries_of h.slots a b in
    ⊎_elim
    (λ (lt : s < a).
    let none : first_below epoch k s ≡ None = first_below_none epoch k s
    (every_weaker (λ e. a ≤ e.time) (λ e. s ≤ e.time) (λ e l. omega arith) epoch (entries_from h.slots a b)) in
    ap (λ (o : Option Entry). value_of (or_else o (first_in_runs runs k s))) none ∙ exact k s fs (omega arith))
    (λ (ge : a ≤ s).
    ap (λ (o : Option Entry). value_of (or_else o (first_in_runs runs k s))) (first_below-entries h.slots a b k s sb)
    ∙ value_above h k a s (first_in_runs runs k s) ge (ap value_of (first_in_runs-above runs k a s older ge) ∙ exact k a fa (omega arith)))
    (cases_lt s a)

first_in_one : (run : List Entry) (k s : ℕ) → first_in_runs (run ∷ []) k s ≡ first_below run k s
first_in_one run k s = first_in_runs-all_of (run ∷ []) k s ∙ ap (λ (l : List Entry). first_below l k s) (append-nil run)

-- all writes below a time are exact up to it
pub exact_entries : (h : History) (b : ℕ) → IsExact (entries_of h.slots 0 b ∷ []) h 0 b
exact_entries h b k s low high = ap value_of (first_in_one (entries_of h.slots 0 b) k s ∙ first_below-entries h.slots 0 b k s high) ∙ sym (value-entries h k s)

pub exact_level_zero : (h : History) (runs : List (List Entry)) (f0 f a b : ℕ) → f0 ≤ a → a ≤ b → f0 ≤ f → TimesFallByKey (entries_of h.slots a b)
    → AreBelow a (all_of runs) → IsExact runs h f0 a → IsExact (kept f false (merged (entries_of h.slots a b)) ∷ runs) h f b
exact_level_zero h runs f0 f a b fa ab ff falls older exact k s fs sb =
    let epoch = entries_of h.slots a b in
    let same : first_below (kept f false (merged epoch)) k s ≡ first_below epoch k s =
    first_below-kept f s k (merged epoch) fs (times_fall-merged epoch falls k) ∙ first_below-same (merged epoch) epoch k s (of_key-merged epoch) in
    ap (λ (o : Option Entry). value_of (or_else o (first_in_runs runs k s))) same ∙ exact_with_epoch h runs f0 a b fa ab older exact k s (omega arith) sb

pub exact_level_one : (h : History) (runs : List (List Entry)) (f0 f a b : ℕ) → f0 ≤ a → a ≤ b → f0 ≤ f
    → TimesFallByKey (all_of (entries_of h.slots a b ∷ runs)) → AreBelow a (all_of runs) → IsExact runs h f0 a
    → IsExact (kept f true (merged (all_of (entries_of h.slots a b ∷ runs))) ∷ []) h f b
exact_level_one h runs f0 f a b fa ab ff falls older exact k s fs sb =
    let sources = entries_of h.slots a b ∷ runs in
    let all = all_of sources in
    ap value_of (first_in_one (kept f true (merged all)) k s)
    ∙ value_of-kept f s k (merged all) fs (times_fall-merged all falls k)
    ∙ ap value_of (first_below-same (merged all) all k s (of_key-merged all) ∙ sym (first_in_runs-all_of sources k s))
    ∙ exact_with_epoch h runs f0 a b fa ab older exact k s (omega arith) sb
