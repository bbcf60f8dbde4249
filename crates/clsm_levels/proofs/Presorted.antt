-- What a merge wants does not depend on whether the epoch's entries come by rising key.
use Rattle.std.proofs.Common.{◌≡◌, ℕ, Bool, true, false, cond, List, [], ◌∷◌, ◌++◌, sym, ap, ◌∙◌, append-nil}
use Rattle.clsm_levels.specs.declared.entry.Entry.{Entry}
use Rattle.clsm_levels.specs.Run.{all_of}
use Rattle.clsm_levels.specs.Merge.{merged, kept, is_to_level_one, wanted}
use Rattle.clsm_levels.proofs.Searches.{SameByKey, same_in_front}
use Rattle.clsm_levels.proofs.Merges.{keys_rise-merged, of_key-merged}
use Rattle.clsm_levels.proofs.Sorts.{same_by_key_equal}

-- the same entries of each key in the same order are merged to the same
pub merged_same : (xs ys : List Entry) → SameByKey xs ys → merged xs ≡ merged ys
merged_same xs ys same = same_by_key_equal (merged xs) (merged ys) (keys_rise-merged xs) (keys_rise-merged ys)
    (λ k. of_key-merged xs k ∙ same k ∙ sym (of_key-merged ys k))

-- entries in front may be merged beforehand
pub merged_in_front : (xs ys : List Entry) → merged (merged xs ++ ys) ≡ merged (xs ++ ys)
merged_in_front xs ys = merged_same (merged xs ++ ys) (xs ++ ys) (same_in_front (merged xs) xs ys (of_key-merged xs))

-- what is kept of the epoch by rising key, and of the runs behind it where the merge writes level
-- 1, is what is wanted
pub wanted_of_sorted : (m floor : ℕ) (epoch : List Entry) (runs : List (List Entry))
    → kept floor (is_to_level_one m) (merged (all_of (merged epoch ∷ cond (is_to_level_one m) runs []))) ≡ wanted m floor epoch runs
wanted_of_sorted m floor epoch runs =
    elim (is_to_level_one m) as (λ (one : Bool). kept floor one (merged (all_of (merged epoch ∷ cond one runs []))) ≡ cond one
    (kept floor true (merged (all_of (epoch ∷ runs)))) (kept floor false (merged epoch))) [
      | true ↦ ap (kept floor true) (merged_in_front epoch (all_of runs))
      | false ↦ ap (kept floor false) (merged_in_front epoch [] ∙ ap merged (append-nil epoch))
    ]
