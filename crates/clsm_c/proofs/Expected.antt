-- Rows and counts become conditions one by one.
use Rattle.std.proofs.Common.{◌+◌, ◌<◌, ◌++◌, ◌∷◌, [], ℕ, List, get_or, length, subst, sym, take}
use Rattle.std.proofs.lemmas.List.{take_more}
use Rattle.clsm_store_calls.specs.declared.conditions.Condition.{Condition}
use Rattle.clsm_c.specs.declared.types.CoreRangeCount.{CoreRangeCount}
use Rattle.clsm_c.specs.declared.types.CoreRow.{CoreRow}
use Rattle.clsm_c.specs.Conditional.{AreConditions, IsCounted, IsExpected}

one_row : (rows : List CoreRow) (conditions : List Condition) (row : CoreRow) (condition : Condition) → AreConditions rows [] conditions
    → IsExpected row condition → AreConditions (rows ++ row ∷ []) [] (conditions ++ condition ∷ [])
one_row [] [] row condition are is = (is, tt)
one_row [] (c ∷ conditions) row condition are is = elim are [ ]
one_row (x ∷ rows) [] row condition are is = elim are [ ]
one_row (x ∷ rows) (c ∷ conditions) row condition are is = (are.0, one_row rows conditions row condition are.1 is)

-- the next row is a condition
pub row_made : (rows : List CoreRow) (conditions : List Condition) (i : ℕ) (d : CoreRow) (condition : Condition) → i < length rows
    → AreConditions (take i rows) [] conditions → IsExpected (get_or rows i d) condition
    → AreConditions (take (i + 1) rows) [] (conditions ++ condition ∷ [])
row_made rows conditions i d condition some are is =
    subst (λ (new : List CoreRow). AreConditions new [] (conditions ++ condition ∷ [])) (sym (take_more rows i d some))
    (one_row (take i rows) conditions (get_or rows i d) condition are is)

one_count : (rows : List CoreRow) (counts : List CoreRangeCount) (conditions : List Condition) (count : CoreRangeCount) (condition : Condition)
    → AreConditions rows counts conditions → IsCounted count condition → AreConditions rows (counts ++ count ∷ []) (conditions ++ condition ∷ [])
one_count [] [] [] count condition are is = (is, tt)
one_count [] [] (c ∷ conditions) count condition are is = elim are [ ]
one_count [] (x ∷ counts) [] count condition are is = elim are [ ]
one_count [] (x ∷ counts) (c ∷ conditions) count condition are is = (are.0, one_count [] counts conditions count condition are.1 is)
one_count (x ∷ rows) counts [] count condition are is = elim are [ ]
one_count (x ∷ rows) counts (c ∷ conditions) count condition are is = (are.0, one_count rows counts conditions count condition are.1 is)

-- the next count is a condition
pub count_made : (rows : List CoreRow) (counts : List CoreRangeCount) (conditions : List Condition) (i : ℕ) (d : CoreRangeCount) (condition : Condition)
    → i < length counts → AreConditions rows (take i counts) conditions → IsCounted (get_or counts i d) condition
    → AreConditions rows (take (i + 1) counts) (conditions ++ condition ∷ [])
count_made rows counts conditions i d condition some are is =
    subst (λ (new : List CoreRangeCount). AreConditions rows new (conditions ++ condition ∷ [])) (sym (take_more counts i d some))
    (one_count rows (take i counts) conditions (get_or counts i d) condition are is)
