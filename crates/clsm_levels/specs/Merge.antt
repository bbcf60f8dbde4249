-- What a merge writes: entries by rising key, and of those what is kept.
use Rattle.std.specs.Prelude.{ℕ, ◌==◌, ◌%◌, nat_lt, nat_le, ◌&&◌, not, Bool, true, false, cond, List, [], ◌∷◌, ◌++◌, filter}
use Rattle.clsm_levels.specs.declared.entry.Entry.{Entry}
use Rattle.clsm_levels.specs.Entry.{is_removal}
use Rattle.clsm_levels.specs.Run.{all_of}

-- put before the entries of its key
abbrev pub insert_entry : Entry → List Entry → List Entry
insert_entry e [] = e ∷ []
insert_entry e (x ∷ xs) = cond (nat_lt x.key e.key) (x ∷ insert_entry e xs) (e ∷ x ∷ xs)

-- the entries by rising key; those of one key stay in their order
abbrev pub merged : List Entry → List Entry
merged [] = []
merged (e ∷ es) = insert_entry e (merged es)

-- all but the entries of the key k with a time below the floor
abbrev pub without_below : ℕ → ℕ → List Entry → List Entry
without_below k floor es = filter (λ e. not (e.key == k && nat_lt e.time floor)) es

-- What a merge keeps: all at or above the floor, and of each key the first below it,
-- unless that is a removal and goes to level 1.
abbrev pub kept : ℕ → Bool → List Entry → List Entry
kept floor to_level_one [] = []
kept floor to_level_one (e ∷ es) =
    cond (nat_le floor e.time) (e ∷ kept floor to_level_one es)
    (cond (to_level_one && is_removal e) [] (e ∷ []) ++ without_below e.key floor (kept floor to_level_one es))

-- each fourth merge writes level 1
abbrev pub is_to_level_one : ℕ → Bool
is_to_level_one m = m % 4 == 3

-- What the merge from m to m + 1 writes: the epoch's entries into level 0, or those and all runs
-- into level 1.
abbrev pub wanted : ℕ → ℕ → List Entry → List (List Entry) → List Entry
wanted m floor epoch runs = cond (is_to_level_one m) (kept floor true (merged (all_of (epoch ∷ runs)))) (kept floor false (merged epoch))
