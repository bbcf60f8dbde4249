-- The one pass over entries by rising key, which finds what is kept.
use Rattle.std.specs.Prelude.{ℕ, ◌≤◌, ◌==◌, nat_le, ◌&&◌, Bool, false, cond, List, [], ◌∷◌, ◌++◌, Option, Some, None}
use Rattle.std.specs.List.{AllByRecursion}
use Rattle.clsm_levels.specs.declared.entry.Entry.{Entry}
use Rattle.clsm_levels.specs.Entry.{is_removal}

-- by rising key
abbrev pub RisesByKey : List Entry → Type 0
RisesByKey [] = Unit {0}
RisesByKey (e ∷ es) = AllByRecursion (λ x. e.key ≤ x.key) es × RisesByKey es

-- the key is there, and it is this one
abbrev pub is_key : Option ℕ → ℕ → Bool
is_key None k = false
is_key (Some j) k = j == k

-- what is kept of the entries that follow, where an entry below the floor was last of the key
-- `settled`
abbrev pub kept_after : Option ℕ → ℕ → Bool → List Entry → List Entry
kept_after settled floor to_level_one [] = []
kept_after settled floor to_level_one (e ∷ es) =
    cond (nat_le floor e.time) (e ∷ kept_after settled floor to_level_one es)
    (cond (is_key settled e.key) [] (cond (to_level_one && is_removal e) [] (e ∷ [])) ++ kept_after (Some e.key) floor to_level_one es)
