-- What a merge keeps and what it leaves, in the words of the rule.
use Rattle.std.specs.Prelude.{◌≡◌, ℕ, ◌+◌, ◌*◌, ◌<◌, ◌≤◌, ◌⊎◌, ◌↔◌, Bool, false, cond, List, ◌∷◌}
use Rattle.std.specs.List.{AllByRecursion, Contains}
use Rattle.clsm_model.specs.History.{History}
use Rattle.clsm_levels.specs.declared.entry.Entry.{Entry}
use Rattle.clsm_levels.specs.declared.place.Place.{Place}
use Rattle.clsm_levels.specs.Entry.{entries_of, is_removal, TimesFallByKey}
use Rattle.clsm_levels.specs.Run.{all_of}
use Rattle.clsm_levels.specs.Merge.{is_to_level_one}
use Rattle.clsm_levels.specs.Content.{IsContent}
use Rattle.clsm_levels.specs.Place.{places, target, runs_at, WritesRun}

-- the entry is below the floor, and of its key there is none that is newer and below the floor
pub record IsNewestBelow (floor : ℕ) (es : List Entry) (e : Entry) : Type 0 where
  pub below : e.time < floor
  pub newest : AllByRecursion (λ x. x.key ≡ e.key → x.time < floor → x.time ≤ e.time) es

-- a removal below the floor is needed in level 0 alone, where it hides the older entries of its key
abbrev pub IsNeeded : Bool → Entry → Type 0
IsNeeded to_level_one e = (to_level_one ≡ false) ⊎ (is_removal e ≡ false)

-- an entry stays at or above the floor, and below it where it is the newest of its key there and
-- needed
abbrev pub Stays : ℕ → Bool → List Entry → Entry → Type 0
Stays floor to_level_one es e = (floor ≤ e.time) ⊎ (IsNewestBelow floor es e × IsNeeded to_level_one e)

-- what the merge from m reads
abbrev pub sources : ℕ → List Entry → List (List Entry) → List Entry
sources m epoch runs = cond (is_to_level_one m) (all_of (epoch ∷ runs)) epoch

-- of what the merge from m reads, where that falls in each key, the run has exactly the entries
-- that stay
abbrev pub KeepsByRule : ℕ → ℕ → List Entry → List (List Entry) → List Entry → Type 0
KeepsByRule m floor epoch runs run = TimesFallByKey (sources m epoch runs) → (e : Entry)
    → Contains run e ↔ (Contains (sources m epoch runs) e × Stays floor (is_to_level_one m) (sources m epoch runs) e)

-- Written into its target, the run makes the component m + 1 of the component m:
-- a content from the floor to the end of the epoch, which has n times.
abbrev pub MakesNext : ℕ → ℕ → List Entry → List (List Entry) → List Entry → Type 0
MakesNext m floor epoch runs run = (h : History) (held held' : Place → List Entry) (n f : ℕ) → epoch ≡ entries_of h.slots (m * n) ((m + 1) * n) → runs
    ≡ runs_at held (places m) → WritesRun held held' (target m) run → f ≤ floor → f ≤ m * n → IsContent h (runs_at held (places m)) f (m * n)
    → IsContent h (runs_at held' (places (m + 1))) floor ((m + 1) * n)
