-- The places that hold the runs after m merges, and the place that the next merge writes.
use Rattle.std.specs.Prelude.{◌≡◌, ◌≢◌, ℕ, zero, suc, ◌+◌, ◌-◌, ◌*◌, ◌/◌, ◌%◌, ◌<◌, ◌≤◌, cond, List, [], ◌∷◌, ◌++◌, map}
use Rattle.std.specs.List.{AllByRecursion}
use Rattle.clsm_levels.specs.declared.entry.Entry.{Entry}
use Rattle.clsm_levels.specs.declared.place.Place.{Place}
use Rattle.clsm_levels.specs.declared.place.Place.TheVariants.{LevelZero, LevelOne}
use Rattle.clsm_levels.specs.Merge.{is_to_level_one}

-- the places of level 0 below j, the newest run first
abbrev pub level_zero_places : ℕ → List Place
level_zero_places zero = []
level_zero_places (suc j) = LevelZero j ∷ level_zero_places j

-- the places that hold the runs after m merges, in the order in which they are searched
abbrev pub places : ℕ → List Place
places m = level_zero_places (m % 4) ++ LevelOne (m / 4 % 2) ∷ []

-- the place that the merge from m to m + 1 writes
abbrev pub target : ℕ → Place
target m = cond (is_to_level_one m) (LevelOne ((m / 4 + 1) % 2)) (LevelZero (m % 4))

-- the places of m that still hold runs after that merge
abbrev pub staying : ℕ → List Place
staying m = cond (is_to_level_one m) [] (places m)

-- the place is not one of these
abbrev pub IsFree : Place → List Place → Type 0
IsFree place places = AllByRecursion (λ named. named ≢ place) places

-- the first epoch whose writes the place may hold after m merges
abbrev pub first_epoch : ℕ → Place → ℕ
first_epoch m (LevelZero i) = m - m % 4 + i
first_epoch m (LevelOne i) = 0

-- the first epoch after those
abbrev pub end_epoch : ℕ → Place → ℕ
end_epoch m (LevelZero i) = m - m % 4 + i + 1
end_epoch m (LevelOne i) = m - m % 4

-- the runs that places hold
abbrev pub runs_at : (Place → List Entry) → List Place → List (List Entry)
runs_at held places = map held places

-- each entry's time lies in the epochs, of n times each, that the place holds after m merges
abbrev pub IsWithin : ℕ → ℕ → Place → List Entry → Type 0
IsWithin n m place run = AllByRecursion (λ e. (first_epoch m place * n ≤ e.time) × (e.time < end_epoch m place * n)) run

-- each run of m has only times of its place
abbrev pub AreWithin : ℕ → ℕ → (Place → List Entry) → Type 0
AreWithin n m held = AllByRecursion (λ place. IsWithin n m place (held place)) (places m)

-- the run is written into one place
pub record WritesRun (held held' : Place → List Entry) (place : Place) (run : List Entry) : Type 0 where
  pub written : held' place ≡ run
  pub others : (other : Place) → other ≢ place → held' other ≡ held other
