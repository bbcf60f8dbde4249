-- Sorted runs, and the search through several of them.
use Rattle.std.specs.Prelude.{◌≡◌, ℕ, ◌<◌, ◌≤◌, ◌⊎◌, ◌==◌, nat_lt, ◌&&◌, ◌||◌, Bool, List, [], ◌∷◌, ◌++◌, Option, None}
use Rattle.std.specs.List.{AllByRecursion}
use Rattle.clsm_model.specs.History.{History, or_else, value}
use Rattle.clsm_levels.specs.declared.entry.Entry.{Entry}
use Rattle.clsm_levels.specs.Entry.{first_below, value_of}

-- x stands before y in a run: by rising key, and within a key by falling time
abbrev pub ComesBefore : Entry → Entry → Type 0
ComesBefore x y = (x.key < y.key) ⊎ ((x.key ≡ y.key) × (y.time < x.time))

-- whether x stands before y in a run
abbrev pub comes_before : Entry → Entry → Bool
comes_before x y = nat_lt x.key y.key || (x.key == y.key && nat_lt y.time x.time)

-- each entry stands before those behind it
abbrev pub IsRun : List Entry → Type 0
IsRun [] = Unit {0}
IsRun (e ∷ es) = AllByRecursion (ComesBefore e) es × IsRun es

-- the entries of several runs, one run after another
abbrev pub all_of : List (List Entry) → List Entry
all_of [] = []
all_of (run ∷ runs) = run ++ all_of runs

-- what a search of the runs in their order finds: the first entry of the key k with a time below s
abbrev pub first_in_runs : List (List Entry) → ℕ → ℕ → Option Entry
first_in_runs [] k s = None
first_in_runs (run ∷ runs) k s = or_else (first_below run k s) (first_in_runs runs k s)

-- at each time from a to b the search of the runs gives each key its value
abbrev pub IsExact : List (List Entry) → History → ℕ → ℕ → Type 0
IsExact runs h a b = (k s : ℕ) → a ≤ s → s ≤ b → value_of (first_in_runs runs k s) ≡ value h k s
