-- Which run is searched at which turn.
use Rattle.std.proofs.Common.{◌≡◌, ℕ, zero, suc, ◌+◌, ◌-◌, ◌/◌, ◌%◌, ◌<◌, ◌≤◌, List, [], ◌∷◌, ◌++◌, map, refl, ap, subst, sym, ◌∙◌, arith, slice_index_or}
use Rattle.clsm_levels.specs.declared.entry.Entry.{Entry}
use Rattle.clsm_levels.specs.declared.place.Place.{Place}
use Rattle.clsm_levels.specs.declared.place.Place.TheVariants.{LevelOne}
use Rattle.clsm_levels.specs.Cursors.{row_at}
use Rattle.clsm_levels.specs.Place.{level_zero_places}
use Rattle.clsm_law.specs.Memory.{Memory}
use Rattle.clsm_law.specs.Places.{entries_in, held_at}
use Rattle.clsm_law.specs.Worlds.{runs_of}

-- the runs of so many places of level 0, and of one of level 1
abbrev rows : Memory → ℕ → ℕ → List (List Entry)
rows memory j q = map (held_at memory) (level_zero_places j ++ LevelOne q ∷ [])

young : (memory : Memory) (j q turn p : ℕ) → turn + p + 1 ≡ j → row_at (rows memory j q) turn ≡ entries_in memory p
young memory zero q turn p sum = absurd (omega arith)
young memory (suc j) q zero p sum = let same : j ≡ p = omega arith in ap (entries_in memory) same
young memory (suc j) q (suc turn) p sum = young memory j q turn p (omega arith)

old : (memory : Memory) (j q turn : ℕ) → turn ≡ j → row_at (rows memory j q) turn ≡ entries_in memory (3 + q)
old memory zero q zero same = refl
old memory zero q (suc turn) same = absurd (omega arith)
old memory (suc j) q zero same = absurd (omega arith)
old memory (suc j) q (suc turn) same = old memory j q turn (omega arith)

behind : (memory : Memory) (j q turn : ℕ) → j < turn → row_at (rows memory j q) turn ≡ []
behind memory zero q zero more = absurd (omega arith)
behind memory zero q (suc turn) more = refl
behind memory (suc j) q zero more = absurd (omega arith)
behind memory (suc j) q (suc turn) more = behind memory j q turn (omega arith)

-- the newest of level 0 is searched first
pub young_turn : (memory : Memory) (m turn p : ℕ) → turn + p + 1 ≡ m % 4 → row_at (runs_of memory m) turn ≡ entries_in memory p
young_turn memory m turn p sum = young memory (m % 4) (m / 4 % 2) turn p sum

-- behind them that of level 1
pub old_turn : (memory : Memory) (m turn : ℕ) → turn ≡ m % 4 → row_at (runs_of memory m) turn ≡ entries_in memory (3 + m / 4 % 2)
old_turn memory m turn same = old memory (m % 4) (m / 4 % 2) turn same

-- and then none
pub no_turn : (memory : Memory) (m turn : ℕ) → m % 4 < turn → row_at (runs_of memory m) turn ≡ []
no_turn memory m turn more = behind memory (m % 4) (m / 4 % 2) turn more
