-- The sizes of a store: their ranges, and what is answered where one is out of its range.
use Rattle.std.specs.Prelude.{◌≡◌, ℕ, ◌≤◌, Result, Ok, Err}
use Rattle.clsm_model.specs.declared.config.Config.{Config}
use Rattle.clsm_model.specs.declared.config.OpenError.{OpenError}
use Rattle.clsm_model.specs.declared.config.OpenError.TheVariants.{Cells, Seats, Shards, Run, Memory, Patience}

-- the number of a refusal
abbrev pub number_of : OpenError → ℕ
number_of (Cells n) = 1
number_of (Seats n) = 2
number_of (Shards n) = 3
number_of (Run n) = 4
number_of Memory = 5
number_of (Patience n) = 9

-- from low to high, both included
abbrev pub IsBetween : ℕ → ℕ → ℕ → Type 0
IsBetween low high n = (low ≤ n) × (n ≤ high)

-- a region has 4 to 65,536 cells
abbrev pub IsCells : Config → Type 0
IsCells c = IsBetween 4 65536 c.cells

-- there are 1 to 64 callers' seats
abbrev pub IsSeats : Config → Type 0
IsSeats c = IsBetween 1 64 c.seats

-- a region has at least so many chains, 1 to 1,024
abbrev pub IsShards : Config → Type 0
IsShards c = IsBetween 1 1024 c.shards

-- a place of level 1 has room for 4 to 4,194,304 entries
abbrev pub IsRunRoom : Config → Type 0
IsRunRoom c = IsBetween 4 4194304 c.run

-- a reader looks again at an undecided time at most 64 times
abbrev pub IsPatience : Config → Type 0
IsPatience c = c.patience ≤ 64

-- each size is in its range
abbrev pub IsSound : Config → Type 0
IsSound c = IsCells c × IsSeats c × IsShards c × IsRunRoom c × IsPatience c

-- this is the first size out of its range, as it was given, in the order cells, seats, shards, run,
-- patience
abbrev pub IsFirstFault : Config → OpenError → Type 0
IsFirstFault c (Cells n) = (n ≡ c.cells) × (¬ IsCells c)
IsFirstFault c (Seats n) = (n ≡ c.seats) × IsCells c × (¬ IsSeats c)
IsFirstFault c (Shards n) = (n ≡ c.shards) × IsCells c × IsSeats c × (¬ IsShards c)
IsFirstFault c (Run n) = (n ≡ c.run) × IsCells c × IsSeats c × IsShards c × (¬ IsRunRoom c)
IsFirstFault c (Patience n) = (n ≡ c.patience) × IsCells c × IsSeats c × IsShards c × IsRunRoom c × (¬ IsPatience c)
IsFirstFault c Memory = ⊥

-- a test of the sizes: all are in their ranges, or the first that is not is named
abbrev pub IsChecked : Config → Result (Unit {0}) OpenError → Type 0
IsChecked c (Ok _) = IsSound c
IsChecked c (Err fault) = IsFirstFault c fault
