-- The numbers that stand for something else in a word.
use Rattle.std.specs.Prelude.{ℕ, ◌+◌, ◌-◌, ◌%◌, ◌^◌}

-- LOCK under an exclusive hold; a number of shared holders is below it
abbrev pub exclusive_hold : ℕ
exclusive_hold = 2 ^ 32

-- what fetch_sub of n leaves of a word x of 64 bits: who leaves LOCK takes its hold from it
abbrev pub less : ℕ → ℕ → ℕ
less n x = (x + (2 ^ 64 - n)) % 2 ^ 64

-- the greatest limit: each time is below it
abbrev pub last_limit : ℕ
last_limit = 2 ^ 62

-- the states of a cell: nothing was decided of its time, it was cancelled, or it wrote a value or a
-- removal
abbrev pub undecided_cell : ℕ
undecided_cell = 0

abbrev pub cancelled_cell : ℕ
cancelled_cell = 1

abbrev pub value_cell : ℕ
value_cell = 2

abbrev pub removal_cell : ℕ
removal_cell = 3
