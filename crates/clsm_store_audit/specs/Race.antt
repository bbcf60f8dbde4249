-- What one put leaves at its key.
use Rattle.std.specs.Prelude.{ℕ, List, Option, Some, None, cond, nat_lt}

-- the value below the time `at`, where the key's only write is a put of it at the time `put`
abbrev pub left_by_put : List ℕ → ℕ → ℕ → Option (List ℕ)
left_by_put value put at = cond (nat_lt put at) (Some value) None
