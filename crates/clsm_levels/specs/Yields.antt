-- What yields entries by rising key, of each key at most one.
use Rattle.std.specs.Prelude.{◌≡◌, ℕ, ◌+◌, ◌<◌, ◌≤◌, Option, Some, None}
use Rattle.clsm_levels.specs.declared.entry.Entry.{Entry}

-- the next one from a key on, where `found` says what is found at each key: it is found at its own
-- key, and nothing is at those before it; or nothing is found from there on
abbrev pub IsNextFrom : (ℕ → Option Entry) → ℕ → Option Entry → Type 0
IsNextFrom found from None = (k : ℕ) → from ≤ k → found k ≡ None
IsNextFrom found from (Some e) = (from ≤ e.key) × (found e.key ≡ Some e) × ((k : ℕ) → from ≤ k → k < e.key → found k ≡ None)

-- the key from which on the one behind it is sought
abbrev pub behind : ℕ → Option Entry → ℕ
behind from None = from
behind from (Some e) = e.key + 1
