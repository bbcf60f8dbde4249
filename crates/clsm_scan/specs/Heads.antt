-- What was read of a cursor.
use Rattle.std.specs.Prelude.{ℕ, Bool, is_some, List, [], ◌∷◌, Option, Some, None}
use Rattle.clsm_model.specs.Map.{Pair}
use Rattle.clsm_levels.specs.declared.entry.Entry.{Entry}
use Rattle.clsm_levels.specs.Entry.{value_of}

-- the key of an entry, if there is one
abbrev pub key_of : Option Entry → Option ℕ
key_of None = None
key_of (Some e) = Some e.key

-- the key with this value, if there is one
abbrev pub row_of : ℕ → Option (List ℕ) → List Pair
row_of key None = []
row_of key (Some words) = (key, words) ∷ []

-- the key of an entry with its value, if it has one
abbrev pub rows_of : Option Entry → List Pair
rows_of None = []
rows_of (Some e) = row_of e.key e.value

-- the entry has a value
abbrev pub has_value : Option Entry → Bool
has_value o = is_some (value_of o)
