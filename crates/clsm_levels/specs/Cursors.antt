-- Cursors into rows of entries: what is left of the rows, and which row has the least key next.
use Rattle.std.specs.Prelude.{◌≡◌, ℕ, ◌<◌, ◌≤◌, List, [], ◌∷◌, ◌++◌, length, drop, slice_index_or, Option, Some, None}
use Rattle.std.specs.List.{AllByRecursion}
use Rattle.clsm_levels.specs.declared.entry.Entry.{Entry}
use Rattle.clsm_levels.specs.declared.entry.Version.{Version}
use Rattle.clsm_levels.specs.declared.cursor.Cursor.{Cursor}
use Rattle.clsm_levels.specs.Pass.{RisesByKey}
use Rattle.clsm_levels.specs.Version.{version_in}

-- the row with this number
abbrev pub row_at : List (List Entry) → ℕ → List Entry
row_at rows i = slice_index_or rows i []

-- a cursor that has no entry
abbrev pub no_cursor : Cursor
no_cursor = record { position = 0; head = None }

-- the cursor in the row with this number
abbrev pub cursor_at : List Cursor → ℕ → Cursor
cursor_at cursors i = slice_index_or cursors i no_cursor

-- the first entry, where there is one
abbrev pub first_of : List Entry → Option Entry
first_of [] = None
first_of (e ∷ es) = Some e

-- each cursor has the entry at its position, without its value
abbrev pub HeadsOf : List (List Entry) → List Cursor → Type 0
HeadsOf rows cursors = (i : ℕ) → i < length cursors → (cursor_at cursors i).head ≡ version_in (first_of (drop (cursor_at cursors i).position (row_at rows i)))

-- what is left of the rows, one after another
abbrev pub rests : List (List Entry) → List Cursor → List Entry
rests [] cursors = []
rests (row ∷ rows) [] = row ++ rests rows []
rests (row ∷ rows) (c ∷ cs) = drop c.position row ++ rests rows cs

-- of the cursors below n, the first with the least key is at i, and v is its head
abbrev pub IsLeast : List Cursor → ℕ → ℕ → Version → Type 0
IsLeast cursors n i v = (i < n) × ((cursor_at cursors i).head ≡ Some v)
    × ((j : ℕ) (x : Version) → j < n → (cursor_at cursors j).head ≡ Some x → (v.key ≤ x.key) × (j < i → v.key < x.key))

-- no cursor below n has a head
abbrev pub IsEmptied : List Cursor → ℕ → Type 0
IsEmptied cursors n = (j : ℕ) → j < n → (cursor_at cursors j).head ≡ None

-- each row is by rising key
abbrev pub AllRise : List (List Entry) → Type 0
AllRise rows = AllByRecursion RisesByKey rows
