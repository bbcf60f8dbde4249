-- A merge: its sources are read by cursors, and what is kept of them is written behind one another.
use Rattle.std.specs.Prelude.{◌≡◌, ℕ, ◌+◌, ◌^◌, ◌<◌, ◌≤◌, true, false, List, [], ◌∷◌, ◌++◌, drop, length, Option, Some, None}
use Rattle.std.specs.List.{AllByRecursion}
use Rattle.clsm_levels.specs.declared.entry.Entry.{Entry}
use Rattle.clsm_levels.specs.declared.cursor.Cursor.{Cursor}
use Rattle.clsm_levels.specs.Cursors.{AllRise, cursor_at, first_of, rests, row_at}
use Rattle.clsm_levels.specs.Entry.{AreBelow}
use Rattle.clsm_levels.specs.Merge.{is_to_level_one, kept, merged}
use Rattle.clsm_levels.specs.Pass.{kept_after}
use Rattle.clsm_levels.specs.Run.{all_of}
use Rattle.clsm_levels.specs.Version.{version_of}
use Rattle.clsm_law.specs.declared.word.Word.TheVariants.{Count}
use Rattle.clsm_law.specs.Memory.{Memory, room_of}
use Rattle.clsm_law.specs.Merging.{is_frozen, target_of}
use Rattle.clsm_law.specs.Places.{entries_from, entries_in, is_named}
use Rattle.clsm_law.specs.Worlds.{are_canonical, is_canonical, passes_from, runs_of}
use Rattle.clsm_words.specs.declared.known.Known.{Known}
use Rattle.clsm_words.specs.Knowing.{row_of}
use Rattle.clsm_search.specs.declared.frozen_walk.FrozenWalk.{FrozenWalk}
use Rattle.clsm_search.specs.Frozen.{IsAhead, epoch_row}
use Rattle.clsm_runs.specs.declared.output.Output.{Output}
use Rattle.clsm_runs.specs.declared.rows.Winner.{Winner}
use Rattle.clsm_runs.specs.Placing.{rows_of}
use Rattle.clsm_runs.specs.Searching.{run_at}

-- ---- what is read

-- each row is by rising key, and neither its times nor its entries' numbers are so great that words
-- do not hold them
pub record AreSources (rows : List (List Entry)) : Type 0 where
  pub rise : AllRise rows
  pub early : AllByRecursion (AreBelow (2 ^ 62)) rows
  pub few : AllByRecursion (λ row. length row < 2 ^ 62) rows

-- the place is that of the run which is this row, if there is such a row
abbrev pub IsPlaceOfRow : Known → ℕ → Option ℕ → Type 0
IsPlaceOfRow k row None = row_at (rows_of k) row ≡ []
IsPlaceOfRow k row (Some place) = (row_at (rows_of k) row ≡ run_at k place) × (is_named k.merger.merged place ≡ true) × (place < 5)

-- the place of the run that is searched at this turn, behind so many merges
abbrev pub IsPlaceOfTurn : Memory → ℕ → ℕ → Option ℕ → Type 0
IsPlaceOfTurn memory merges turn None = row_at (runs_of memory merges) turn ≡ []
IsPlaceOfTurn memory merges turn (Some place) = (row_at (runs_of memory merges) turn ≡ entries_in memory place) × (is_named merges place ≡ true) × (place < 5)

-- the entry stands where the winner says, and this is its version
pub record IsTaken (rows : List (List Entry)) (w : Winner) (e : Entry) : Type 0 where
  pub stands : first_of (drop w.position (row_at rows w.row)) ≡ Some e
  pub version : version_of e ≡ w.version

-- the next entry of the rows by rising key is taken, or there is none
abbrev pub IsNextOf : List (List Entry) → List Cursor → List Cursor → Option Winner → Type 0
IsNextOf rows before after None = rests rows before ≡ []
IsNextOf rows before after (Some w) = (e : Entry) × (merged (rests rows before) ≡ e ∷ merged (rests rows after)) × IsTaken rows w e × (e.time < 2 ^ 62)
    × (w.row < 5)

-- the walk has yielded so many of the epoch's writes
abbrev pub IsWalkedTo : Known → FrozenWalk → ℕ → Type 0
IsWalkedTo k walk count = IsAhead k walk (drop count (epoch_row k))

-- it is one ahead of the first cursor, which has the next of them
abbrev pub IsOneAhead : Known → FrozenWalk → List Cursor → Type 0
IsOneAhead k walk cursors = IsWalkedTo k walk ((cursor_at cursors 0).position + 1)

-- ---- what is written

-- an epoch is frozen, no reader searches the place, and its room is this
pub record IsOutput (k : Known) (o : Output) : Type 0 where
  pub frozen : is_frozen k.merger.phase ≡ true
  pub unnamed : is_named k.merger.merged o.place ≡ false
  pub there : o.place < 5
  pub room : o.room ≡ room_of k.layout o.place
  pub few : o.count ≤ o.room

-- the output is of the same merge: its place and room, its floor, and its level
pub record IsSameOutput (o o' : Output) : Type 0 where
  pub place : o'.place ≡ o.place
  pub room : o'.room ≡ o.room
  pub floor : o'.floor ≡ o.floor
  pub to_level_one : o'.to_level_one ≡ o.to_level_one

-- what is written, and what will be kept of the rest, are all that is to be kept; no word says more
-- than the entries
pub record LeavesOff (k : Known) (o : Output) (rest all : List Entry) : Type 0 where
  pub split : entries_from (row_of k) o.place 0 o.count ++ kept_after o.settled o.floor o.to_level_one rest ≡ all
  pub canonical : passes_from (is_canonical (row_of k) o.place) 0 o.count ≡ true

-- ---- the whole

-- what a merge with this floor keeps of the epoch's writes, and of the runs where it writes level 1
abbrev pub kept_of : Known → ℕ → List Entry
kept_of k floor = kept floor (is_to_level_one k.merger.merged) (merged (all_of (rows_of k)))

-- the place of the next merge holds these entries, and has room for them, and no word of it says
-- more
pub record HasWritten (k : Known) (entries : List Entry) : Type 0 where
  pub written : entries_in (row_of k) (target_of k.merger) ≡ entries
  pub fits : row_of k (Count (target_of k.merger)) ≤ room_of k.layout (target_of k.merger)
  pub canonical : are_canonical (row_of k) (target_of k.merger) ≡ true
