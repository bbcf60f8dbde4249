-- What the executable merger relies on, and how it decides whether what is written is what is
-- wanted: the sources of a merge by their numbers, which it goes through without taking memory.
use Rattle.std.specs.Prelude.{◌≡◌, ℕ, ◌+◌, ◌-◌, ◌*◌, ◌<◌, ◌≤◌, true, cond, nat_lt, List, [], ◌∷◌, length, Option, Some, None}
use Rattle.std.specs.List.{Contains}
use Rattle.clsm_model.specs.declared.slot.Slot.{Slot}
use Rattle.clsm_model.specs.declared.slot.Slot.TheVariants.{Nothing, Wrote}
use Rattle.clsm_levels.specs.declared.entry.Entry.{Entry}
use Rattle.clsm_levels.specs.Entry.{AreBelow, TimesFallByKey}
use Rattle.clsm_levels.specs.Merge.{is_to_level_one, wanted}
use Rattle.clsm_levels.specs.Rule.{sources, Stays}
use Rattle.clsm_levels.specs.Run.{all_of}
use Rattle.clsm_law.specs.declared.layout.Layout.{Layout}
use Rattle.clsm_law.specs.declared.word.Word.TheVariants.{Count}
use Rattle.clsm_law.specs.declared.step.Step.{Step}
use Rattle.clsm_law.specs.declared.step.Step.TheVariants.{Look}
use Rattle.clsm_law.specs.declared.merger.MergerView.{MergerView}
use Rattle.clsm_law.specs.Codes.{last_limit}
use Rattle.clsm_law.specs.Memory.{Memory, is_word, room_of}
use Rattle.clsm_law.specs.Layout.{memory, size_of}
use Rattle.clsm_law.specs.Places.{is_named, entry_in, entries_in}
use Rattle.clsm_law.specs.Merging.{target_of}
use Rattle.clsm_law.specs.Worlds.{outcome_at, epoch_of, runs_of}

-- the epoch of the next merge ends where times end, or before, so that no sum of the merger's wraps
pub record IsMergerSmall (z : Layout) (m : MergerView) : Type 0 where
  pub merged : (m.merged + 1) * z.cells ≤ last_limit

-- a step that looks looks at a word that there is
abbrev pub LooksAtWord : Layout → Step → Type 0
LooksAtWord z (Look word) = is_word z word ≡ true
LooksAtWord z step = Unit {0}

-- the row of words and the merger's view are such that the next merge can be decided
pub record IsMergeable (z : Layout) (words : List ℕ) (m : MergerView) : Type 0 where
  pub size : length words ≡ size_of z
  pub small : IsMergerSmall z m
  -- the runs that are merged fit their places, and of each key the newer entry comes first
  pub counts : (p : ℕ) → is_named m.merged p ≡ true → memory z words (Count p) ≤ room_of z p
  pub falls : TimesFallByKey (all_of (runs_of (memory z words) m.merged))
  pub older : AreBelow (m.merged * z.cells) (all_of (runs_of (memory z words) m.merged))

-- ---- the sources by their numbers

-- the write that a slot is, as an entry
abbrev pub entry_of_slot : ℕ → Option Slot → Option Entry
entry_of_slot t None = None
entry_of_slot t (Some Nothing) = None
entry_of_slot t (Some (Wrote seat key written)) = Some (record { key = key; time = t; value = written })

-- all places, in the order in which those that are named are searched
abbrev pub search_order : List ℕ
search_order = 2 ∷ 1 ∷ 0 ∷ 3 ∷ 4 ∷ []

-- how many entries of the place the readers of the component search
abbrev pub searched_count : Memory → ℕ → ℕ → ℕ
searched_count memory component p = cond (is_named component p) (memory (Count p)) 0

-- and of all of these places
unfoldable pub searched_total : Memory → ℕ → List ℕ → ℕ
searched_total memory component [] = 0
searched_total memory component (p ∷ ps) = searched_count memory component p + searched_total memory component ps

-- the entry with this number among those of these places
unfoldable pub searched_entry : Memory → ℕ → List ℕ → ℕ → Option Entry
searched_entry memory component [] number = None
searched_entry memory component (p ∷ ps) number =
    cond (nat_lt number (searched_count memory component p)) (Some (entry_in memory p number))
    (searched_entry memory component ps (number - searched_count memory component p))

-- the numbers of the sources: those of the times of the epoch, and behind them those of the entries
-- of all runs, where these are merged
unfoldable pub source_count : Layout → List ℕ → MergerView → ℕ
source_count z words m = z.cells + cond (is_to_level_one m.merged) (searched_total (memory z words) m.merged search_order) 0

-- the source with this number; a time that came to no write is none
unfoldable pub source_at : Layout → List ℕ → MergerView → List (Option Slot) → ℕ → Option Entry
source_at z words m slots number =
    let time = m.merged * z.cells + number in
    cond (nat_lt number z.cells) (entry_of_slot time (outcome_at slots time)) (searched_entry (memory z words) m.merged search_order (number - z.cells))

-- ---- what is decided

-- what the merge reads
unfoldable pub sources_of : Layout → List ℕ → MergerView → List (Option Slot) → List Entry
sources_of z words m slots = sources m.merged (epoch_of z slots m.merged) (runs_of (memory z words) m.merged)

-- what the target holds
unfoldable pub written_of : Layout → List ℕ → MergerView → List Entry
written_of z words m = entries_in (memory z words) (target_of m)

-- what the merge is to write
unfoldable pub wanted_of : Layout → List ℕ → MergerView → List (Option Slot) → List Entry
wanted_of z words m slots = wanted m.merged m.floor (epoch_of z slots m.merged) (runs_of (memory z words) m.merged)

-- the other does not hide the entry below the floor: it is of another key, or not below the floor,
-- or no newer
abbrev pub IsPassedBy : ℕ → Entry → Entry → Type 0
IsPassedBy floor e other = other.key ≡ e.key → other.time < floor → other.time ≤ e.time

-- the merge keeps the entry, if it is one of its sources
abbrev pub StaysIn : MergerView → List Entry → Entry → Type 0
StaysIn m all e = Stays m.floor (is_to_level_one m.merged) all e

-- the entry is a source that the merge keeps
abbrev pub IsKept : MergerView → List Entry → Entry → Type 0
IsKept m all e = Contains all e × StaysIn m all e

-- each entry that is written is a source that the merge keeps
abbrev pub IsEachKept : MergerView → List Entry → List Entry → Type 0
IsEachKept m all written = (e : Entry) → Contains written e → IsKept m all e

-- the entry is written, if the merge keeps it
abbrev pub IsWrittenIfKept : MergerView → List Entry → List Entry → Entry → Type 0
IsWrittenIfKept m all written e = StaysIn m all e → Contains written e

-- each source that the merge keeps is written
abbrev pub IsEachWritten : MergerView → List Entry → List Entry → Type 0
IsEachWritten m all written = (e : Entry) → Contains all e → IsWrittenIfKept m all written e
