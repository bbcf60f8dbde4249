-- What the merger reads of the merged runs, and what it writes at the place of the next one.
use Rattle.std.specs.Prelude.{◌≡◌, ℕ, ◌+◌, ◌*◌, ◌<◌, true, false, cond, List, [], ◌∷◌, Option, Some, None}
use Rattle.clsm_levels.specs.declared.entry.Entry.{Entry}
use Rattle.clsm_levels.specs.Entry.{is_removal}
use Rattle.clsm_levels.specs.Merge.{is_to_level_one}
use Rattle.clsm_law.specs.declared.word.Word.{Word}
use Rattle.clsm_law.specs.declared.word.Word.TheVariants.{Entry as EntryWord}
use Rattle.clsm_law.specs.Memory.{room_of}
use Rattle.clsm_law.specs.Merging.{is_frozen, place_of}
use Rattle.clsm_law.specs.Places.{is_named}
use Rattle.clsm_law.specs.Worlds.{runs_of}
use Rattle.clsm_words.specs.declared.known.Known.{Known}
use Rattle.clsm_words.specs.Knowing.{row_of}
use Rattle.clsm_search.specs.Frozen.{epoch_row}
use Rattle.clsm_runs.specs.Searching.{count_of}

-- ---- the words that change

-- this one of an entry
abbrev pub IsPart : ℕ → ℕ → ℕ → Word → Type 0
IsPart place entry part word = word ≡ EntryWord place entry part

-- those of an entry
abbrev pub IsOfEntry : ℕ → ℕ → Word → Type 0
IsOfEntry place entry (EntryWord p e part) = (p ≡ place) × (e ≡ entry)
IsOfEntry place entry _ = ⊥

-- those of a place
abbrev pub IsOfPlace : ℕ → Word → Type 0
IsOfPlace place word = place_of word ≡ place

-- ---- what is read

-- an epoch is frozen, the place is one of the merged runs, and its run has the entry
pub record IsMergedEntry (k : Known) (place entry : ℕ) : Type 0 where
  pub frozen : is_frozen k.merger.phase ≡ true
  pub free : k.merger.exclusive ≡ false
  pub named : is_named k.merger.merged place ≡ true
  pub inside : entry < count_of k place

-- the sources of a merge: the epoch's writes, and behind them the runs, where it writes level 1
abbrev pub rows_of : Known → List (List Entry)
rows_of k = epoch_row k ∷ cond (is_to_level_one k.merger.merged) (runs_of (row_of k) k.merger.merged) []

-- ---- what is written

-- an epoch is frozen, no reader searches the place, and it has room for the entry
pub record MayWriteInto (k : Known) (place entry : ℕ) : Type 0 where
  pub frozen : is_frozen k.merger.phase ≡ true
  pub unnamed : is_named k.merger.merged place ≡ false
  pub there : place < 5
  pub inside : entry < room_of k.layout place

-- the words of a value: none where a key is removed
abbrev pub value_list : Option (List ℕ) → List ℕ
value_list None = []
value_list (Some words) = words

-- an entry's time word: twice its time, plus 1 for a removal
abbrev pub spelling : Entry → ℕ
spelling e = 2 * e.time + cond (is_removal e) 1 0
