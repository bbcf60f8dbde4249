-- How far a passage of a run has come, and what it came by.
use Rattle.std.specs.Prelude.{◌≡◌, ℕ, ◌*◌, ◌≤◌, true, Option, Some, None}
use Rattle.clsm_levels.specs.declared.entry.Entry.{Entry}
use Rattle.clsm_law.specs.Places.{entry_in}
use Rattle.clsm_words.specs.declared.known.Known.{Known}
use Rattle.clsm_words.specs.Knowing.{row_of}
use Rattle.clsm_runs.specs.declared.entry.HeldRun.{HeldRun}
use Rattle.clsm_runs.specs.declared.passing.Passage.{Passage}
use Rattle.clsm_runs.specs.declared.passing.Passed.{Passed}
use Rattle.clsm_runs.specs.Searching.{HasEntry, StandsFrom, count_of, entry_word}

-- the passage has passed nothing of the run that a search from `from` on would find, and it knows
-- how many entries there are; where it says that all are below `until`, the component's runs are
pub record IsPassageFrom (k : Known) (run : HeldRun) (until from : ℕ) (passage : Passage) : Type 0 where
  pub stands : StandsFrom k run.place until from passage.position
  pub count : passage.count ≡ count_of k run.place
  pub all : passage.are_all ≡ true → run.component * k.layout.cells ≤ until

-- the run at the place, which the held component names, has the entry with this number, and this is
-- its key
pub record IsPassed (k : Known) (component place : ℕ) (passed : Passed) : Type 0 where
  pub has : HasEntry k component place passed.number
  pub key : entry_word k place passed.number 0 ≡ passed.key

-- the entry that was passed, if there is one
abbrev pub passed_entry : Known → ℕ → Option Passed → Option Entry
passed_entry k place None = None
passed_entry k place (Some passed) = Some (entry_in (row_of k) place passed.number)
