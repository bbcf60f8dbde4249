-- What a search of a held component's runs asks, and what its parts find.
use Rattle.std.specs.Prelude.{◌≡◌, ℕ, ◌-◌, ◌/◌, ◌%◌, ◌<◌, ◌≤◌, ◌⊎◌, true, List, [], ◌∷◌, ◌++◌, Option, Some, None}
use Rattle.clsm_levels.specs.declared.entry.Entry.{Entry}
use Rattle.clsm_levels.specs.declared.place.Place.TheVariants.{LevelOne}
use Rattle.clsm_levels.specs.Entry.{first_below}
use Rattle.clsm_levels.specs.Place.{level_zero_places, runs_at}
use Rattle.clsm_law.specs.declared.word.Word.TheVariants.{Count, Entry as EntryWord}
use Rattle.clsm_law.specs.Memory.{Memory}
use Rattle.clsm_law.specs.Places.{is_named, entry_in, entries_from, entries_in, held_at}
use Rattle.clsm_words.specs.declared.known.Known.{Known}
use Rattle.clsm_words.specs.Knowing.{row_of}
use Rattle.clsm_runs.specs.declared.side.Side.{Side}
use Rattle.clsm_runs.specs.declared.side.Span.{Span}
use Rattle.clsm_runs.specs.declared.side.Side.TheVariants.{Before, Hit, Behind}

-- the entries of the run at the place
abbrev pub run_at : Known → ℕ → List Entry
run_at k place = entries_in (row_of k) place

-- how many entries the place has
abbrev pub count_of : Known → ℕ → ℕ
count_of k place = row_of k (Count place)

-- a word of an entry
abbrev pub entry_word : Known → ℕ → ℕ → ℕ → ℕ
entry_word k place entry part = row_of k (EntryWord place entry part)

-- ---- what is asked

-- the place is one of the held component
pub record IsSearchable (k : Known) (component place : ℕ) : Type 0 where
  pub held : k.view.held ≡ Some component
  pub named : is_named component place ≡ true

-- and its run has the entry
pub record HasEntry (k : Known) (component place entry : ℕ) : Type 0 where
  pub run : IsSearchable k component place
  pub inside : entry < count_of k place

-- ---- the rest of a run

-- of the n entries of the place those from the entry i on
abbrev pub rest_from : Memory → ℕ → ℕ → ℕ → List Entry
rest_from memory place n i = entries_from memory place i (n - i)

-- from the entry at the position on, the run's search finds for each key from `from` on what it
-- finds in the whole run
pub record StandsFrom (k : Known) (place until from position : ℕ) : Type 0 where
  pub within : position ≤ count_of k place
  pub passed : (key : ℕ) → from ≤ key →
      first_below (run_at k place) key until
      ≡ first_below (rest_from (row_of k) place (count_of k place) position) key until

-- ---- a search by halving

-- the entry stands before the first of the key with a time below until
abbrev pub ComesEarlier : ℕ → ℕ → Entry → Type 0
ComesEarlier key until e = (e.key < key) ⊎ ((e.key ≡ key) × (until ≤ e.time))

-- where the entry stands to the first of the key with a time below until: before it, of the key
-- with this time word, or behind each of the key
abbrev pub IsSide : Memory → ℕ → ℕ → ℕ → ℕ → Side → Type 0
IsSide memory place entry key until (Before found) = ComesEarlier key until (entry_in memory place entry)
IsSide memory place entry key until (Hit spelled) = (memory (EntryWord place entry 0) ≡ key) × (memory (EntryWord place entry 1) ≡ spelled)
    × ((entry_in memory place entry).time < until)
IsSide memory place entry key until (Behind found) = key < memory (EntryWord place entry 0)

-- the entry high is of the key, and this is its time word, or no entry from there on is
abbrev pub IsHitAt : Memory → ℕ → ℕ → ℕ → ℕ → ℕ → Option (ℕ × ℕ) → Type 0
IsHitAt memory place n key until high None = first_below (rest_from memory place n high) key until ≡ None
IsHitAt memory place n key until high (Some hit) = (hit.0 ≡ high) × (high < n) × IsSide memory place high key until (Hit hit.1)

-- of the run, none before the span is found for the key or a greater one, and behind it what was
-- hit is the first of the key with a time below until, or none is
pub record IsSpan (k : Known) (place key until : ℕ) (span : Span) : Type 0 where
  pub order : span.low ≤ span.high
  pub within : span.high ≤ count_of k place
  pub stands : StandsFrom k place until key span.low
  pub at_high : IsHitAt (row_of k) place (count_of k place) key until span.high span.hit

-- the first entry of the key with a time below until, by its number and its time word
abbrev pub IsPosition : Known → ℕ → ℕ → ℕ → Option (ℕ × ℕ) → Type 0
IsPosition k place key until None = first_below (run_at k place) key until ≡ None
IsPosition k place key until (Some hit) = (hit.0 < count_of k place) × (entry_word k place hit.0 0 ≡ key) × (entry_word k place hit.0 1 ≡ hit.1)
    × (first_below (run_at k place) key until ≡ Some (entry_in (row_of k) place hit.0))

-- ---- a search of run after run

-- the runs of the component at the places of level 0 below j, the newest first, and behind them
-- that of level 1
abbrev pub runs_below : Memory → ℕ → ℕ → List (List Entry)
runs_below memory component j = runs_at (held_at memory) (level_zero_places j ++ LevelOne (component / 4 % 2) ∷ [])
