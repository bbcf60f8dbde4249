-- What the merger's seat at the words knows: the words that only it changes, the facts that it
-- draws from them, what a step makes of what it knows, and what each step tells it.
use Rattle.std.specs.Prelude.{true, ◌≡◌, ℕ, ◌*◌, ◌%◌, ◌<◌, ◌≤◌, ◌⊎◌, cond, map, List, [], ◌∷◌, ◌++◌, length, slice_index_or, Option, Some}
use mathlib.Core.List.{IsPrefix}
use Rattle.clsm_model.specs.declared.slot.Slot.{Slot}
use Rattle.clsm_model.specs.declared.slot.Slot.TheVariants.{Nothing, Wrote}
use Rattle.clsm_model.specs.History.{plain}
use Rattle.clsm_levels.specs.declared.entry.Entry.{Entry}
use Rattle.clsm_levels.specs.Entry.{entry_of}
use Rattle.clsm_law.specs.declared.layout.Layout.{Layout}
use Rattle.clsm_law.specs.declared.word.Word.{Word}
use Rattle.clsm_law.specs.declared.word.Word.TheVariants.{Clock, Head, Cell, Order, State, Count, Entry as EntryWord}
use Rattle.clsm_law.specs.declared.step.Step.{Step}
use Rattle.clsm_law.specs.declared.step.Step.TheVariants.{Look}
use Rattle.clsm_law.specs.declared.merger.MergerView.{MergerView}
use Rattle.clsm_law.specs.Memory.{cell_of, region_of, link_at, is_word, put}
use Rattle.clsm_law.specs.Merging.{Facts, is_frozen, is_retired, is_all_quiet, epoch_end, retired_region, IsOpenToMerger, word_of_merger, changed_by_merger}
use Rattle.clsm_law.specs.Merging.{merger_after}
use Rattle.clsm_law.specs.Relation.{Before}
use Rattle.clsm_law.specs.Views.{IsShort}
use Rattle.clsm_law.specs.Worlds.{facts_of}
use Rattle.clsm_law.specs.Law.{In, AreRuns, place_of_time}
use Rattle.clsm_law.specs.Deciding.{IsMergeable}
use Rattle.clsm_words.specs.declared.known.Known.{Known}
use Rattle.clsm_words.specs.Knowing.{row_of, code_of, IsPartOf, LeadsTo}

-- ---- the words that only the merger changes

-- a component is retired, and nobody holds it any more
abbrev pub IsLetGo : MergerView → Type 0
IsLetGo m = (is_retired m.phase ≡ true) × (is_all_quiet m.readers ≡ true)

-- those of the runs; while the merger holds the lock the clock and the states; and while nobody
-- holds what is retired, the heads and states of the retired region, and the head of its list
abbrev pub IsOwn : Layout → MergerView → Word → Type 0
IsOwn z m Clock = m.exclusive ≡ true
IsOwn z m (Head region chain) = IsLetGo m × (region ≡ retired_region m)
IsOwn z m (Order link) = IsLetGo m × (link ≡ retired_region m)
IsOwn z m (State cell) = (m.exclusive ≡ true) ⊎ (IsLetGo m × (region_of z cell ≡ retired_region m))
IsOwn z m (Count place) = Unit {0}
IsOwn z m (EntryWord place entry part) = Unit {0}
IsOwn z m _ = ⊥

-- ---- what it knows of them

-- the facts, by these words and by the past that it knows
abbrev pub facts_known : Known → Facts
facts_known k = facts_of k.layout (row_of k) k.merger (map (λ slot. Some slot) k.past)

-- the step is open to the merger's seat, by the facts as it knows them
abbrev pub OpensToMerger : Known → Step → Type 0
OpensToMerger k step = IsOpenToMerger k.layout (facts_known k) k.merger step

-- it knows what each time came to up to the clock while it holds the lock, up to the end of a
-- frozen epoch, and of all merged ones
abbrev pub known_end : Layout → MergerView → ℕ → ℕ
known_end z m clock = cond m.exclusive clock (cond (is_frozen m.phase) (epoch_end z m) (m.merged * z.cells))

-- ---- the ordered list of the frozen epoch, whose times are the trail of the merger's seat

-- what the time came to, as an entry, if it is a write
abbrev pub entries_at : List Slot → ℕ → List Entry
entries_at past t = entry_of t (slice_index_or past t Nothing)

-- the entries of these times, those of the last time first
abbrev pub entries_back : List Slot → List ℕ → List Entry
entries_back past [] = []
entries_back past (t ∷ ts) = entries_back past ts ++ entries_at past t

-- a write at the time t is before those at the times us: by key, and within a key by time
abbrev pub StandsBefore : List Slot → ℕ → List ℕ → Type 0
StandsBefore past t us = (u i j key other : ℕ) (written came : Option (List ℕ)) → In u us
    → slice_index_or past t Nothing ≡ Wrote i key written → slice_index_or past u Nothing ≡ Wrote j other came → Before key t other u

-- and so is each of the times before those behind it
abbrev pub WritesRise : List Slot → List ℕ → Type 0
WritesRise past [] = Unit {0}
WritesRise past (t ∷ ts) = StandsBefore past t ts × WritesRise past ts

-- the trail is the epoch's list: at most as many times of the epoch as it has cells, each write of
-- it among them, and the writes by rising key, and within a key by time
pub record IsListed (k : Known) : Type 0 where
  pub few : length k.trail ≤ k.layout.cells
  pub inside : (t : ℕ) → In t k.trail → (k.merger.merged * k.layout.cells ≤ t) × (t < epoch_end k.layout k.merger)
  pub standing : (t i key : ℕ) (written : Option (List ℕ)) → k.merger.merged * k.layout.cells ≤ t → t < epoch_end k.layout k.merger
      → slice_index_or k.past t Nothing ≡ Wrote i key written → In t k.trail
  pub rise : WritesRise k.past k.trail

-- of the times of the list behind the place q these are the ones behind the place p
abbrev pub IsRestFrom : Layout → ℕ → List ℕ → ℕ → List ℕ → Type 0
IsRestFrom z q [] p rest = (q ≡ p) × (rest ≡ [])
IsRestFrom z q (t ∷ ts) p rest = ((q ≡ p) × (rest ≡ t ∷ ts)) ⊎ IsRestFrom z (place_of_time z t) ts p rest

-- the times of the frozen epoch's list behind the place p, where 0 is before the first
abbrev pub IsRestBehind : Known → ℕ → List ℕ → Type 0
IsRestBehind k p rest = IsRestFrom k.layout 0 k.trail p rest

-- what the merger's seat knows of itself: the words of its open steps are there; the next merge can
-- be decided by the words that it knows, and what its runs hold is what its past says; in its hold
-- of the lock its past ends at the clock; its floor is not below that of the last merge; a write of
-- its past is a removal or has one to eight words; while an epoch is frozen its trail is the
-- epoch's list
pub record IsSoundMerger (k : Known) : Type 0 where
  pub merges : k.merges ≡ true
  pub there : (step : Step) → OpensToMerger k step → is_word k.layout (word_of_merger k.layout k.merger step) ≡ true
  pub seats : length k.merger.readers ≡ k.layout.seats
  pub reaches : known_end k.layout k.merger (row_of k Clock) ≤ length k.past
  pub clock : k.merger.exclusive ≡ true → length k.past ≡ row_of k Clock
  pub mergeable : IsMergeable k.layout k.row k.merger
  pub runs : AreRuns k.layout (row_of k) (plain k.past) k.merger.merged k.merger.merged_floor
  pub floors : k.merger.merged_floor ≤ k.merger.floor
  pub short : (t i key : ℕ) (written : Option (List ℕ)) → t < length k.past → slice_index_or k.past t Nothing ≡ Wrote i key written → IsShort written
  pub listed : is_frozen k.merger.phase ≡ true → IsListed k

-- ---- what a step tells

-- a time of the frozen epoch that has the cell
abbrev pub IsFrozenIn : Known → ℕ → ℕ → Type 0
IsFrozenIn k cell t = (is_frozen k.merger.phase ≡ true) × (cell_of k.layout t ≡ cell) × (k.merger.merged * k.layout.cells ≤ t)
    × (t < epoch_end k.layout k.merger)

-- what a look that found x tells the merger: the cells of the frozen epoch show what their times
-- came to, and the links of its list lead to the next time
abbrev pub TellsMerger : Step → Known → ℕ → Type 0
TellsMerger (Look (State cell)) k x = (t : ℕ) → IsFrozenIn k cell t → x ≡ code_of (slice_index_or k.past t Nothing)
TellsMerger (Look (Cell cell part)) k x = (t : ℕ) → IsFrozenIn k cell t → IsPartOf (slice_index_or k.past t Nothing) part x
TellsMerger (Look (Order link)) k x = (p : ℕ) (rest : List ℕ) → is_frozen k.merger.phase ≡ true → link ≡ link_at (k.merger.merged % 2) p
    → IsRestBehind k p rest → LeadsTo k.layout x rest
TellsMerger _ k x = Unit {0}

-- the merger's seat after a step that found x: its view is the machine's, its past only grows, its
-- trail stays while an epoch is frozen, and of its own words it knows that this one became what the
-- step makes of it, and that the others stay. What it was told and its past are beginnings of one
-- history
pub record FollowsMerger (step : Step) (k : Known) (x : ℕ) (k' : Known) : Type 0 where
  pub number : k'.number ≡ k.number
  pub dealt : k'.dealt ≡ k.dealt
  pub layout : k'.layout ≡ k.layout
  pub told : k'.told ≡ k.told
  pub view : k'.merger ≡ merger_after k.layout (facts_known k) k.merger step x
  pub found : IsOwn k.layout k.merger (word_of_merger k.layout k.merger step) → x ≡ row_of k (word_of_merger k.layout k.merger step)
  pub made : row_of k' (word_of_merger k.layout k.merger step) ≡ changed_by_merger k.layout k.merger step x
  pub stays : (word : Word) → IsOwn k.layout k.merger word → row_of k' word
      ≡ put (row_of k) (word_of_merger k.layout k.merger step) (changed_by_merger k.layout k.merger step x) word
  pub longer : IsPrefix k.past k'.past
  pub reaches : length k.told ≤ length k'.past → IsPrefix k.told k'.past
  pub within : length k'.past ≤ length k.told → IsPrefix k'.past k.told
  pub trail : is_frozen k.merger.phase ≡ true → is_frozen k'.merger.phase ≡ true → k'.trail ≡ k.trail
  pub tells : TellsMerger step k' x
  pub sound : IsSoundMerger k'
