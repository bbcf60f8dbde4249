-- The merger's seat in a reclaim.
use Rattle.std.specs.Prelude.{◌≡◌, ◌≢◌, ℕ, ◌+◌, ◌*◌, ◌<◌, ◌≤◌, ◌⊎◌, true, false, List, length}
use Rattle.clsm_law.specs.declared.merger.Reader.{Reader}
use Rattle.clsm_law.specs.declared.word.Word.TheVariants.{State}
use Rattle.clsm_law.specs.Views.{next_word}
use Rattle.clsm_law.specs.Merging.{is_retired, retired_region, reader_at}
use Rattle.clsm_words.specs.declared.known.Known.{Known}
use Rattle.clsm_words.specs.Knowing.{row_of}
use Rattle.clsm_words.specs.Merging.{IsLetGo, facts_known}
use Rattle.clsm_pins.specs.Quieting.{IsNotedOdd}
use Rattle.clsm_store_calls.specs.Freezing.{IsOut}

-- each seat was looked at once more, or not at all
abbrev pub AreLookedAtOnce : List Reader → List Reader → Type 0
AreLookedAtOnce before now = (i : ℕ) → ((reader_at now i).looks ≡ (reader_at before i).looks) ⊎ ((reader_at now i).looks ≡ next_word (reader_at before i).looks)

-- each seat was found quiet, none by more than one look at it
pub record AreAllQuiet (before now : List Reader) : Type 0 where
  pub count : length now ≡ length before
  pub quiet : (i : ℕ) → i < length now → (reader_at now i).quiet ≡ true
  pub once : AreLookedAtOnce before now

-- the seat with this number was looked at once more and not found quiet, each with a lower one was
-- found so, and those found so before stay so; none was looked at twice
pub record IsLowestLoud (before now : List Reader) (number : ℕ) : Type 0 where
  pub again : (reader_at now number).looks ≡ next_word (reader_at before number).looks
  pub loud : (reader_at now number).quiet ≡ false
  pub odd : IsNotedOdd (reader_at now number).first_pin
  pub lowest : (i : ℕ) → i < number → (reader_at now i).quiet ≡ true
  pub stays : (i : ℕ) → (reader_at before i).quiet ≡ true → (reader_at now i).quiet ≡ true
  pub once : AreLookedAtOnce before now

-- it looked at pin words: the merger's view is as it was, but for what it noted of the seats
pub record KeepsRetired (old new : Known) : Type 0 where
  pub layout : new.layout ≡ old.layout
  pub view : new.merger ≡ record old.merger { readers = new.merger.readers }
  pub count : length new.merger.readers ≡ length old.merger.readers

-- the heads of the retired region are 0, and that of its ordered list, and the merger's view is as
-- it was
pub record HasListsCleared (old new : Known) : Type 0 where
  pub layout : new.layout ≡ old.layout
  pub view : new.merger ≡ old.merger
  pub headless : (facts_known new).headless ≡ true
  pub orderless : (facts_known new).orderless ≡ true

-- nobody holds what is retired, the region from first to before end is its own, and its heads are
-- 0, and that of its ordered list
pub record IsCleaning (k : Known) (first end : ℕ) : Type 0 where
  pub letgo : IsLetGo k.merger
  pub headless : (facts_known k).headless ≡ true
  pub orderless : (facts_known k).orderless ≡ true
  pub begins : first ≡ retired_region k.merger * k.layout.cells
  pub ends : end ≡ first + k.layout.cells

-- the states behind the cell are 0, and its own is not, unless it is the first of the region
pub record IsLastWritten (k : Known) (first end last : ℕ) : Type 0 where
  pub from : first ≤ last
  pub below : last < end
  pub behind : (c : ℕ) → last < c → c < end → row_of k (State c) ≡ 0
  pub written : first < last → row_of k (State last) ≢ 0

-- a component is retired after so many merges
pub record IsRetired (k : Known) (merges : ℕ) : Type 0 where
  pub out : IsOut k merges
  pub retired : is_retired k.merger.phase ≡ true
