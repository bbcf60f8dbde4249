-- What the calls on the lock leave of a seat as it was, and what they change.
use Rattle.std.specs.Prelude.{◌≡◌, ℕ, None, true, false, length}
use mathlib.Core.List.{IsPrefix}
use Rattle.clsm_law.specs.declared.word.Word.{Word}
use Rattle.clsm_law.specs.declared.word.Word.TheVariants.{Lock, Clock}
use Rattle.clsm_law.specs.declared.view.Mode.TheVariants.{Shared, Exclusive}
use Rattle.clsm_law.specs.Codes.{exclusive_hold}
use Rattle.clsm_law.specs.Views.{next_word}
use Rattle.clsm_law.specs.Relation.{after_entry, after_leave}
use Rattle.clsm_words.specs.declared.known.Known.{Known}
use Rattle.clsm_words.specs.Knowing.{row_of}
use Rattle.clsm_words.specs.Keeping.{KeepsPlace}
use Rattle.clsm_words.specs.Merging.{IsOwn}

-- it entered: it holds the lock shared, in a hold in which it has looked at nothing; its count of
-- refusals is this
pub record Enters (old new : Known) (busy : ℕ) : Type 0 where
  pub place : KeepsPlace old new
  pub view : new.view ≡ record (after_entry old.layout Shared true old.view) { busy = busy }

-- it tried the lock, so many times, and did not enter
pub record StaysOut (old new : Known) : Type 0 where
  pub place : KeepsPlace old new
  pub view : new.view ≡ record old.view { fresh_lock = new.view.fresh_lock; busy = new.view.busy }

-- it tried the lock once, and was refused, which is counted
pub record IsRefused (old new : Known) : Type 0 where
  pub out : StaysOut old new
  pub counted : new.view.busy ≡ next_word old.view.busy
  pub unlooked : new.view.fresh_lock ≡ None

-- it left: it does not hold the lock, what it looked at is no longer fresh, and it knows no place
-- of the ordered list
pub record Leaves (old new : Known) : Type 0 where
  pub place : KeepsPlace old new
  pub view : new.view ≡ after_leave old.layout old.view

-- ---- a caller's hold alone

-- it entered: it holds the lock alone, in a hold in which it has looked at nothing and committed
-- nothing; its count of refusals is this
pub record EntersExclusively (old new : Known) (busy : ℕ) : Type 0 where
  pub place : KeepsPlace old new
  pub view : new.view ≡ record (after_entry old.layout Exclusive true old.view) { committed = false; busy = busy }

-- ---- the merger's hold

-- the merger is where it was, but that it may hold the lock; its past goes on, and it knows of its
-- words what it knew
pub record KeepsMerge (old new : Known) : Type 0 where
  pub number : new.number ≡ old.number
  pub dealt : new.dealt ≡ old.dealt
  pub layout : new.layout ≡ old.layout
  pub past : IsPrefix old.past new.past
  pub words : (word : Word) → IsOwn old.layout old.merger word → row_of new word ≡ row_of old word

-- it tried the lock, so many times, and did not get it
pub record StaysOutMerger (old new : Known) : Type 0 where
  pub keeps : KeepsMerge old new
  pub merger : new.merger ≡ record old.merger { busy = new.merger.busy }

-- it tried the lock once, and was refused, which is counted
pub record IsRefusedMerger (old new : Known) : Type 0 where
  pub out : StaysOutMerger old new
  pub counted : new.merger.busy ≡ next_word old.merger.busy

-- nobody else holds the lock: its word is that of one exclusive hold; and the merger's past ends at
-- the clock, so that each drawn time is decided
pub record HoldsAloneAsMerger (k : Known) : Type 0 where
  pub lock : row_of k Lock ≡ exclusive_hold
  pub clock : length k.past ≡ row_of k Clock

-- it entered: it holds the lock alone; its count of refusals is this
pub record EntersAlone (old new : Known) (busy : ℕ) : Type 0 where
  pub keeps : KeepsMerge old new
  pub merger : new.merger ≡ record old.merger { exclusive = true; holds = next_word old.merger.holds; busy = busy }
  pub alone : HoldsAloneAsMerger new
