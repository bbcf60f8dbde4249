-- The merger's seat between its calls, and in a freeze.
use Rattle.std.specs.Prelude.{◌≡◌, ℕ, Bool, true, false, None}
use Rattle.clsm_law.specs.Merging.{is_clean, is_frozen}
use Rattle.clsm_words.specs.declared.known.Known.{Known}
use Rattle.clsm_lock.specs.Keeping.{HoldsAloneAsMerger}

-- no freeze is half done after so many merges; it holds the lock, or not
pub record IsBetweenFreezes (held : Bool) (k : Known) (merges : ℕ) : Type 0 where
  pub merged : k.merger.merged ≡ merges
  pub exclusive : k.merger.exclusive ≡ held
  pub unpadded : k.merger.padded ≡ false
  pub clock : k.merger.clock_extended ≡ false
  pub limit : k.merger.limit_extended ≡ false

-- it does not hold the lock, and no freeze is half done
abbrev pub IsOut : Known → ℕ → Type 0
IsOut k merges = IsBetweenFreezes false k merges

-- nothing is frozen after so many merges
pub record IsClean (k : Known) (merges : ℕ) : Type 0 where
  pub out : IsOut k merges
  pub clean : is_clean k.merger.phase ≡ true

-- the epoch behind so many merges is frozen
pub record IsFrozen (k : Known) (merges : ℕ) : Type 0 where
  pub out : IsOut k merges
  pub frozen : is_frozen k.merger.phase ≡ true

-- nothing is frozen after so many merges, and it has just entered the lock
pub record HoldsClean (k : Known) (merges : ℕ) : Type 0 where
  pub held : IsBetweenFreezes true k merges
  pub clean : is_clean k.merger.phase ≡ true
  pub alone : HoldsAloneAsMerger k

-- it froze the epoch behind so many merges, and has held the lock so often, and found it held so
-- often, both modulo 2^64
pub record Freezes (old new : Known) (merges holds busy : ℕ) : Type 0 where
  pub frozen : IsFrozen new merges
  pub floor : new.merger.floor ≡ old.merger.floor
  pub rounds : new.merger.rounds ≡ old.merger.rounds
  pub noted : new.merger.noted ≡ None
  pub holds_is : new.merger.holds ≡ holds
  pub busy_is : new.merger.busy ≡ busy
  pub looks : new.merger.clock_looks ≡ old.merger.clock_looks
  pub found : new.merger.clock_found ≡ old.merger.clock_found

-- it goes on holding the lock, and has padded cells at most
pub record HoldsOn (old new : Known) : Type 0 where
  pub layout : new.layout ≡ old.layout
  pub exclusive : new.merger.exclusive ≡ true
  pub view : new.merger ≡ record old.merger { padded = new.merger.padded }
