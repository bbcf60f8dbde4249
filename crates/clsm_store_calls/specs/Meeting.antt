-- Meetings at the words: a read that ends with no record.
use Rattle.std.specs.Prelude.{◌≡◌, ℕ, ◌≤◌, length, Some}
use Rattle.clsm_model.specs.History.{IsBeginning}
use Rattle.clsm_words.specs.declared.known.Known.{Known}
use Rattle.clsm_words.specs.Knowing.{Agrees, known_of, told_of}
use Rattle.clsm_store_calls.specs.Resting.{GoesOn, OnlyLooks}
use Rattle.clsm_store_calls.specs.Tally.{TakesNoLock, tally_of}

-- it read at the time, which is the clock as it looked at it then and is now its due, and knows all
-- that it was told
pub record MeetsAt (old new : Known) (t : ℕ) : Type 0 where
  pub goes_on : GoesOn old new
  pub calls : new.view.calls ≡ old.view.calls
  pub due : new.view.due ≡ t
  pub read : new.view.clock ≡ Some t
  pub above : old.view.due ≤ t
  pub reaches : t ≤ length new.past
  pub has_told : IsBeginning (told_of old) (known_of new)
  pub heard : old.heard ≤ t
  pub unlocked : TakesNoLock (tally_of old) (tally_of new)

-- one look, after which its calls are known to agree with what it was told: contracts see the same
-- seat
pub record Confirms (old new : Known) : Type 0 where
  pub only : OnlyLooks old new
  pub tally : tally_of new ≡ tally_of old
  pub clock : new.view.clock ≡ old.view.clock
  pub agrees : Agrees old.layout.seats old.number old.view.calls (told_of old)
