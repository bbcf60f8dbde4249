-- Snapshots at the words.
use Rattle.std.specs.Prelude.{◌≡◌, ℕ, ◌≤◌, ◌++◌, ◌∷◌, [], length, Some}
use Rattle.clsm_model.specs.History.{IsBeginning}
use Rattle.clsm_model.specs.declared.record.Deed.{Deed}
use Rattle.clsm_model.specs.declared.record.Deed.TheVariants.{Snapshot}
use Rattle.clsm_law.specs.OpenSteps.{open_time}
use Rattle.clsm_law.specs.Relation.{call_of}
use Rattle.clsm_words.specs.declared.known.Known.{Known}
use Rattle.clsm_words.specs.Knowing.{known_of}
use Rattle.clsm_store_calls.specs.Resting.{GoesOn}
use Rattle.clsm_store_calls.specs.Tally.{TakesNoLock, tally_of}

-- it opened a snapshot at the time, which is the clock as it looked at it last and below which the
-- seat knows all, and that is recorded
pub record OpensAt (old new : Known) (t : ℕ) : Type 0 where
  pub number : new.number ≡ old.number
  pub layout : new.layout ≡ old.layout
  pub past : IsBeginning (known_of old) (known_of new)
  pub snapshot : open_time new.view.snapshot ≡ Some t
  pub calls : new.view.calls ≡ old.view.calls ++ call_of old.number t Snapshot ∷ []
  pub due : new.view.due ≡ t
  pub above : old.view.due ≤ t
  pub clock : new.view.clock ≡ Some t
  pub unlocked : TakesNoLock (tally_of old) (tally_of new)

-- it read under the snapshot of this time, up to which it knows all, and the read is recorded there
pub record ReadsUnder (old new : Known) (t : ℕ) (deed : Deed) : Type 0 where
  pub goes_on : GoesOn old new
  pub calls : new.view.calls ≡ old.view.calls ++ call_of old.number t deed ∷ []
  pub due : new.view.due ≡ old.view.due
  pub reached : t ≤ length new.past
  pub tally : tally_of new ≡ tally_of old
