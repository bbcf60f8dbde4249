-- A read at the words, from its pin to its record.
use Rattle.std.specs.Prelude.{◌≡◌, ℕ, ◌+◌, ◌*◌, ◌≤◌, ◌⊎◌, ◌++◌, ◌∷◌, [], true, length, Some, None}
use Rattle.clsm_model.specs.declared.record.Deed.{Deed}
use Rattle.clsm_law.specs.declared.view.Mode.TheVariants.{Free}
use Rattle.clsm_law.specs.Views.{next_word}
use Rattle.clsm_law.specs.OpenSteps.{open_time}
use Rattle.clsm_law.specs.Relation.{call_of}
use Rattle.clsm_words.specs.declared.known.Known.{Known}
use Rattle.clsm_store_calls.specs.Resting.{GoesOn}
use Rattle.clsm_store_calls.specs.Tally.{TakesNoLock, tally_of}

-- a read of the held component may be at the time: nothing that is merged into it is later, or the
-- seat's open snapshot is of that time
abbrev pub MayReadAt : Known → ℕ → ℕ → Type 0
MayReadAt k component time = (component * k.layout.cells ≤ time) ⊎ (open_time k.view.snapshot ≡ Some time)

-- the seat may read what stands below the time: it holds the component, which has all of that, and
-- knows what each time below came to
pub record MayReadBelow (k : Known) (component time : ℕ) : Type 0 where
  pub held : k.view.held ≡ Some component
  pub may : MayReadAt k component time
  pub within : time ≤ (component + 2) * k.layout.cells
  pub settled : time ≤ length k.past

-- it pinned the component, and looked at the clock, which gave it the time
pub record BeginsRead (old new : Known) (component t : ℕ) : Type 0 where
  pub goes_on : GoesOn old new
  pub free : new.view.mode ≡ Free
  pub unlooked : new.view.fresh_lock ≡ None
  pub undrawn : new.view.drawn ≡ None
  pub pinned : new.view.pinned ≡ true
  pub pin : new.view.pin ≡ next_word old.view.pin
  pub calls : new.view.calls ≡ old.view.calls
  pub due : new.view.due ≡ old.view.due
  pub held : new.view.held ≡ Some component
  pub clock : new.view.clock ≡ Some t
  pub pin_clock : new.view.pin_clock ≡ Some t
  pub reached : component * new.layout.cells ≤ new.view.reached
  pub above : old.view.due ≤ t
  pub told : new.told ≡ old.told
  pub told_batches : new.told_batches ≡ old.told_batches
  pub told_below : length old.told ≤ t
  pub heard_below : old.heard ≤ t
  pub from : component * new.layout.cells ≤ t
  pub within : t ≤ (component + 2) * new.layout.cells
  pub unlocked : TakesNoLock (tally_of old) (tally_of new)

-- it read at the time, which is the clock as it looked at it last and up to which it knows all, and
-- the read is recorded
pub record ReadsAt (old new : Known) (t : ℕ) (deed : Deed) : Type 0 where
  pub goes_on : GoesOn old new
  pub calls : new.view.calls ≡ old.view.calls ++ call_of old.number t deed ∷ []
  pub due : new.view.due ≡ t
  pub above : old.view.due ≤ t
  pub reached : t ≤ length new.past
  pub clock : new.view.clock ≡ Some t
  pub unlocked : TakesNoLock (tally_of old) (tally_of new)
