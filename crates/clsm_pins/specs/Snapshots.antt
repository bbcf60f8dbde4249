-- What the opening and the closing of a snapshot make of a seat.
use Rattle.std.specs.Prelude.{◌≡◌, ℕ, ◌≤◌, ◌++◌, ◌∷◌, [], Some}
use Rattle.clsm_model.specs.declared.record.Deed.TheVariants.{Close}
use Rattle.clsm_law.specs.declared.view.SnapshotState.TheVariants.{Absent}
use Rattle.clsm_law.specs.OpenSteps.{timed}
use Rattle.clsm_law.specs.Relation.{call_of}
use Rattle.clsm_words.specs.declared.known.Known.{Known}
use Rattle.clsm_words.specs.Knowing.{IsNearHeld}
use Rattle.clsm_words.specs.Keeping.{KeepsPast}

-- It noted a time, and then looked at the clock, which gave the snapshot its time t; no record has
-- the snapshot yet. The time is as that of each read: not below the due nor the past, and of the
-- epochs of the component held
pub record NotesSnapshot (old new : Known) (t : ℕ) : Type 0 where
  pub keeps : KeepsPast old new
  pub view : new.view ≡ record old.view { fresh_clock = Some t; clock = Some t; pin_clock = Some t; snapshot = new.view.snapshot }
  pub timed : timed new.view.snapshot ≡ Some t
  pub due : old.view.due ≤ t
  pub past : old.view.past ≤ t
  pub near : IsNearHeld old.layout old.view.held t

-- the snapshot of this time is closed, and that is recorded
pub record ClosesSnapshot (old new : Known) (t : ℕ) : Type 0 where
  pub keeps : KeepsPast old new
  pub view : new.view ≡ record old.view { snapshot = Absent; calls = old.view.calls ++ call_of old.number t Close ∷ [] }
