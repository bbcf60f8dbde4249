-- What a pin and an unpin make of a seat, and what they leave of it.
use Rattle.std.specs.Prelude.{◌≡◌, ℕ, ◌*◌, ◌≤◌, ◌++◌, true, false, length, Some, None}
use Rattle.clsm_model.specs.History.{IsBeginning}
use Rattle.clsm_law.specs.declared.step.End.{End}
use Rattle.clsm_law.specs.Views.{next_word}
use Rattle.clsm_law.specs.Relation.{ended_calls, ended_due, ended_snapshot}
use Rattle.clsm_words.specs.declared.known.Known.{Known}
use Rattle.clsm_words.specs.Knowing.{known_of, told_of}
use Rattle.clsm_words.specs.Keeping.{KeepsPast}

-- it holds the component, in a read that has looked at no clock yet and waits for no time; it has
-- reached all that is merged into it
pub record Pins (old new : Known) (component : ℕ) : Type 0 where
  pub keeps : KeepsPast old new
  pub view : new.view ≡ record old.view {
    pin = next_word old.view.pin;
    pinned = true;
    held = Some component;
    pin_clock = None;
    waited = None;
    reached = new.view.reached;
  }
  pub reached : old.view.reached ≤ new.view.reached
  pub merged : component * old.layout.cells ≤ new.view.reached

-- its read has ended so, with its records; what it was told is a beginning of what it knows, if
-- that is as long
pub record Unpins (old new : Known) (end : End) : Type 0 where
  pub keeps : KeepsPast old new
  pub view : new.view ≡ record old.view {
    pin = next_word old.view.pin;
    pinned = false;
    held = None;
    pin_clock = None;
    snapshot = ended_snapshot old.view.snapshot;
    due = ended_due old.view end;
    calls = old.view.calls ++ ended_calls old.number old.view end;
  }
  pub has_told : length old.told ≤ length new.past → IsBeginning (told_of old) (known_of new)
