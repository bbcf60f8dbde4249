-- What a held component has of each key, and the walks along it.
use Rattle.std.specs.Prelude.{◌≡◌, ℕ, ◌+◌, ◌*◌, ◌/◌, ◌%◌, ◌≤◌, nat_lt, cond, false, min, length, Option, Some, None}
use Rattle.clsm_model.specs.History.{or_else}
use Rattle.clsm_levels.specs.declared.entry.Entry.{Entry}
use Rattle.clsm_levels.specs.Entry.{entries_of, first_below}
use Rattle.clsm_levels.specs.Run.{first_in_runs}
use Rattle.clsm_law.specs.Worlds.{runs_of}
use Rattle.clsm_words.specs.declared.known.Known.{Known}
use Rattle.clsm_words.specs.Knowing.{row_of}
use Rattle.clsm_scan.specs.declared.any_walk.AnyWalk.{AnyWalk}
use Rattle.clsm_scan.specs.declared.any_walk.AnyWalk.TheVariants.{AlongEpoch, AlongRun}

-- the newest write of the key below the time: of those of the component's epochs, which the seat
-- knows, and else of those that its runs keep
abbrev pub found_in_component : Known → ℕ → ℕ → ℕ → Option Entry
found_in_component k component until key =
    or_else (first_below (entries_of k.past (component * k.layout.cells) until) key until) (first_in_runs (runs_of (row_of k) component) key until)

-- that of its epochs alone
abbrev pub found_in_epochs : Known → ℕ → ℕ → ℕ → Option Entry
found_in_epochs k component until key = first_below (entries_of k.past (component * k.layout.cells) until) key until

-- that of its runs alone
abbrev pub found_in_runs : Known → ℕ → ℕ → ℕ → Option Entry
found_in_runs k component until key = first_in_runs (runs_of (row_of k) component) key until

-- the seat holds the component, and knows what each of its times below `until` came to, which is
-- not past its later epoch
pub record MayScan (k : Known) (component until : ℕ) : Type 0 where
  pub held : k.view.held ≡ Some component
  pub within : until ≤ (component + 2) * k.layout.cells
  pub settled : until ≤ length k.past

-- the walk along an epoch, where it begins below `until`: for its writes below that
abbrev pub epoch_walk : ℕ → ℕ → ℕ → ℕ → ℕ → Option AnyWalk
epoch_walk component number first cells until =
    cond (nat_lt first until)
    (Some (AlongEpoch (record {
      epoch = record { component = component; number = number; first = first; until = min until (first + cells) };
      stand = record { ahead = None; leaps = false };
      last = None;
    }))) None

-- the walk along the run at a place
abbrev pub run_walk : ℕ → ℕ → ℕ → AnyWalk
run_walk component place until =
    AlongRun (record {
      run = record { component = component; place = place };
      until = until;
      passage = record { position = 0; count = 0; are_all = false };
      last = None;
    })

-- that along the run at a place of level 0, where the component names it
abbrev pub level_zero_walk : ℕ → ℕ → ℕ → Option AnyWalk
level_zero_walk component place until = cond (nat_lt place (component % 4)) (Some (run_walk component place until)) None

-- that along the run of level 1
abbrev pub level_one_walk : ℕ → ℕ → AnyWalk
level_one_walk component until = run_walk component (3 + component / 4 % 2) until
