-- What handles of a new store are.
use Rattle.std.specs.Prelude.{Option, Some, None, map}
use Rattle.clsm_model.specs.declared.config.Config.{Config}
use Rattle.clsm_store_calls.specs.Seats.{AreNew, HasSizes, IsNewMerger, StoreId}
use Rattle.clsm_store.specs.declared.phase.Phase.{Phase}
use Rattle.clsm_store.specs.declared.phase.Phase.TheVariants.{Clean}
use Rattle.clsm_c.specs.declared.shared.SharedMerger.{SharedMerger}
use Rattle.clsm_c.specs.declared.opening.Handles.{Handles}

-- the store's merger, which did nothing yet
abbrev pub IsNewIn : StoreId → Phase → Type 0
IsNewIn store (Clean clean) = IsNewMerger store clean
IsNewIn store _ = ⊥

abbrev pub IsNew : StoreId → Option SharedMerger → Type 0
IsNew store (Some merger) = IsNewIn store merger.phase
IsNew store None = ⊥

-- a caller for each seat of one store of these sizes, in order, and its merger, none of which did
-- anything
pub record AreHandles (config : Config) (handles : Handles) : Type 0 where
  pub store : StoreId
  pub sized : HasSizes store config
  pub callers : AreNew store config.seats (map (λ caller. caller.seat) handles.callers.items)
  pub merger : IsNew store handles.merger
