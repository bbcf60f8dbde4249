-- What opening a store comes to, and why it is refused.
use Rattle.std.specs.Prelude.{◌≡◌, All, IfErr, IfOk, OnOk, Result}
use Rattle.clsm_model.specs.declared.config.Config.{Config}
use Rattle.clsm_model.specs.declared.config.OpenError.{OpenError}
use Rattle.clsm_model.specs.declared.config.OpenError.TheVariants.{Memory}
use Rattle.clsm_model.specs.Config.{IsSound, IsFirstFault}
use Rattle.clsm_store_calls.specs.Seats.{AreNew, HasSizes, IsNewMerger}
use Rattle.clsm_store.specs.declared.opening.Opened.{Opened}

-- the first size out of its range, or, where there is none, no memory
abbrev pub IsRefusal : Config → OpenError → Type 0
IsRefusal c Memory = IsSound c
IsRefusal c fault = IsFirstFault c fault

-- open and open_paced
pub record Opens {P : Type 0} (config : Config) (result : Result (Opened P) OpenError) : Type 0 where
  -- opened: each size is in its range
  pub sizes : OnOk result (IsSound config)
  -- the store has these sizes
  pub store : IfOk result (λ opened. HasSizes opened.store config)
  -- there are as many seats as were asked for, in order, and none did anything
  pub seats : IfOk result (λ opened. AreNew opened.store config.seats opened.seats.items)
  -- each is one of the store's
  pub at : IfOk result (λ opened. All (λ seat. seat.store ≡ opened.store) opened.seats.items)
  -- the merger is the store's, and did nothing
  pub merger : IfOk result (λ opened. IsNewMerger opened.store opened.merger)
  -- refused: for the first size out of its range, and else for memory
  pub refusal : IfErr result (IsRefusal config)
