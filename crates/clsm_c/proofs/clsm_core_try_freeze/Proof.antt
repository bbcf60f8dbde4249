-- `clsm_core_try_freeze` meets its contract: a call by a handle, with a question alone.
use Rattle.clsm_store.specs.Freezing.{TryFreezes}
use Rattle.clsm_c.specs.Calls.{ByMerger, TellsFreeze, Told}
use Rattle.clsm_c.specs.contracts.slots.MergerSlot as handle
use Rattle.clsm_c.specs.contracts.types.CoreUsed as asked
use Rattle.clsm_c.proofs.Exporting.{single}
use Rattle.clsm_c.proofs.LentOne.{lent_one}
use Rattle.clsm_c.proofs.Passed.{value}
use Rattle.clsm_c.proofs.merging.try_freeze.Symbol.{name as safe}
use Rattle.clsm_c.proofs.merging.try_freeze.Met as of_thm
use Rattle.clsm_c.specs.contracts.clsm_core_try_freeze.Key.{name as key}
use Rattle.clsm_c.proofs.clsm_core_try_freeze.Statement.{statement}
use Rattle.clsm_c.proofs.clsm_core_try_freeze.Code as code

pub clsm_core_try_freeze_spec : {M : Type 1} → statement M
clsm_core_try_freeze_spec 𝓤 𝓛 𝓜 𝓡 wired =
    lent_one (single handle.the_row tt) (value asked.the_row)
    (λ old ask new code. ByMerger (λ before after. Told (TryFreezes ask.used before after) (TellsFreeze code))
    old.merger new.merger code)
    safe 𝓛 𝓜 𝓡 key (code.unfolded 𝓤 𝓛.H 𝓜 𝓡 wired) (of_thm.met 𝓤 𝓛 𝓜 𝓡 (code.calls-clsm_c::merging::try_freeze 𝓡.env wired))
