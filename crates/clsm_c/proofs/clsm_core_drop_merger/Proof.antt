-- `clsm_core_drop_merger` meets its contract: a handle that C gives back.
use Rattle.clsm_c.proofs.GivenBack.{given_back}
use Rattle.clsm_c.proofs.Handles.{MergerSlot}
use Rattle.clsm_c.proofs.calls.drop_merger.Symbol.{name as safe}
use Rattle.clsm_c.proofs.calls.drop_merger.Met as of_thm
use Rattle.clsm_c.specs.contracts.clsm_core_drop_merger.Key.{name as key}
use Rattle.clsm_c.proofs.clsm_core_drop_merger.Statement.{statement}
use Rattle.clsm_c.proofs.clsm_core_drop_merger.Code as code

pub clsm_core_drop_merger_spec : {M : Type 1} → statement M
clsm_core_drop_merger_spec 𝓤 𝓛 𝓜 𝓡 wired =
    given_back (MergerSlot 𝓛)
    safe 𝓛 𝓜 𝓡 key (code.unfolded 𝓤 𝓛.H 𝓜 𝓡 wired) (of_thm.met 𝓤 𝓛 𝓜 𝓡 (code.calls-clsm_c::calls::drop_merger 𝓡.env wired))
