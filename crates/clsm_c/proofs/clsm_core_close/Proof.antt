-- `clsm_core_close` meets its contract: a handle that C gives back.
use Rattle.clsm_c.proofs.GivenBack.{given_back}
use Rattle.clsm_c.proofs.Handles.{StoreSlot}
use Rattle.clsm_c.proofs.calls.close.Symbol.{name as safe}
use Rattle.clsm_c.proofs.calls.close.Met as of_thm
use Rattle.clsm_c.specs.contracts.clsm_core_close.Key.{name as key}
use Rattle.clsm_c.proofs.clsm_core_close.Statement.{statement}
use Rattle.clsm_c.proofs.clsm_core_close.Code as code

pub clsm_core_close_spec : {M : Type 1} → statement M
clsm_core_close_spec 𝓤 𝓛 𝓜 𝓡 wired =
    given_back (StoreSlot 𝓛)
    safe 𝓛 𝓜 𝓡 key (code.unfolded 𝓤 𝓛.H 𝓜 𝓡 wired) (of_thm.met 𝓤 𝓛 𝓜 𝓡 (code.calls-clsm_c::calls::close 𝓡.env wired))
