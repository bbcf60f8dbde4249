-- `clsm_core_get_many` meets its contract: a call by a handle that fills rows.
use Rattle.clsm_c.specs.Calls.{FillsValues, GetsValues}
use Rattle.clsm_c.specs.contracts.slots.CallerSlot as handle
use Rattle.clsm_c.specs.contracts.types.CoreKey as asked
use Rattle.clsm_c.specs.contracts.types.CoreValue as listed
use Rattle.clsm_c.specs.contracts.types.CoreTime as answered
use Rattle.clsm_c.proofs.Exporting.{single}
use Rattle.clsm_c.proofs.Filled.{filled}
use Rattle.clsm_c.proofs.Passed.{rows}
use Rattle.clsm_c.proofs.many.get_many.Symbol.{name as safe}
use Rattle.clsm_c.proofs.many.get_many.Met as of_thm
use Rattle.clsm_c.specs.contracts.clsm_core_get_many.Key.{name as key}
use Rattle.clsm_c.proofs.clsm_core_get_many.Statement.{statement}
use Rattle.clsm_c.proofs.clsm_core_get_many.Code as code

pub clsm_core_get_many_spec : {M : Type 1} → statement M
clsm_core_get_many_spec 𝓤 𝓛 𝓜 𝓡 wired =
    filled (single handle.the_row tt) (rows asked.the_row) (single listed.the_row tt) (single answered.the_row tt)
    (λ old ask before new rows answer code. FillsValues (GetsValues answer code) old.caller ask before new.caller rows code)
    safe 𝓛 𝓜 𝓡 key (code.unfolded 𝓤 𝓛.H 𝓜 𝓡 wired) (of_thm.met 𝓤 𝓛 𝓜 𝓡 (code.calls-clsm_c::many::get_many 𝓡.env wired))
