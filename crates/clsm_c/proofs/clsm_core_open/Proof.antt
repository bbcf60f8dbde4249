-- `clsm_core_open` meets its contract: a handle that is made for C.
use Rattle.clsm_c.specs.Calls.{Opens}
use Rattle.clsm_c.specs.contracts.types.CoreSizes as asked
use Rattle.clsm_c.specs.contracts.types.CoreCode as answered
use Rattle.clsm_c.proofs.Exporting.{single}
use Rattle.clsm_c.proofs.HandedOut.{handed_out}
use Rattle.clsm_c.proofs.Handles.{StoreSlot}
use Rattle.clsm_c.proofs.calls.open.Symbol.{name as safe}
use Rattle.clsm_c.proofs.calls.open.Met as of_thm
use Rattle.clsm_c.specs.contracts.clsm_core_open.Key.{name as key}
use Rattle.clsm_c.proofs.clsm_core_open.Statement.{statement}
use Rattle.clsm_c.proofs.clsm_core_open.Code as code

pub clsm_core_open_spec : {M : Type 1} → statement M
clsm_core_open_spec 𝓤 𝓛 𝓜 𝓡 wired =
    handed_out (StoreSlot 𝓛) (single asked.the_row tt) (single answered.the_row tt)
    (λ ask answer made. Opens ask answer made.handles)
    safe 𝓛 𝓜 𝓡 key (code.unfolded 𝓤 𝓛.H 𝓜 𝓡 wired) (of_thm.met 𝓤 𝓛 𝓜 𝓡 (code.calls-clsm_c::calls::open 𝓡.env wired))
