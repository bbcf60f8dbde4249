-- `clsm_core_try_add` meets its contract: a call by a handle.
use Rattle.clsm_model.specs.Changes.{Adds}
use Rattle.clsm_store.specs.Promises.{TriesToChangeBy}
use Rattle.clsm_c.specs.Calls.{ByCaller, TellsChange, Told}
use Rattle.clsm_c.specs.contracts.slots.CallerSlot as handle
use Rattle.clsm_c.specs.contracts.types.CoreAdding as asked
use Rattle.clsm_c.specs.contracts.types.CoreChanged as answered
use Rattle.clsm_c.proofs.Exporting.{single}
use Rattle.clsm_c.proofs.Lent.{lent}
use Rattle.clsm_c.proofs.Passed.{answer, value}
use Rattle.clsm_c.proofs.calls.try_add.Symbol.{name as safe}
use Rattle.clsm_c.proofs.calls.try_add.Met as of_thm
use Rattle.clsm_c.specs.contracts.clsm_core_try_add.Key.{name as key}
use Rattle.clsm_c.proofs.clsm_core_try_add.Statement.{statement}
use Rattle.clsm_c.proofs.clsm_core_try_add.Code as code

pub clsm_core_try_add_spec : {M : Type 1} → statement M
clsm_core_try_add_spec 𝓤 𝓛 𝓜 𝓡 wired =
    lent (single handle.the_row tt) (value asked.the_row) (answer answered.the_row)
    (λ old ask new answer code. ByCaller (λ before after. Told (TriesToChangeBy before after ask.key (Adds ask.by)) (TellsChange answer code))
    old.caller new.caller code)
    safe 𝓛 𝓜 𝓡 key (code.unfolded 𝓤 𝓛.H 𝓜 𝓡 wired) (of_thm.met 𝓤 𝓛 𝓜 𝓡 (code.calls-clsm_c::calls::try_add 𝓡.env wired))
