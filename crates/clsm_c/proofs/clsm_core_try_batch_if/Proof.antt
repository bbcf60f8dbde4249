-- `clsm_core_try_batch_if` meets its contract: a call by a handle, with three lists of rows.
use Rattle.clsm_c.specs.Conditional.{BatchesRowsIf}
use Rattle.clsm_c.specs.Calls.{ByCaller}
use Rattle.clsm_c.specs.contracts.slots.CallerSlot as handle
use Rattle.clsm_c.specs.contracts.types.CoreRow as one
use Rattle.clsm_c.specs.contracts.types.CoreRangeCount as two
use Rattle.clsm_c.specs.contracts.types.CoreUnmet as answered
use Rattle.clsm_c.proofs.Exporting.{single}
use Rattle.clsm_c.proofs.LentFour.{lent_four}
use Rattle.clsm_c.proofs.Passed.{answer, rows}
use Rattle.clsm_c.proofs.calls.try_batch_if.Symbol.{name as safe}
use Rattle.clsm_c.proofs.calls.try_batch_if.Met as of_thm
use Rattle.clsm_c.specs.contracts.clsm_core_try_batch_if.Key.{name as key}
use Rattle.clsm_c.proofs.clsm_core_try_batch_if.Statement.{statement}
use Rattle.clsm_c.proofs.clsm_core_try_batch_if.Code as code

pub clsm_core_try_batch_if_spec : {M : Type 1} → statement M
clsm_core_try_batch_if_spec 𝓤 𝓛 𝓜 𝓡 wired =
    lent_four (single handle.the_row tt) (rows one.the_row) (rows two.the_row) (rows one.the_row) (answer answered.the_row)
    (λ old first second third new answer code. ByCaller (BatchesRowsIf first second third answer code)
    old.caller new.caller code)
    safe 𝓛 𝓜 𝓡 key (code.unfolded 𝓤 𝓛.H 𝓜 𝓡 wired) (of_thm.met 𝓤 𝓛 𝓜 𝓡 (code.calls-clsm_c::calls::try_batch_if 𝓡.env wired))
