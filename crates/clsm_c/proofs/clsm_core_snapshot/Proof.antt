-- `clsm_core_snapshot` meets its contract: a call by a handle, with an answer alone.
use Rattle.clsm_store.specs.Promises.{OpensSnapshot}
use Rattle.clsm_c.specs.Calls.{ByCaller, TellsOpened, Told}
use Rattle.clsm_c.specs.contracts.slots.CallerSlot as handle
use Rattle.clsm_c.specs.contracts.types.CoreTime as answered
use Rattle.clsm_c.proofs.Exporting.{single}
use Rattle.clsm_c.proofs.LentOne.{lent_one}
use Rattle.clsm_c.proofs.Passed.{answer}
use Rattle.clsm_c.proofs.calls.snapshot.Symbol.{name as safe}
use Rattle.clsm_c.proofs.calls.snapshot.Met as of_thm
use Rattle.clsm_c.specs.contracts.clsm_core_snapshot.Key.{name as key}
use Rattle.clsm_c.proofs.clsm_core_snapshot.Statement.{statement}
use Rattle.clsm_c.proofs.clsm_core_snapshot.Code as code

pub clsm_core_snapshot_spec : {M : Type 1} → statement M
clsm_core_snapshot_spec 𝓤 𝓛 𝓜 𝓡 wired =
    lent_one (single handle.the_row tt) (answer answered.the_row)
    (λ old answer new code. ByCaller (λ before after. Told (OpensSnapshot before after) (TellsOpened answer code))
    old.caller new.caller code)
    safe 𝓛 𝓜 𝓡 key (code.unfolded 𝓤 𝓛.H 𝓜 𝓡 wired) (of_thm.met 𝓤 𝓛 𝓜 𝓡 (code.calls-clsm_c::calls::snapshot 𝓡.env wired))
