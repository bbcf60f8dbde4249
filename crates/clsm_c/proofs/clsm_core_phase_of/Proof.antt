-- `clsm_core_phase_of` meets its contract: a call by a handle, with an answer alone.
use Rattle.clsm_c.specs.Calls.{ByMerger, LooksAtPhase}
use Rattle.clsm_c.specs.contracts.slots.MergerSlot as handle
use Rattle.clsm_c.specs.contracts.types.CorePhase as answered
use Rattle.clsm_c.proofs.Exporting.{single}
use Rattle.clsm_c.proofs.LentOne.{lent_one}
use Rattle.clsm_c.proofs.Passed.{answer}
use Rattle.clsm_c.proofs.merging.phase_of.Symbol.{name as safe}
use Rattle.clsm_c.proofs.merging.phase_of.Met as of_thm
use Rattle.clsm_c.specs.contracts.clsm_core_phase_of.Key.{name as key}
use Rattle.clsm_c.proofs.clsm_core_phase_of.Statement.{statement}
use Rattle.clsm_c.proofs.clsm_core_phase_of.Code as code

pub clsm_core_phase_of_spec : {M : Type 1} → statement M
clsm_core_phase_of_spec 𝓤 𝓛 𝓜 𝓡 wired =
    lent_one (single handle.the_row tt) (answer answered.the_row)
    (λ old answer new code. ByMerger (LooksAtPhase answer code) old.merger new.merger code)
    safe 𝓛 𝓜 𝓡 key (code.unfolded 𝓤 𝓛.H 𝓜 𝓡 wired) (of_thm.met 𝓤 𝓛 𝓜 𝓡 (code.calls-clsm_c::merging::phase_of 𝓡.env wired))
