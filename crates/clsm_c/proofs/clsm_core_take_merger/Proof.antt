-- `clsm_core_take_merger` meets its contract: a handle that is made of another.
use Rattle.clsm_c.specs.Calls.{TakesMerger}
use Rattle.clsm_c.specs.contracts.slots.StoreSlot as handle
use Rattle.clsm_c.specs.contracts.types.CoreCode as answered
use Rattle.clsm_c.proofs.Exporting.{single}
use Rattle.clsm_c.proofs.Dealt.{dealt}
use Rattle.clsm_c.proofs.Handles.{MergerSlot}
use Rattle.clsm_c.proofs.calls.take_merger.Symbol.{name as safe}
use Rattle.clsm_c.proofs.calls.take_merger.Met as of_thm
use Rattle.clsm_c.specs.contracts.clsm_core_take_merger.Key.{name as key}
use Rattle.clsm_c.proofs.clsm_core_take_merger.Statement.{statement}
use Rattle.clsm_c.proofs.clsm_core_take_merger.Code as code

pub clsm_core_take_merger_spec : {M : Type 1} → statement M
clsm_core_take_merger_spec 𝓤 𝓛 𝓜 𝓡 wired =
    dealt (single handle.the_row tt) (MergerSlot 𝓛) (single answered.the_row tt)
    (λ old new answer made. TakesMerger old.handles new.handles answer made.merger)
    safe 𝓛 𝓜 𝓡 key (code.unfolded 𝓤 𝓛.H 𝓜 𝓡 wired) (of_thm.met 𝓤 𝓛 𝓜 𝓡 (code.calls-clsm_c::calls::take_merger 𝓡.env wired))
