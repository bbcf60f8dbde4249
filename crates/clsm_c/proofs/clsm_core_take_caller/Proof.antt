-- `clsm_core_take_caller` meets its contract: a handle that is made of another.
use Rattle.clsm_c.specs.Calls.{TakesCaller}
use Rattle.clsm_c.specs.contracts.slots.StoreSlot as handle
use Rattle.clsm_c.specs.contracts.types.CoreCode as answered
use Rattle.clsm_c.proofs.Exporting.{single}
use Rattle.clsm_c.proofs.Dealt.{dealt}
use Rattle.clsm_c.proofs.Handles.{CallerSlot}
use Rattle.clsm_c.proofs.calls.take_caller.Symbol.{name as safe}
use Rattle.clsm_c.proofs.calls.take_caller.Met as of_thm
use Rattle.clsm_c.specs.contracts.clsm_core_take_caller.Key.{name as key}
use Rattle.clsm_c.proofs.clsm_core_take_caller.Statement.{statement}
use Rattle.clsm_c.proofs.clsm_core_take_caller.Code as code

pub clsm_core_take_caller_spec : {M : Type 1} → statement M
clsm_core_take_caller_spec 𝓤 𝓛 𝓜 𝓡 wired =
    dealt (single handle.the_row tt) (CallerSlot 𝓛) (single answered.the_row tt)
    (λ old new answer made. TakesCaller old.handles new.handles answer made.caller)
    safe 𝓛 𝓜 𝓡 key (code.unfolded 𝓤 𝓛.H 𝓜 𝓡 wired) (of_thm.met 𝓤 𝓛 𝓜 𝓡 (code.calls-clsm_c::calls::take_caller 𝓡.env wired))
