-- The answers that end a script.
use Rattle.std.specs.Prelude.{⊤, Err}
use Rattle.clsm_audit.specs.declared.fault.AuditError.TheVariants.{Fault, Memory}
use Rattle.clsm_store.specs.Play.{WantsMemory as CallWantsMemory}
use Rattle.clsm_script.specs.declared.answer.Answer.{Answer}
use Rattle.clsm_script.specs.declared.answer.Answer.TheVariants.{Call, Audit}

-- the command was refused memory
abbrev pub WantsMemory : Answer → Type 0
WantsMemory (Call answer) = CallWantsMemory answer
WantsMemory (Audit (Err Memory)) = ⊤
WantsMemory _ = ⊥

-- an audit found a fault
abbrev pub IsFault : Answer → Type 0
IsFault (Audit (Err (Fault _ _))) = ⊤
IsFault _ = ⊥
