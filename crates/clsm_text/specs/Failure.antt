-- How a program ends where it does not end well.
use Rattle.std.specs.Prelude.{ℕ, ⊤, List, Option, IfSome}
use Rattle.clsm_text.specs.Line.{IsFirstBad}
use Rattle.clsm_text.specs.declared.failure.Failure.{Failure}
use Rattle.clsm_text.specs.declared.failure.Failure.TheVariants.{BadLine, Device, Fault}
use Rattle.clsm_text.specs.declared.failure.Failure.TheVariants.{Refused, Memory}
use Rattle.clsm_text.specs.declared.line.LineError.{LineError}
use Rattle.clsm_text.specs.declared.line.LineError.TheVariants.{Bad, Memory as LineMemory}

-- the exit status of the program
abbrev pub status_of : Failure → ℕ
status_of (BadLine _) = 1
status_of Device = 1
status_of Fault = 2
status_of (Refused _) = 3
status_of Memory = 3

-- why a program fails where the line of this number is not read
abbrev pub failure_at : ℕ → LineError → Failure
failure_at number Bad = BadLine number
failure_at number LineMemory = Memory

-- the failure is the world's: a device failed, or memory was wanted
abbrev pub IsOutside : Failure → Type 0
IsOutside Device = ⊤
IsOutside Memory = ⊤
IsOutside _ = ⊥

-- why the lines of an input are not all read, where its bytes are known: a line is the first whose
-- words are not known, or the world fails
abbrev pub StopsReading : (List (List ℕ) → Type 0) → Option (List ℕ) → Failure → Type 0
StopsReading IsKnown input (BadLine number) =
    IfSome input (λ bytes. IsFirstBad IsKnown bytes number)
StopsReading IsKnown input failure = IsOutside failure
