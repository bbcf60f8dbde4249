-- The scripts that are played to their end, and why others are not.
use Rattle.std.specs.Prelude.{ℕ, List, [], ◌∷◌, Contains, Option, ⊤}
use Rattle.clsm_model.specs.Config.{IsSound}
use Rattle.clsm_model.specs.declared.config.Config.{Config}
use Rattle.clsm_store.specs.Opening.{IsRefusal}
use Rattle.clsm_store_calls.specs.Seats.{StoreId}
use Rattle.clsm_text.specs.Failure.{IsOutside, StopsReading}
use Rattle.clsm_text.specs.Line.{AllGood}
use Rattle.clsm_text.specs.declared.failure.Failure.{Failure}
use Rattle.clsm_text.specs.declared.failure.Failure.TheVariants.{Fault, Refused}
use Rattle.clsm_script.specs.Command.{IsCommand}
use Rattle.clsm_script.specs.Session.{IsFaulted}
use Rattle.clsm_script.specs.declared.session.Session.{Session}

-- each line of the bytes says nothing, or a command
abbrev pub IsScript : List ℕ → Type 0
IsScript bytes = AllGood IsCommand bytes

-- why the play of an input stops, where its bytes are known: at an audit that finds a fault, at a
-- line that says no command, or for the world's sake
abbrev pub StopsPlay : StoreId → Option (List ℕ) → Session → Failure → Type 0
StopsPlay store input session Fault = IsFaulted store session
StopsPlay store input session failure = StopsReading IsCommand input failure

-- why the play of a line stops, where the line says a command: for the world's sake, or at an audit
-- that finds a fault
abbrev pub StopsLine : Failure → Type 0
StopsLine Fault = ⊤
StopsLine failure = IsOutside failure

-- why a script with a store of these sizes is not played to its end, which is never a fault
abbrev pub StopsScript : Config → Option (List ℕ) → Failure → Type 0
StopsScript config input (Refused error) = IsRefusal config error
StopsScript config input failure = IsSound config × StopsReading IsCommand input failure

-- 0 where a script is played to its end; 1 for a bad line, or a failed read or write; 3 for a
-- refused opening, or if memory runs out
abbrev pub IsStatus : ℕ → Type 0
IsStatus status = Contains (0 ∷ 1 ∷ 3 ∷ []) status
