-- What the lines of a script say, as lines of a text.
use Rattle.std.proofs.Common.{◌≡◌, ◌+◌, ◌-◌, ◌≤◌, ℕ, List, Bool, true, Option, Some}
use Rattle.std.proofs.Common.{None, Ok, Err, IfSome, inl, inr, subst, arith}
use Rattle.clsm_store_calls.specs.Seats.{StoreId}
use Rattle.clsm_text.proofs.Inputs.{LeadsTo, Tells, leads_on, stops_at_line}
use Rattle.clsm_text.specs.Failure.{failure_at}
use Rattle.clsm_text.specs.Line.{IsGood}
use Rattle.clsm_text.specs.Taken.{StandsFor, TakesLine}
use Rattle.clsm_text.specs.declared.line.LineError.{LineError}
use Rattle.clsm_text.specs.declared.line.LineError.TheVariants.{Bad, Memory}
use Rattle.clsm_script.specs.Command.{IsCommand}
use Rattle.clsm_script.specs.Line.{Reads}
use Rattle.clsm_script.specs.Script.{StopsPlay}
use Rattle.clsm_script.specs.declared.session.Session.{Session}
use Rattle.clsm_script.specs.declared.command.Command.{Command}

-- a line that is read is good
pub reads_good : (line : List ℕ) (said : Option Command) → Reads line (Ok said) →
    IsGood IsCommand line
reads_good line None comment = inl comment
reads_good line (Some command) (is_said, text, says) = inr (text, (command, says))

-- what is said by what is kept of a line is said by the line
pub reads_whole : (whole line : List ℕ) (said : Option Command) → StandsFor whole line →
    Reads line (Ok said) → Reads whole (Ok said)
reads_whole whole line said (inl same) reads = subst (λ (l : List ℕ). Reads l (Ok said)) same reads
reads_whole whole line None (inr long) comment = long.silent.1 comment
reads_whole whole line (Some command) (inr long) (is_said, text, says) =
    let more = long.too_long (λ comment. is_said (long.silent.0 comment)) in
    let short = text.0 in
    absurd (omega arith)

-- it leads on to the next line
pub leads_past : (old now new : Option (List ℕ)) (line text : List ℕ) (said : Option Command)
    (found : Bool) (count : ℕ) → LeadsTo IsCommand old now count → Tells now found →
    found ≡ true → IfSome now (λ bytes. TakesLine bytes line new) → text ≡ line →
    Reads text (Ok said) → LeadsTo IsCommand old new (count + 1)
leads_past old now new line text said found count leads tells some takes is reads =
    leads_on IsCommand old now new line found count leads tells some takes
    (reads_good line said (subst (λ (l : List ℕ). Reads l (Ok said)) is reads))

-- a line that is not read stops the play
pub stops_at_error : (old now new : Option (List ℕ)) (line : List ℕ) (found : Bool) (number : ℕ)
    (error : LineError) (store : StoreId) (session : Session) → LeadsTo IsCommand old now (number - 1) →
    Tells now found → found ≡ true → IfSome now (λ bytes. TakesLine bytes line new) → 1 ≤ number →
    Reads line (Err error) → StopsPlay store old session (failure_at number error)
stops_at_error old now new line found number Bad store session leads tells some takes counted bad =
    stops_at_line IsCommand old now new line found number Bad leads tells some takes counted
    (λ _. bad)
stops_at_error old now new line found number Memory store session leads tells some takes counted wanted = tt
