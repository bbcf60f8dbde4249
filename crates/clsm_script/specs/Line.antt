-- The lines of a script.
use Rattle.std.specs.Prelude.{◌≢◌, ℕ, ⊤, List, [], Option, Some, None, Result, Ok, Err}
use Rattle.clsm_text.specs.Line.{words_of, IsBad, IsComment, IsText}
use Rattle.clsm_text.specs.Taken.{TakesLine}
use Rattle.clsm_text.specs.declared.line.LineError.{LineError}
use Rattle.clsm_text.specs.declared.line.LineError.TheVariants.{Bad, Memory}
use Rattle.clsm_script.specs.Command.{Says, IsCommand}
use Rattle.clsm_script.specs.declared.command.Command.{Command}

-- what a line says: nothing, or a command; a line is bad where it says something, and is no text or says
-- no command
abbrev pub Reads : List ℕ → Result (Option Command) LineError → Type 0
Reads line (Ok None) = IsComment (words_of line)
Reads line (Ok (Some command)) =
    (¬ IsComment (words_of line)) × IsText line × Says command (words_of line)
Reads line (Err Bad) = IsBad IsCommand line
Reads line (Err Memory) = ⊤

-- the next line of the bytes is taken, and says the command
pub record TakesCommand (bytes : List ℕ) (rest : Option (List ℕ)) (command : Command) : Type 0 where
  pub line : List ℕ
  pub some : bytes ≢ []
  pub takes : TakesLine bytes line rest
  pub is_said : ¬ IsComment (words_of line)
  pub text : IsText line
  pub says : Says command (words_of line)
