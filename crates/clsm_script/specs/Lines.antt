-- The lines of a script, played one after another on a new store, and what they print.
use Rattle.std.specs.Prelude.{◌≡◌, ◌⊎◌, ℕ, List, [], ◌∷◌, ◌++◌, Option}
use Rattle.std.specs.Io.KnownBytes.{Appends}
use Rattle.clsm_model.specs.declared.config.Config.{Config}
use Rattle.clsm_store_calls.specs.Seats.{AreNew, CleanState, HasSizes, IsNewMerger, StoreId}
use Rattle.clsm_store.specs.declared.phase.Phase.{Phase}
use Rattle.clsm_store.specs.declared.phase.Phase.TheVariants.{Clean}
use Rattle.clsm_store_audit.specs.Settled.{HaveWholeHistory}
use Rattle.clsm_text.specs.Line.{words_of, lines_of, IsComment}
use Rattle.clsm_script.specs.Answer.{IsFault, WantsMemory}
use Rattle.clsm_script.specs.Command.{Says}
use Rattle.clsm_script.specs.Play.{Plays, Turns}
use Rattle.clsm_script.specs.Printed.{answer_text, line_of}
use Rattle.clsm_script.specs.declared.answer.Answer.{Answer}
use Rattle.clsm_script.specs.declared.command.Command.{Command}
use Rattle.clsm_script.specs.declared.session.Session.{Session}

-- where a script stands: its session, the merger's phase, and what it has printed
pub record Stage : Type 0 where
  pub session : Session
  pub phase : Phase
  pub printed : List ℕ

abbrev pub stage_of : Session → Phase → List ℕ → Stage
stage_of session phase printed = record { session = session; phase = phase; printed = printed }

-- the command is played, its answer is printed as a line, and is no fault nor want of memory
pub record PlaysCommand (command : Command) (old new : Stage) : Type 0 where
  pub answer : Answer
  pub plays : Plays command old.session new.session answer
  pub turns : Turns command old.phase new.phase answer
  pub prints : new.printed ≡ old.printed ++ line_of (answer_text answer)
  pub goes_on : ¬ IsFault answer
  pub is_made : ¬ WantsMemory answer

-- the line says nothing, and nothing is done; or it says a command, which is played
abbrev pub PlaysLine : List ℕ → Stage → Stage → Type 0
PlaysLine line old new = (IsComment (words_of line) × (new ≡ old))
    ⊎ ((command : Command) × Says command (words_of line) × PlaysCommand command old new)

-- the lines are played one after another
abbrev pub PlayLines : List (List ℕ) → Stage → Stage → Type 0
PlayLines [] old new = new ≡ old
PlayLines (line ∷ lines) old new = (next : Stage) × PlaysLine line old next × PlayLines lines next new

-- what the output held, and holds afterwards, where that is known
pub record Outputs : Type 0 where
  pub before : Option (List ℕ)
  pub after : Option (List ℕ)

abbrev pub outputs_of : Option (List ℕ) → Option (List ℕ) → Outputs
outputs_of before after = record { before = before; after = after }

-- all lines of the bytes are played, and leave this session; what they print stands behind what the
-- output held
pub record EndsPlay (old : Stage) (session : Session) (outputs : Outputs) (bytes : List ℕ) : Type 0 where
  pub phase : Phase
  pub printed : List ℕ
  pub played : PlayLines (lines_of bytes) old (stage_of session phase printed)
  pub appended : Appends outputs.before outputs.after printed

-- a session of the seats of a new store of these sizes: seat 0 is in use, and there is no record
pub record IsNewSession (config : Config) (store : StoreId) (session : Session) : Type 0 where
  pub config_is : session.config ≡ config
  pub seats_are : AreNew store config.seats session.seats.items
  pub used_is : session.used ≡ 0
  pub no_records : session.records ≡ []

-- and the store has these sizes, its merger has merged nothing, and nothing is printed
pub record IsNewStage (config : Config) (stage : Stage) : Type 0 where
  pub store : StoreId
  pub merger : CleanState
  pub sizes : HasSizes store config
  pub session : IsNewSession config store stage.session
  pub merger_is : IsNewMerger store merger
  pub phase_is : stage.phase ≡ Clean merger
  pub printed_is : stage.printed ≡ []

-- all lines of the bytes are played on a new store of these sizes, and their answers are printed;
-- at the end each seat is lawful, and what they all did is one whole history
pub record IsPlayedOn (config : Config) (outputs : Outputs) (bytes : List ℕ) : Type 0 where
  pub old : Stage
  pub session : Session
  pub is_new : IsNewStage config old
  pub ends : EndsPlay old session outputs bytes
  pub lawful : HaveWholeHistory session.seats.items
