-- What is done for the options that are read.
use Rattle.std.specs.Prelude.{◌≡◌, ℕ, IfSome, List, Option, length, ⊤}
use Rattle.clap.specs.Words.{Text}
use Rattle.clap.specs.declared.error.Error.{Error}
use Rattle.clsm_model.specs.declared.config.Config.{Config}
use Rattle.clsm_model.specs.Config.{IsSound}
use Rattle.clsm_explore.specs.Scripts.{FindsFault as ComesToFault, IsExplored}
use Rattle.clsm_explore.specs.declared.scripts.Exploration.{Exploration}
use Rattle.clsm_workload.specs.Run.{EndsWell, FindsFault}
use Rattle.clsm_workload.specs.declared.load.AskedRun.{AskedRun}
use Rattle.clsm_script.specs.Lines.{IsPlayedOn, outputs_of}
use Rattle.clsm_script.specs.Script.{IsScript}
use Rattle.clsm_text.specs.Audit.{AreLawful, PrintsFault, PrintsVerdict}
use Rattle.clsm_text.specs.declared.verdict.Verdict.TheVariants.{Lawful}
use Rattle.clsm_command.specs.Answers.{IsInRange, IsParsed, IsRefused}
use Rattle.clsm_command.specs.declared.asked.AuditOptions.{AuditOptions}
use Rattle.clsm_command.specs.declared.asked.ExploreOptions.{ExploreOptions}
use Rattle.clsm_command.specs.declared.asked.Options.{Options}
use Rattle.clsm_command.specs.declared.asked.Options.TheVariants.{Audit, Explore, Run, Script}
use Rattle.clsm_command.specs.declared.asked.RunOptions.{RunOptions}
use Rattle.clsm_command.specs.declared.refusal.Refusal.TheVariants.{Help}

-- the options ask for this run
pub record AsksRun (options : RunOptions) (asked : AskedRun) : Type 0 where
  pub config : asked.config ≡ options.config
  pub ops : asked.load.ops ≡ options.ops
  pub keys : asked.load.keys ≡ options.keys
  pub seed : asked.load.seed ≡ options.seed
  pub batch : asked.load.batch ≡ options.batch
  pub many : asked.load.many ≡ options.many
  pub swap : asked.load.swap ≡ options.swap
  pub waits : asked.waits ≡ options.wait
  pub shows : asked.shows ≡ options.shows

-- the options ask for this exploration, whose runs of level 1 have room for four entries
pub record AsksExploration (options : ExploreOptions) (asked : Exploration) : Type 0 where
  pub cells : asked.config.cells ≡ options.cells
  pub shards : asked.config.shards ≡ options.shards
  pub run : asked.config.run ≡ 4
  pub patience : asked.config.patience ≡ options.patience
  pub scripts : asked.scripts.now ≡ options.scripts.items
  pub merge : asked.merge ≡ options.merge
  pub limit : asked.limit ≡ options.limit
  pub answers : asked.shows.answers ≡ options.answers
  pub schedule : asked.shows.schedule ≡ options.schedule
  pub count : asked.shows.count ≡ options.count

-- the sizes by which records are audited, of which the audit takes the first two
abbrev pub audit_sizes : AuditOptions → Config
audit_sizes options = record { cells = options.cells; seats = options.seats; shards = 1; run = 4; patience = 0 }

-- the sizes of the machine that is explored
abbrev pub explored_sizes : ExploreOptions → Config
explored_sizes options = record {
  cells = options.cells;
  seats = length options.scripts.items;
  shards = options.shards;
  run = 4;
  patience = options.patience;
}

-- the sizes that are asked for are in their ranges; an audit wants none
abbrev pub HasSoundSizes : Options → Type 0
HasSoundSizes (Script config) = IsSound config
HasSoundSizes (Run options) = IsSound options.config
HasSoundSizes (Audit options) = ⊤
HasSoundSizes (Explore options) = IsSound (explored_sizes options)

-- the run that is asked for ends well, and prints this
abbrev pub Runs : RunOptions → Option (List ℕ) → Option (List ℕ) → Type 0
Runs options before after = (asked : AskedRun) × AsksRun options asked × EndsWell asked before after

-- or its audit finds a fault
abbrev pub RunsIntoFault : RunOptions → Option (List ℕ) → Option (List ℕ) → Type 0
RunsIntoFault options before after = (asked : AskedRun) × AsksRun options asked × FindsFault asked before after

-- the exploration that is asked for went through, and prints this
abbrev pub Explores : ExploreOptions → Option (List ℕ) → Option (List ℕ) → Type 0
Explores options before after = (asked : Exploration) × AsksExploration options asked × IsExplored asked before after

-- or it comes to a fault, and says so
abbrev pub ExploresIntoFault : ExploreOptions → Option (List ℕ) → Option (List ℕ) → Type 0
ExploresIntoFault options before after = (asked : Exploration) × AsksExploration options asked × ComesToFault asked before after

-- the bytes are a script, which is played on a store of these sizes, and prints this
abbrev pub PlaysScript : Config → Option (List ℕ) → Option (List ℕ) → List ℕ → Type 0
PlaysScript config before after bytes = IsScript bytes × IsPlayedOn config (outputs_of before after) bytes

-- what is asked for is done to its end with this input, where its bytes are known, and what it
-- prints stands behind what the output held
abbrev pub IsDone : Options → Option (List ℕ) → Option (List ℕ) → Option (List ℕ) → Type 0
IsDone (Script config) input before after = IfSome input (PlaysScript config before after)
IsDone (Run options) input before after = Runs options before after
IsDone (Audit options) input before after =
    IfSome input (AreLawful (audit_sizes options) options.order) × PrintsVerdict options.history before after Lawful
IsDone (Explore options) input before after = Explores options before after

-- a fault is found, and printed
abbrev pub IsFaulty : Options → Option (List ℕ) → Option (List ℕ) → Option (List ℕ) → Type 0
IsFaulty (Script config) input before after = ⊥
IsFaulty (Run options) input before after = RunsIntoFault options before after
IsFaulty (Audit options) input before after = IfSome input (PrintsFault (audit_sizes options) options.order before after)
IsFaulty (Explore options) input before after = ExploresIntoFault options before after

-- the words ask for something, of which this holds
pub record IsAskedFor (words : List Text) (Holds : Options → Type 0) : Type 0 where
  pub options : Options
  pub parsed : IsParsed words options
  pub range : IsInRange options
  pub holds : Holds options

-- the words ask for help or for the version
abbrev pub IsHelp : List Text → Type 0
IsHelp words = (error : Error) × IsRefused words (Help error)
