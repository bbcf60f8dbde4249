-- The commands of the program, each with its arguments and their defaults.
use Rattle.std.specs.Prelude.{◌≡◌, List, [], ◌∷◌, ℕ, Some, true, false, codes}
use Rattle.clap.specs.Words.{App, Rule, Shape, Text, app_of, new_rule}
use Rattle.clap.specs.Simple.{new_shape}
use Rattle.clap.specs.declared.builder.action.ArgAction.TheVariants.{SetTrue}
use Rattle.clap.specs.declared.builder.command.Command.{Command}
use Rattle.clap.specs.declared.builder.command.Command.TheViews.{out-Command}
use Rattle.clap.specs.declared.builder.value_parser.ValueParser.TheVariants as parser

-- ---- arguments

abbrev pub u64_max : ℕ
u64_max = 18446744073709551615

-- `--NAME N`, a number from low to high
abbrev pub number : Text → Text → ℕ → ℕ → Rule
number name default low high = record (new_rule name) {
  long = Some name;
  value_names = 1;
  defaults = default ∷ [];
  parser = Some (parser.Unsigned low high);
}

-- `--NAME N`, any number of 64 bits
abbrev pub size : Text → Text → Rule
size name default = number name default 0 u64_max

-- `--NAME`
abbrev pub flag : Text → Rule
flag name = record (new_rule name) { long = Some name; action = Some SetTrue }

-- one to three words
abbrev pub scripts : Rule
scripts = record (new_rule (codes "scripts")) {
  value_names = 1;
  range = Some (record { start_inclusive = 1; end_inclusive = 3 });
  required = true;
}

-- ---- commands

abbrev pub command : Text → List Rule → Shape
command name arguments = record (new_shape name) { rules = arguments }

abbrev pub script : Shape
script = command (codes "script")
    (size (codes "cells") (codes "4")
    ∷ size (codes "seats") (codes "1")
    ∷ size (codes "shards") (codes "2")
    ∷ size (codes "run") (codes "64")
    ∷ size (codes "patience") (codes "8")
    ∷ [])

abbrev pub run : Shape
run = command (codes "run")
    (number (codes "threads") (codes "4") 1 64
    ∷ number (codes "ops") (codes "1000") 0 1000000
    ∷ number (codes "keys") (codes "64") 1 1000000
    ∷ size (codes "seed") (codes "1")
    ∷ size (codes "cells") (codes "1024")
    ∷ size (codes "shards") (codes "64")
    ∷ size (codes "run") (codes "65536")
    ∷ size (codes "patience") (codes "16")
    ∷ flag (codes "batch")
    ∷ flag (codes "many")
    ∷ flag (codes "swap")
    ∷ flag (codes "wait")
    ∷ flag (codes "stats")
    ∷ flag (codes "progress")
    ∷ flag (codes "records")
    ∷ flag (codes "clock")
    ∷ [])

abbrev pub audit : Shape
audit = command (codes "audit")
    (size (codes "seats") (codes "1")
    ∷ size (codes "cells") (codes "65536")
    ∷ flag (codes "order")
    ∷ flag (codes "history")
    ∷ [])

abbrev pub explore : Shape
explore = command (codes "explore")
    (size (codes "cells") (codes "4")
    ∷ size (codes "shards") (codes "2")
    ∷ size (codes "patience") (codes "0")
    ∷ flag (codes "merge")
    ∷ number (codes "limit") (codes "1000000") 1 4000000
    ∷ flag (codes "answers")
    ∷ flag (codes "schedule")
    ∷ flag (codes "count")
    ∷ flag (codes "progress")
    ∷ scripts
    ∷ [])

-- the whole program: a command is wanted, `--help` and `--version` are there
abbrev pub clsm : App
clsm = record {
  top = record (new_shape (codes "clsm")) {
    is_leaf = false;
    disable_help_subcommand = true;
    has_version = true;
    subcommand_required = true;
  };
  subs = script ∷ run ∷ audit ∷ explore ∷ [];
}

-- the command is this one, and has no argument that all commands share
abbrev pub Is : Shape → Command → Type 0
Is shape c = (app_of c ≡ record { top = shape; subs = [] })
    × ((out-Command c).has_globals ≡ false)

-- the command is the whole program
abbrev pub IsProgram : Command → Type 0
IsProgram c = app_of c ≡ clsm
