-- What is read of a command line: the command, the numbers, flags and texts that clap's matches of
-- the words give, or why it is refused.
use Rattle.std.specs.Prelude.{◌≡◌, ◌⊎◌, ℕ, Bool, false, List, [], map, codes, Some}
use Rattle.std.specs.Prelude.{if◌then◌else◌, unwrap_or, ⊤}
use Rattle.std.specs.Option.{option_map_or}
use Rattle.std.specs.Str.{bytes_eq}
use Rattle.std.specs.Str.Parse.{digits_value, without_leading_plus}
use Rattle.clap.specs.Words.{IsAmong, Row, Text, all_of, fault_of, found_of, kind_of, one_of}
use Rattle.clap.specs.Words.{rows_of, subcommand_of}
use Rattle.clap.specs.ValueTests.{is_unsigned_in}
use Rattle.clap.specs.declared.error.Error.{Error}
use Rattle.clap.specs.declared.error.kind.ErrorKind.{ErrorKind}
use Rattle.clap.specs.declared.error.kind.ErrorKind.TheVariants as kind
use Rattle.clap.specs.declared.parser.matches.ArgMatches.{ArgMatches}
use Rattle.clsm_model.specs.declared.config.Config.{Config}
use Rattle.clsm_model.specs.Config.{IsBetween}
use Rattle.clsm_workload.specs.declared.load.Shows.{Shows}
use Rattle.clsm_command.specs.Program.{clsm, u64_max}
use Rattle.clsm_command.specs.declared.asked.AuditOptions.{AuditOptions}
use Rattle.clsm_command.specs.declared.asked.ExploreOptions.{ExploreOptions}
use Rattle.clsm_command.specs.declared.asked.Options.{Options}
use Rattle.clsm_command.specs.declared.asked.Options.TheVariants.{Audit, Explore, Run, Script}
use Rattle.clsm_command.specs.declared.asked.RunOptions.{RunOptions}
use Rattle.clsm_command.specs.declared.refusal.Refusal.{Refusal}
use Rattle.clsm_command.specs.declared.refusal.Refusal.TheVariants.{Help, Memory, Words}

-- ---- arguments

-- the matches of a command's own arguments
abbrev pub rows_in : ArgMatches → List Row
rows_in matches = rows_of (found_of matches)

-- the number of 64 bits that a text writes, and 0 where it writes none
abbrev pub number_in : Text → ℕ
number_in text =
    if is_unsigned_in 0 u64_max text then digits_value 10 (without_leading_plus text) else 0

abbrev pub number_of : Text → List Row → ℕ
number_of id rows = option_map_or number_in (one_of id rows) 0

abbrev pub flag_of : Text → List Row → Bool
flag_of id rows = option_map_or (λ text. bytes_eq text (codes "true")) (one_of id rows) false

abbrev pub texts_of : Text → List Row → List Text
texts_of id rows = unwrap_or (all_of id rows) []

-- ---- commands

-- the sizes of a store that has as many seats as the option with this name says
abbrev pub sizes : Text → List Row → Config
sizes seats rows = record {
  cells = number_of (codes "cells") rows;
  seats = number_of seats rows;
  shards = number_of (codes "shards") rows;
  run = number_of (codes "run") rows;
  patience = number_of (codes "patience") rows;
}

abbrev pub shows : List Row → Shows
shows rows = record {
  stats = flag_of (codes "stats") rows;
  progress = flag_of (codes "progress") rows;
  records = flag_of (codes "records") rows;
  clock = flag_of (codes "clock") rows;
}

abbrev pub run : List Row → RunOptions
run rows = record {
  config = sizes (codes "threads") rows;
  ops = number_of (codes "ops") rows;
  keys = number_of (codes "keys") rows;
  seed = number_of (codes "seed") rows;
  batch = flag_of (codes "batch") rows;
  many = flag_of (codes "many") rows;
  swap = flag_of (codes "swap") rows;
  wait = flag_of (codes "wait") rows;
  shows = shows rows;
}

abbrev pub audit : List Row → AuditOptions
audit rows = record {
  seats = number_of (codes "seats") rows;
  cells = number_of (codes "cells") rows;
  order = flag_of (codes "order") rows;
  history = flag_of (codes "history") rows;
}

pub record IsExplore (rows : List Row) (options : ExploreOptions) : Type 0 where
  pub cells : options.cells ≡ number_of (codes "cells") rows
  pub shards : options.shards ≡ number_of (codes "shards") rows
  pub patience : options.patience ≡ number_of (codes "patience") rows
  pub merge : options.merge ≡ flag_of (codes "merge") rows
  pub limit : options.limit ≡ number_of (codes "limit") rows
  pub answers : options.answers ≡ flag_of (codes "answers") rows
  pub schedule : options.schedule ≡ flag_of (codes "schedule") rows
  pub count : options.count ≡ flag_of (codes "count") rows
  pub progress : options.progress ≡ flag_of (codes "progress") rows
  pub scripts : map (λ text. text.bytes.items) options.scripts.items
      ≡ texts_of (codes "scripts") rows

abbrev pub IsCommand : Text → Type 0
IsCommand name = (name ≡ codes "script") ⊎ ((name ≡ codes "run")
    ⊎ ((name ≡ codes "audit") ⊎ (name ≡ codes "explore")))

-- the command with this name was asked for, and its matches give these options
abbrev pub IsAnswer : Text → List Row → Options → Type 0
IsAnswer name rows (Script config) = (name ≡ codes "script") × (config ≡ sizes (codes "seats") rows)
IsAnswer name rows (Run options) = (name ≡ codes "run") × (options ≡ run rows)
IsAnswer name rows (Audit options) = (name ≡ codes "audit") × (options ≡ audit rows)
IsAnswer name rows (Explore options) = (name ≡ codes "explore") × IsExplore rows options

-- the numbers of `clsm run` that have ranges
abbrev pub AreInRange : List Row → Type 0
AreInRange rows = IsBetween 1 64 (number_of (codes "threads") rows)
    × IsBetween 0 1000000 (number_of (codes "ops") rows)
    × IsBetween 1 1000000 (number_of (codes "keys") rows)

-- the limit of `clsm explore` has a range
abbrev pub IsLimitInRange : List Row → Type 0
IsLimitInRange rows = IsBetween 1 4000000 (number_of (codes "limit") rows)

-- the threads, calls and keys of `clsm run` are in their ranges, and so is the limit of
-- `clsm explore`
abbrev pub IsInRange : Options → Type 0
IsInRange (Run options) = IsBetween 1 64 options.config.seats × IsBetween 0 1000000 options.ops
    × IsBetween 1 1000000 options.keys
IsInRange (Explore options) = IsBetween 1 4000000 options.limit
IsInRange _ = ⊤

-- ---- the whole command line

-- clap finds no fault in the words, and the command that it enters gives these options
abbrev pub IsParsed : List Text → Options → Type 0
IsParsed words options = (fault_of clsm words ≡ [])
    × (name : Text) × (rows : List Row) × (subcommand_of clsm words ≡ Some (name, rows))
    × IsAnswer name rows options

abbrev pub refusal_for : ErrorKind → Error → Refusal
refusal_for kind.DisplayHelp error = Help error
refusal_for kind.DisplayVersion error = Help error
refusal_for kind.OutOfMemory error = Memory
refusal_for _ error = Words error

-- how clap's error is handed on
abbrev pub refusal_of : Error → Refusal
refusal_of error = refusal_for (kind_of error) error

-- memory was wanted, or clap's error for a fault that it finds in the words is handed on
abbrev pub IsRefused : List Text → Refusal → Type 0
IsRefused words refusal = (refusal ≡ Memory)
    ⊎ ((error : Error) × IsAmong (kind_of error) (fault_of clsm words)
    × (refusal ≡ refusal_of error))
