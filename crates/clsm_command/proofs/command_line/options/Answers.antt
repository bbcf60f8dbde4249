use Rattle.std.proofs.Common.{◌≡◌, ◌∙◌, List, [], map, subst, sym}
use Rattle.clap.specs.Words.{HasKind, Kinds, Row, Text}
use Rattle.clap.specs.declared.error.Error.{Error}
use Rattle.clap.specs.declared.parser.matches.ArgMatches.{ArgMatches}
use Rattle.clsm_command.proofs.Entered.{faults_of, known, met_as, refused_as, rows_met}
use Rattle.clsm_command.specs.Answers.{IsAnswer, IsInRange, rows_in}
use Rattle.clsm_model.specs.Config.{IsBetween}
use Rattle.clsm_command.specs.declared.asked.Options.{Options}
use Rattle.clsm_command.specs.declared.asked.Options.TheVariants.{Audit, Explore, Run, Script}
use Rattle.clsm_command.specs.declared.asked.RunOptions.{RunOptions}
use Rattle.clsm_command.proofs.Ranges.{AreRanged, in_range}
use Rattle.clsm_command.proofs.command_line.options.Goals as goal

pub chosen-requires : goal.chosen-requires
chosen-requires g c =
    let met = met_as c.in_ok-matches.matches c.in-Some.name.now (rows_in c.in-Some.inner.now) c.in-Some.ensures.name c.in-Some.ensures.rows in
    known (map g.S.AsStr.text c.args.words.now) c.in-Some.name.now _
    (sym (rows_met c.in_ok-command.command c.in_ok-matches.matches _ c.in_ok-command.ensures c.in_ok-matches.ensures.matches) ∙ met)

pub returns-in_err-matches-clause-refused : goal.returns-in_err-matches-clause-refused
returns-in_err-matches-clause-refused g c =
    let kind = faults_of {X = Error} HasKind c.in_err-matches.field-0.0 c.in_ok-command.command (map g.S.AsStr.text c.args.words.now)
    c.in_ok-command.ensures c.in_err-matches.ensures.kinds in
    refused_as c.from_residual-in_err-matches.result (map g.S.AsStr.text c.args.words.now) c.in_err-matches.field-0.0 kind
    c.from_residual-in_err-matches.ensures.1

pub returns-clause-parsed : goal.returns-clause-parsed
returns-clause-parsed g c =
    let words = map g.S.AsStr.text c.args.words.now in
    let met = met_as c.in_ok-matches.matches c.in-Some.name.now (rows_in c.in-Some.inner.now) c.in-Some.ensures.name c.in-Some.ensures.rows in
    let faultless = faults_of {X = ArgMatches} (λ (kinds : Kinds) (m : ArgMatches). kinds ≡ []) c.in_ok-matches.matches c.in_ok-command.command words
    c.in_ok-command.ensures c.in_ok-matches.ensures.kinds in
    let entered = sym (rows_met c.in_ok-command.command c.in_ok-matches.matches words c.in_ok-command.ensures c.in_ok-matches.ensures.matches) ∙ met in
    (faultless, c.in-Some.name.now, rows_in c.in-Some.inner.now, entered, c.in_ok-chosen.ensures)

-- what was read is what the rows give, and those are in their ranges
in_range_as : (name : Text) (rows : List Row) (options : Options) → AreRanged name rows → IsAnswer name rows options → IsInRange options
in_range_as name rows (Script config) ranges answer = tt
in_range_as name rows (Run options) ranges answer =
    subst (λ (o : RunOptions). IsInRange (Run o)) (sym answer.1) (ranges.run answer.0)
in_range_as name rows (Audit options) ranges answer = tt
in_range_as name rows (Explore options) ranges answer =
    subst (IsBetween 1 4000000) (sym answer.1.limit) (ranges.explore answer.0)

pub returns-clause-range : goal.returns-clause-range
returns-clause-range g c =
    let parsed = returns-clause-parsed g c in
    in_range_as parsed.1 parsed.2 c.in_ok-chosen.field-0
    (in_range (map g.S.AsStr.text c.args.words.now) parsed.1 parsed.2 parsed.0 parsed.3) parsed.4
